-- The law, from `Answered`.
use Rattle.m4_frozen.proofs.Answered as law
use Rattle.m4_frozen.proofs.laws.reader_steps_tied.Goals as goal

pub returns : goal.returns
returns c = law.reader_steps_tied
