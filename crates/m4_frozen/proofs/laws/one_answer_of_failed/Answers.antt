-- The law, from `Answered`.
use Rattle.m4_frozen.proofs.Answered as law
use Rattle.m4_frozen.proofs.laws.one_answer_of_failed.Goals as goal

pub returns : goal.returns
returns c = law.one_answer_of_failed
