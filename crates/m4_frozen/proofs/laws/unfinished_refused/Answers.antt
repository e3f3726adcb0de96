-- The law, from `Unfinished`.
use Rattle.m4_frozen.proofs.Unfinished as law
use Rattle.m4_frozen.proofs.laws.unfinished_refused.Goals as goal

pub returns : goal.returns
returns c = law.unfinished_refused
