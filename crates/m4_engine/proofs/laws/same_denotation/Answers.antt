-- The law, from `SameStart`.
use Rattle.m4_engine.proofs.SameStart as law
use Rattle.m4_engine.proofs.laws.same_denotation.Goals as goal

pub returns : goal.returns
returns c = law.same_denotation
