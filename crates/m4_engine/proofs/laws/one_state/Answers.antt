-- The law, from `SameStart`.
use Rattle.m4_engine.proofs.SameStart as law
use Rattle.m4_engine.proofs.laws.one_state.Goals as goal

pub returns : goal.returns
returns c = law.one_state
