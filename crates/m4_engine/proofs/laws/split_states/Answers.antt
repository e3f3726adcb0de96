-- The law, from `Split`.
use Rattle.m4_engine.proofs.Split as law
use Rattle.m4_engine.proofs.laws.split_states.Goals as goal

pub returns : goal.returns
returns c = law.split_states
