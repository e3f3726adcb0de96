-- The law, from `RunsEnd`.
use Rattle.m4_engine.proofs.RunsEnd as law
use Rattle.m4_engine.proofs.laws.run_ends.Goals as goal

pub returns : goal.returns
returns c = law.run_ends
