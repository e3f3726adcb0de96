-- The law, from `TwoRuns`.
use Rattle.m4_engine.proofs.TwoRuns as law
use Rattle.m4_engine.proofs.laws.two_runs.Goals as goal

pub returns : goal.returns
returns c = law.two_runs
