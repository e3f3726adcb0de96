-- The laws, from `Limits`.
use Rattle.m4_engine.proofs.Limits as law
use Rattle.m4_engine.proofs.laws.larger_limits.Goals as goal

pub returns-clause-calls : goal.returns-clause-calls
returns-clause-calls c = law.larger_calls

pub returns-clause-nesting : goal.returns-clause-nesting
returns-clause-nesting c = law.larger_nesting
