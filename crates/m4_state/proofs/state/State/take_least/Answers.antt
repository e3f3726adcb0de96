use Rattle.std.proofs.Common.{rules}
use Rattle.m4_state.proofs.state.State.take_least.Goals as goal

pub returns-clause-none : goal.returns-clause-none
returns-clause-none c = search rules
