use Rattle.std.proofs.Common.{rules}
use Rattle.m4_state.proofs.state.State.define_borrowed.Goals as goal

pub returns-clause-ok : goal.returns-clause-ok
returns-clause-ok c = search rules
