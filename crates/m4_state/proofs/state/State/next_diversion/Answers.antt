use Rattle.std.proofs.Common.{rules}
use Rattle.m4_state.proofs.state.State.next_diversion.Goals as goal

pub returns-clause-next : goal.returns-clause-next
returns-clause-next c = search rules
