use Rattle.std.proofs.Common.{rules}
use Rattle.m4_state.proofs.state.State.undefine.Goals as goal

pub returns : goal.returns
returns c = search rules
