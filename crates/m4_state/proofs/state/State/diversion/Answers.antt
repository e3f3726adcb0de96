use Rattle.std.proofs.Common.{rules}
use Rattle.m4_state.proofs.state.State.diversion.Goals as goal

pub returns : goal.returns
returns c = search rules
