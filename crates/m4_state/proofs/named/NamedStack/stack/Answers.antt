use Rattle.std.proofs.Common.{rules}
use Rattle.m4_state.proofs.named.NamedStack.stack.Goals as goal

pub returns : goal.returns
returns c = search rules
