use Rattle.std.proofs.Common.{rules}
use Rattle.m4_builtins.proofs.ending.m4wrap.Goals as goal

pub returns : goal.returns
returns c = search rules
