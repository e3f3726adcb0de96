use Rattle.std.proofs.Common.{rules}
use Rattle.m4_tool.proofs.modes.canon.Goals as goal

pub returns : goal.returns
returns g c = search rules
