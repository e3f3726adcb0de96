use Rattle.std.proofs.Common.{rules}
use Rattle.m4_tool.proofs.fault.ModeFault.status.Goals as goal

pub returns-in-Frozen : goal.returns-in-Frozen
returns-in-Frozen c = search rules
