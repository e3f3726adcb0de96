use Rattle.std.proofs.Common.{rules}
use Rattle.m4_tool.proofs.line.LineFaultFromAllocError.from.Goals as goal

pub returns : goal.returns
returns c = search rules
