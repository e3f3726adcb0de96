use Rattle.std.proofs.Common.{rules}
use Rattle.m4_tool.proofs.line.mode_has_others.Goals as goal

pub returns-else-has_options : goal.returns-else-has_options
returns-else-has_options c = search rules
