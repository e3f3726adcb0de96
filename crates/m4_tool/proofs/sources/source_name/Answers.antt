use Rattle.std.proofs.Common.{rules}
use Rattle.m4_tool.proofs.sources.source_name.Goals as goal

pub returns-then-eq : goal.returns-then-eq
returns-then-eq c = search rules

pub returns-else-eq : goal.returns-else-eq
returns-else-eq c = search rules
