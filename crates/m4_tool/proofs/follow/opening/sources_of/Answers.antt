use Rattle.std.proofs.Common.{arith}
use Rattle.std.proofs.lemmas.Grind.{common_steps}
use Rattle.m4_tool.proofs.follow.opening.sources_of.Goals as goal

pub returns-then-is_empty-clause-sources : goal.returns-then-is_empty-clause-sources
returns-then-is_empty-clause-sources g c = grind (arith, common_steps)

pub returns-clause-sources : goal.returns-clause-sources
returns-clause-sources g c = grind (arith, common_steps)
