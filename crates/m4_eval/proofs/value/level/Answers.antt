use Rattle.std.proofs.Common.{rules}
use Rattle.m4_eval.proofs.value.level.Goals as goal

pub returns-in-Add : goal.returns-in-Add
returns-in-Add c = search rules

pub returns-in-Multiply : goal.returns-in-Multiply
returns-in-Multiply c = search rules
