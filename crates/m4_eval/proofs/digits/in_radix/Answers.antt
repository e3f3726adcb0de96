use Rattle.std.proofs.Common.{arith}
use Rattle.std.proofs.lemmas.Grind.{common_steps}
use Rattle.m4_eval.proofs.digits.in_radix.Goals as goal

pub returns : goal.returns
returns c = grind (arith, common_steps)
