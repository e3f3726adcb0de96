use Rattle.std.proofs.Common.{arith}
use Rattle.std.proofs.lemmas.Grind.{common_steps}
use Rattle.m4_builtins.proofs.number.read_signed.Goals as goal

pub returns-in-43 : goal.returns-in-43
returns-in-43 c = grind (arith, common_steps)
