use Rattle.std.proofs.Common.{arith}
use Rattle.std.proofs.lemmas.Grind.{common_steps}
use Rattle.m4_builtins.proofs.substitute.substitute_onto.Goals as goal

pub returns : goal.returns
returns c = grind (arith, common_steps)
