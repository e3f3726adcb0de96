use Rattle.std.proofs.Common.{arith}
use Rattle.std.proofs.lemmas.Grind.{common_steps}
use Rattle.m4_engine.proofs.machine.Machine.read_on.Goals as goal

pub returns-in_ok-_came-in-Line-clause-gives : goal.returns-in_ok-_came-in-Line-clause-gives
returns-in_ok-_came-in-Line-clause-gives g c = grind (arith, common_steps)
