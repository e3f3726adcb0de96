use Rattle.std.proofs.Common.{rules}
use Rattle.m4_input.proofs.input.Input.line.Goals as goal

pub returns-in-Some : goal.returns-in-Some
returns-in-Some c = search rules
