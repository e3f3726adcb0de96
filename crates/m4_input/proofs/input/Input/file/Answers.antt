use Rattle.std.proofs.Common.{rules}
use Rattle.m4_input.proofs.input.Input.file.Goals as goal

pub returns : goal.returns
returns c = search rules
