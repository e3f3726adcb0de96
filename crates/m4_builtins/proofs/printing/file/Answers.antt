use Rattle.std.proofs.Common.{rules}
use Rattle.m4_builtins.proofs.printing.file.Goals as goal

pub returns : goal.returns
returns c = search rules
