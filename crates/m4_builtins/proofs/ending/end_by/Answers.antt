use Rattle.std.proofs.Common.{rules}
use Rattle.m4_builtins.proofs.ending.end_by.Goals as goal

pub returns-in-Ok : goal.returns-in-Ok
returns-in-Ok c = search rules
