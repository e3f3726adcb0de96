use Rattle.std.proofs.Common.{rules}
use Rattle.m4_state.proofs.builtin.Builtin.row.Goals as goal

pub returns-in-Undefine : goal.returns-in-Undefine
returns-in-Undefine c = search rules
