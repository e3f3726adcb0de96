use Rattle.std.proofs.Common.{arith}
use Rattle.m4_state.proofs.Tables.{set_last}
use Rattle.m4_state.proofs.stack.put_last.Goals as goal

-- the last definition was replaced
pub returns-in-Some-clause-ok : goal.returns-in-Some-clause-ok
returns-in-Some-clause-ok c = set_last c.args.definitions.now.items c.in-Some.last c.args.definition (omega (arith, c.in-Some.ensures))
