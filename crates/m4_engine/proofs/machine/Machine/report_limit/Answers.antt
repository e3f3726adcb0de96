-- The text of the message is what was appended, in its order.
use Rattle.std.proofs.Common.{◌≡◌, ◌++◌, codes, decimal, arith}
use Rattle.std.proofs.lemmas.Grind.{common_steps}
use Rattle.m4_engine.proofs.machine.Machine.report_limit.Goals as goal

pub returns-clause-engine : goal.returns-clause-engine
returns-clause-engine c =
    let said : c.deref.result.now ≡ codes "more than " ++ decimal c.args.limit ++ c.args.what.now =
    grind (arith, common_steps) in
    rw said at (rw c.place.ensures at c.add_error.ensures.engine)
