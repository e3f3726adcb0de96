use Rattle.std.proofs.Common.{arith}
use Rattle.m4_state.proofs.Equal.{equal_is, all_alike}
use Rattle.m4_state.proofs.words.are_few_equal.Goals as goal

-- no byte differs
pub returns : goal.returns
returns c =
    equal_is c.args.a.now c.args.b.now
    (all_alike c.args.a.now c.args.b.now c.loop-k.k (omega arith) (omega arith) c.loop-k.invariant.alike)
