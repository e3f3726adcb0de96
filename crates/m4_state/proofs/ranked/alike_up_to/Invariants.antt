-- The bytes before k are the same.
use Rattle.std.proofs.Common.{◌-◌, ◌≤◌}
use Rattle.m4_state.specs.ByteWords.{BeginsAlike}
use Rattle.m4_state.proofs.ranked.alike_up_to.Given as goal

abbrev pub invariant-loop-k : goal.invariant-loop-k
invariant-loop-k l = record {
  most : l.k ≤ l.most;
  alike : BeginsAlike l.k l.a l.b;
}

abbrev pub decreases-loop-k : goal.decreases-loop-k
decreases-loop-k l = l.most - l.k
