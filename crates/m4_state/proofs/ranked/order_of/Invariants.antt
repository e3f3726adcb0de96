-- The bytes before the place are the same in both names.
use Rattle.std.proofs.Common.{◌≡◌, ◌-◌, ◌≤◌, take, length}
use Rattle.m4_state.proofs.ranked.order_of.Given as goal

abbrev pub invariant-loop-at : goal.invariant-loop-at
invariant-loop-at l = record {
  before : take l.at l.a ≡ take l.at l.b;
  first : l.at ≤ length l.a;
  second : l.at ≤ length l.b;
}

abbrev pub decreases-loop-at : goal.decreases-loop-at
decreases-loop-at l = l.last - l.at
