-- The elements before the end are of this rank.
use Rattle.std.proofs.Common.{◌≡◌, ◌-◌, ◌≤◌, length}
use Rattle.std.specs.List.{AllWithin}
use Rattle.m4_state.proofs.ranked.run_end.Given as goal

abbrev pub invariant-loop-end : goal.invariant-loop-end
invariant-loop-end l = record {
  within : l.end ≤ length l.run;
  after : l.from ≤ l.end;
  same : AllWithin (λ r. r.rank ≡ l.rank) l.run l.from l.end;
}

abbrev pub decreases-loop-end : goal.decreases-loop-end
decreases-loop-end l = length l.run - l.end
