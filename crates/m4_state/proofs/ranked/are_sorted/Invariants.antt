-- The names before the place are in order, and the rank is that of the last one.
use Rattle.std.proofs.Common.{◌-◌, ◌≤◌, drop, length, slice_index_or}
use Rattle.std.specs.List.Sorted.{IsSortedWithin}
use Rattle.m4_state.specs.ByteWords.{IsRank}
use Rattle.m4_state.specs.Entries.{name_at}
use Rattle.m4_state.specs.declared.ranked.Ranked.{Ranked}
use Rattle.m4_state.proofs.RankOrder.{before}
use Rattle.m4_state.proofs.ranked.are_sorted.Given as goal

abbrev pub invariant-loop-k : goal.invariant-loop-k
invariant-loop-k l = record {
  begun : 1 ≤ l.k;
  within : l.k ≤ length l.run;
  sorted : IsSortedWithin (λ x y. before l.entries.entries x.place y.place) l.run 0 l.k;
  ranked : (d : Ranked) → IsRank (drop 0 (name_at l.entries.entries (slice_index_or l.run (l.k - 1) d).place)) l.last;
}

abbrev pub decreases-loop-k : goal.decreases-loop-k
decreases-loop-k l = length l.run - l.k
