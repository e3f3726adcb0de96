-- The names before k begin alike.
use Rattle.std.proofs.Common.{◌-◌, ◌≤◌, length}
use Rattle.std.specs.List.{AllWithin}
use Rattle.m4_state.specs.ByteWords.{BeginsAlike}
use Rattle.m4_state.specs.Entries.{name_at}
use Rattle.m4_state.proofs.ranked.common_front.Given as goal

abbrev pub invariant-loop-k : goal.invariant-loop-k
invariant-loop-k l = record {
  most : l.front ≤ length l.first;
  within : l.k ≤ length l.run;
  alike : AllWithin (λ r. BeginsAlike l.front l.first (name_at l.entries.entries r.place)) l.run 0 l.k;
}

abbrev pub decreases-loop-k : goal.decreases-loop-k
decreases-loop-k l = length l.run - l.k
