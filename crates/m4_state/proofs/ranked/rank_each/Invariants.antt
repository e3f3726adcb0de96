-- The elements before k are ranked, and all are of the places that they were of.
use Rattle.std.proofs.Common.{◌≡◌, ◌-◌, ◌≤◌, length, map, drop}
use Rattle.std.specs.List.{AllWithin}
use Rattle.m4_state.specs.ByteWords.{IsRank}
use Rattle.m4_state.specs.Entries.{name_at}
use Rattle.m4_state.proofs.ranked.rank_each.Given as goal

abbrev pub invariant-loop-k : goal.invariant-loop-k
invariant-loop-k l = record {
  within : l.k ≤ length l.run;
  long : length l.run ≡ length l.initial.run;
  places : map (λ r. r.place) l.run ≡ map (λ r. r.place) l.initial.run;
  ranks : AllWithin (λ r. IsRank (drop l.from (name_at l.entries.entries r.place)) r.rank) l.run 0 l.k;
}

abbrev pub decreases-loop-k : goal.decreases-loop-k
decreases-loop-k l = length l.initial.run - l.k
