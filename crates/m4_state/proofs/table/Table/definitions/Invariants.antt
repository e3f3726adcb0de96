-- the pairs so far, with those of the places that are left
use Rattle.std.proofs.Common.{◌≡◌, ◌++◌, ◌<◌, map, drop, length}
use Rattle.std.specs.List.{All}
use Rattle.m4_state.specs.Entries.{pair_at}
use Rattle.m4_state.proofs.table.Table.definitions.Given as goal

abbrev pub invariant-loop-entry : goal.invariant-loop-entry
invariant-loop-entry l = record {
  within : All (λ r. r.place < length l.self-inside.entries.entries) l.entry-items;
  pairs : l.named.items ++ map (λ r. pair_at l.self-inside.entries.entries r.place) (drop l.entry-index l.entry-items)
      ≡ map (λ r. pair_at l.self-inside.entries.entries r.place) l.entry-items;
}
