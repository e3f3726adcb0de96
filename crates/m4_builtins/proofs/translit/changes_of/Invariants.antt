use Rattle.std.proofs.Common.{◌≡◌, ◌≤◌, length, drop}
use Rattle.m4_builtins.specs.ByteTable.{Replaces}
use Rattle.m4_builtins.proofs.translit.changes_of.Given as goal

-- the table replaces by the places from k on
abbrev pub invariant-loop-k : goal.invariant-loop-k
invariant-loop-k l = Replaces l.changes (drop l.k l.from) (drop l.k l.to) × (length l.changes ≡ 256) × (l.k ≤ length l.from)

abbrev pub decreases-loop-k : goal.decreases-loop-k
decreases-loop-k l = l.k
