use Rattle.std.proofs.Common.{◌-◌, ◌≤◌, length}
use Rattle.memchr.specs.Find.{Passes, is_byte2, Nowhere}
use Rattle.m4_input.proofs.strings.first_of_two.Given as goal

-- neither byte is among those that were looked at
abbrev pub invariant-lanes : goal.invariant-lanes
invariant-lanes l = (l.k ≤ length l.text) × Nowhere (Passes (is_byte2 l.one l.other) l.text) 0 l.k

abbrev pub decreases-lanes : goal.decreases-lanes
decreases-lanes l = length l.text - l.k
