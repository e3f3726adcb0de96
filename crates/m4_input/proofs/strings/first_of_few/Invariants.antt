use Rattle.std.proofs.Common.{◌-◌, ◌≤◌, length}
use Rattle.memchr.specs.Find.{Passes, is_byte2, Nowhere}
use Rattle.m4_input.proofs.strings.first_of_few.Given as goal

-- neither byte is among those that were looked at
abbrev pub invariant-bytes : goal.invariant-bytes
invariant-bytes l = (l.k ≤ length l.text) × Nowhere (Passes (is_byte2 l.one l.other) l.text) 0 l.k

abbrev pub decreases-bytes : goal.decreases-bytes
decreases-bytes l = length l.text - l.k
