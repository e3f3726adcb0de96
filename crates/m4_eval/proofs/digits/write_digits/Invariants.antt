use Rattle.std.proofs.Common.{◌≡◌, ◌≤◌, length, drop, false}
use Rattle.std.specs.Fmt.{digits_onto, digits}
use Rattle.m4_eval.proofs.digits.write_digits.Given as goal

-- the digits that are left to write, followed by those that are written, are all of them
abbrev pub invariant-loop-i : goal.invariant-loop-i
invariant-loop-i l =
    (l.i ≤ 64) × (length l.room ≡ 64) × (digits_onto l.i l.base false l.rest (drop l.i l.room) ≡ digits l.base false l.number)

abbrev pub decreases-loop-i : goal.decreases-loop-i
decreases-loop-i l = l.i
