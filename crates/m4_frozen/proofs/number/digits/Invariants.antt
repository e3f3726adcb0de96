-- The digits so far, and those that are found in what is left, are those of all.
use Rattle.std.proofs.Common.{◌≡◌, ◌++◌, drop, take}
use Rattle.m4_frozen.specs.ReaderSteps.{digits_at}
use Rattle.m4_frozen.proofs.number.digits.Given as goal

abbrev pub invariant-loop-i : goal.invariant-loop-i
invariant-loop-i l = (take l.i l.bytes ++ (digits_at (drop l.i l.bytes)).0 ≡ (digits_at l.bytes).0)
    × ((digits_at (drop l.i l.bytes)).1 ≡ (digits_at l.bytes).1)
