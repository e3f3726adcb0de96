-- The number so far goes on with the digits that are left, and it fits.
use Rattle.std.proofs.Common.{◌≡◌, ◌<◌, ◌^◌, drop}
use Rattle.m4_frozen.specs.Spells.{value_of}
use Rattle.m4_frozen.proofs.Digits.{value_from}
use Rattle.m4_frozen.proofs.number.value.Given as goal

abbrev pub invariant-loop-b : goal.invariant-loop-b
invariant-loop-b l = (value_from l.n (drop l.b-index l.digits) ≡ value_of l.digits) × (l.n < 2 ^ 64)
