-- What is left to skip is skipped as all was.
use Rattle.std.proofs.Common.{◌≡◌, drop}
use Rattle.m4_frozen.specs.ReaderSteps.{skip_blanks}
use Rattle.m4_frozen.proofs.number.skip_blanks.Given as goal

abbrev pub invariant-loop-i : goal.invariant-loop-i
invariant-loop-i l = skip_blanks (drop l.i l.bytes) ≡ skip_blanks l.bytes
