-- The rest is read as if it came after the lines of the bytes so far.
use Rattle.std.proofs.Common.{◌≡◌, List, ℕ, ◌++◌, take}
use Rattle.m4_frozen.specs.ReaderSteps.{skip_lines}
use Rattle.m4_frozen.proofs.lines.skip_lines.Given as goal

abbrev pub invariant-loop-i : goal.invariant-loop-i
invariant-loop-i l = (more : List ℕ)
    → skip_lines l.inside (take l.i l.bytes ++ more) ≡ skip_lines l.in_comment more
