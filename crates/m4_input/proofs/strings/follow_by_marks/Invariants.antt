use Rattle.std.proofs.Common.{◌-◌, length}
use Rattle.m4_input.specs.OpenToken.{HasPassed}
use Rattle.m4_input.proofs.strings.follow_by_marks.Given as goal

-- the string as far as it was followed
abbrev pub invariant-marks : goal.invariant-marks
invariant-marks l = HasPassed l.quotes l.may_follow l.depth l.text l.open l.k

abbrev pub decreases-marks : goal.decreases-marks
decreases-marks l = length l.text - l.k
