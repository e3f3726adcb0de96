use Rattle.std.proofs.Common.{◌≡◌, ◌+◌, ◌≤◌, length}
use Rattle.m4_input.specs.Pending.{newlines_in}
use Rattle.m4_input.proofs.file.count_newlines.Given as goal

-- those so far and those of the rest
abbrev pub invariant-loop-rest : goal.invariant-loop-rest
invariant-loop-rest l = (l.count + length l.rest ≤ length l.bytes) × (l.count + newlines_in l.rest ≡ newlines_in l.bytes)

abbrev pub decreases-loop-rest : goal.decreases-loop-rest
decreases-loop-rest l = length l.rest
