use Rattle.std.proofs.Common.{◌≡◌, ◌+◌, ◌-◌, ◌≤◌, length, drop}
use Rattle.m4_input.specs.Ascii.{is_space}
use Rattle.m4_input.specs.Token.{run_length}
use Rattle.m4_eval.proofs.blank.spaces_len.Given as goal

-- the run is the bytes that were counted and the run after them
abbrev pub invariant-loop-k : goal.invariant-loop-k
invariant-loop-k l = (l.k ≤ length l.bytes) × (l.k + run_length is_space (drop l.k l.bytes) ≡ run_length is_space l.bytes)

abbrev pub decreases-loop-k : goal.decreases-loop-k
decreases-loop-k l = length l.bytes - l.k
