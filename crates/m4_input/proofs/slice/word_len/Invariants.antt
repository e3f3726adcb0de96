use Rattle.std.proofs.Common.{◌≡◌, ◌+◌, ◌-◌, ◌≤◌, length, drop}
use Rattle.m4_input.specs.Ascii.{is_name_byte}
use Rattle.m4_input.specs.Token.{run_length}
use Rattle.m4_input.proofs.slice.word_len.Given as goal

-- the run goes on as far as it goes on from here
abbrev pub invariant-loop-k : goal.invariant-loop-k
invariant-loop-k l = (l.k ≤ length l.bytes) × (l.k + run_length is_name_byte (drop l.k l.bytes) ≡ run_length is_name_byte l.bytes)

abbrev pub decreases-loop-k : goal.decreases-loop-k
decreases-loop-k l = length l.bytes - l.k
