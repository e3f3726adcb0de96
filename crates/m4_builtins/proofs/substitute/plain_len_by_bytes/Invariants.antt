use Rattle.std.proofs.Common.{◌≡◌, ◌+◌, ◌-◌, ◌≤◌, length, drop, not}
use Rattle.std.specs.Prelude.{◌==◌}
use Rattle.m4_input.specs.Ascii.{dollar}
use Rattle.m4_input.specs.Token.{run_length}
use Rattle.m4_builtins.proofs.substitute.plain_len_by_bytes.Given as goal

-- the run goes on as far as it goes on from here
abbrev pub invariant-loop-k : goal.invariant-loop-k
invariant-loop-k l = (l.k ≤ length l.bytes) × (l.k + run_length (λ b. not (b == dollar)) (drop l.k l.bytes) ≡ run_length (λ b. not (b == dollar)) l.bytes)

abbrev pub decreases-loop-k : goal.decreases-loop-k
decreases-loop-k l = length l.bytes - l.k
