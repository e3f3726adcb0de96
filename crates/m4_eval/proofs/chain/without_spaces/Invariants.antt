use Rattle.std.proofs.Common.{◌≡◌, length, drop}
use Rattle.m4_input.specs.Ascii.{is_space}
use Rattle.m4_input.specs.Token.{run_length}
use Rattle.m4_eval.proofs.chain.without_spaces.Given as goal

-- what is left has the same text after its white space
abbrev pub invariant-loop-byte : goal.invariant-loop-byte
invariant-loop-byte l = drop (run_length is_space l.rest) l.rest ≡ drop (run_length is_space l.text) l.text

abbrev pub decreases-loop-byte : goal.decreases-loop-byte
decreases-loop-byte l = length l.rest
