use Rattle.std.proofs.Common.{◌≡◌, ◌≤◌, pos, length, drop}
use Rattle.m4_eval.specs.ReadExpression.{run_of}
use Rattle.std.specs.Char.{digit_value}
use Rattle.m4_eval.specs.LexerView.{bits_after}
use Rattle.m4_eval.proofs.lexer.decimal.Given as goal

-- the digits that are left lead from the number to the whole, and to the same text after them
abbrev pub invariant-loop-byte : goal.invariant-loop-byte
invariant-loop-byte l =
    (bits_after 10 l.number (run_of l.rest) ≡ bits_after 10 (pos (digit_value l.fn.first)) (run_of l.fn.after))
    × (drop (length (run_of l.rest)) l.rest ≡ drop (length (run_of l.fn.after)) l.fn.after)
    × (length l.rest ≤ length l.fn.after)

abbrev pub decreases-loop-byte : goal.decreases-loop-byte
decreases-loop-byte l = length l.rest
