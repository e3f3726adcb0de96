use Rattle.std.proofs.Common.{◌≡◌, zero, reverse, length}
use Rattle.m4_eval.specs.GrammarView.{place}
use Rattle.m4_eval.specs.EvaluateSteps.{values_from, value_at}
use Rattle.m4_eval.proofs.grammar.value_of.Given as goal

-- the text that is left gives the value of the whole
abbrev pub invariant-loop-byte : goal.invariant-loop-byte
invariant-loop-byte l = values_from zero (place (reverse l.waiting.items) l.operand) l.rest ≡ value_at l.text

abbrev pub decreases-loop-byte : goal.decreases-loop-byte
decreases-loop-byte l = length l.rest
