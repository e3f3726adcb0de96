use Rattle.std.proofs.Common.{◌≡◌, zero, None, length}
use Rattle.m4_eval.specs.EvaluateSteps.{values_from, value_at}
use Rattle.m4_eval.specs.GrammarView.{place}
use Rattle.m4_eval.specs.ChainView.{frames_of}
use Rattle.m4_eval.proofs.chain.chain_value.Given as goal

-- the text that is left gives the value of the whole
abbrev pub invariant-loop-rest : goal.invariant-loop-rest
invariant-loop-rest l = values_from zero (place (frames_of l.left) None) l.rest ≡ value_at l.text

abbrev pub decreases-loop-rest : goal.decreases-loop-rest
decreases-loop-rest l = length l.rest
