-- ChainView: the left operand of a chain, seen as a stack of the definitions.
-- Not believed: it only connects the code with specs/EvaluateSteps.antt. Words: frames_of.
use Rattle.std.specs.Prelude.{List, [], ◌∷◌, Option, Some, None}
use Rattle.m4_eval.specs.declared.frame.Frame.{Frame}
use Rattle.m4_eval.specs.declared.frame.Frame.TheVariants.{Left}
use Rattle.m4_eval.specs.declared.operator.Operator.{Operator}
use Rattle.m4_eval.specs.declared.value.Value.{Value}

-- the open left operand, if there is one
abbrev pub frames_of : Option (Value × Operator) → List Frame
frames_of None = []
frames_of (Some l) = Left l.0 l.1 ∷ []
