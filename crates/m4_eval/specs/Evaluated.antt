-- Evaluated: the value of the text of an expression. Its point is `IsEvaluated`.
-- Believed: IsEvaluated. `evaluated` computes it by `ReadExpression`, which finds exactly the expression that a text
-- spells, by the law `ReadsExpressions`. Manual: "Evaluating integer expressions". Words: IsEvaluated, evaluated.
use Rattle.std.specs.Prelude.{◌≡◌, ℕ, ℤ, List, Option, Some, None}
use Rattle.m4_eval.specs.declared.evaluate.Evaluated.{Evaluated}
use Rattle.m4_eval.specs.declared.evaluate.Evaluated.TheVariants.{Value, DivideByZero, BadExpression}
use Rattle.m4_eval.specs.Expression.{Expression}
use Rattle.m4_eval.specs.SpellsExpression.{SpellsExpression}
use Rattle.m4_eval.specs.ReadExpression.{expression_at}
use Rattle.m4_eval.specs.Value.{value}

-- a text's value is that of the expression that it spells, unless a zero divides in it, or it spells none
abbrev pub IsEvaluated : List ℕ → Evaluated → Type 0
IsEvaluated text (Value z) = (e : Expression) × SpellsExpression e text × (value e ≡ Some z)
IsEvaluated text DivideByZero = (e : Expression) × SpellsExpression e text × (value e ≡ None)
IsEvaluated text BadExpression = (e : Expression) → SpellsExpression e text → ⊥

-- the value, unless a zero divides
abbrev pub of_value : Option ℤ → Evaluated
of_value None = DivideByZero
of_value (Some z) = Value z

-- the value of an expression, if there is one
abbrev pub of_expression : Option Expression → Evaluated
of_expression None = BadExpression
of_expression (Some e) = of_value (value e)

-- the value of a text
abbrev pub evaluated : List ℕ → Evaluated
evaluated text = of_expression (expression_at text)
