-- Outcomes: the value that is computed while a text is read is that of the definition.
use Rattle.std.proofs.Common.{◌≡◌, ℕ, ℤ, List, Option, Some, None, option_map, refl, sym, ap, ◌∙◌, subst}
use Rattle.m4_eval.specs.declared.evaluate.Evaluated.{Evaluated}
use Rattle.m4_eval.specs.declared.evaluate.Evaluated.TheVariants as e
use Rattle.m4_eval.specs.declared.evaluate.Evaluated.TheVariants.{DivideByZero, BadExpression}
use Rattle.m4_eval.specs.declared.value.Value.{Value}
use Rattle.m4_eval.specs.Expression.{Expression}
use Rattle.m4_eval.specs.SpellsExpression.{SpellsExpression}
use Rattle.m4_eval.specs.EvaluateSteps.{number, value_at}
use Rattle.m4_eval.specs.Evaluated.{IsEvaluated, of_value, of_expression, evaluated}
use Rattle.m4_eval.specs.ReadExpression.{expression_at}
use Rattle.m4_eval.specs.Value.{value}
use Rattle.m4_eval.specs.Laws.{OneValue}
use Rattle.m4_eval.proofs.Tied.{expressions_read, others_refused, values_read}

-- the outcome by the value, if there is one
abbrev pub outcome : Option (Option ℤ) → Evaluated
outcome None = BadExpression
outcome (Some v) = of_value v

outcome_is : (e : Option Expression) → of_expression e ≡ outcome (option_map value e)
outcome_is None = refl
outcome_is (Some e) = refl

pub evaluated_is : (text : List ℕ) (v : Option Value) → v ≡ value_at text → outcome (option_map number v) ≡ evaluated text
evaluated_is text v h = ap (λ w. outcome (option_map number w)) h ∙ ap outcome (values_read text) ∙ sym (outcome_is (expression_at text))

-- by the expression that the reading finds, and by its value
read_value : (text : List ℕ) (e : Expression) → SpellsExpression e text → (v : Option ℤ) → value e ≡ v → IsEvaluated text (of_value v)
read_value text e s None h = (e, s, h)
read_value text e s (Some z) h = (e, s, h)

read_as : (text : List ℕ) (o : Option Expression) → expression_at text ≡ o → IsEvaluated text (of_expression o)
read_as text None h = (others_refused text).0 h
read_as text (Some e) h = read_value text e ((expressions_read text e).0 h) (value e) refl

-- what is computed is the value of the expression that is spelled
pub spelled_as : (text : List ℕ) (v : Evaluated) → v ≡ evaluated text → IsEvaluated text v
spelled_as text v is = subst (IsEvaluated text) (sym is) (read_as text (expression_at text) refl)

valued : (text : List ℕ) (v : Evaluated) → IsEvaluated text v → v ≡ evaluated text
valued text (e.Value z) h = sym (ap of_expression ((expressions_read text h.0).1 h.1) ∙ ap of_value h.2)
valued text DivideByZero h = sym (ap of_expression ((expressions_read text h.0).1 h.1) ∙ ap of_value h.2)
valued text BadExpression h = sym (ap of_expression ((others_refused text).1 h))

pub one_value : OneValue
one_value text v = (valued text v, spelled_as text v)
