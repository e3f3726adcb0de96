-- Laws: the grammar decides each text, the reading follows the grammar, and written digits are read back.
-- Believed as statements, computed by `ReadExpression` and `EvaluateSteps`: the law `ReadsExpressions` and
-- the law `ValuesAreRead` are about these two. Words: OneExpression, ReadsExpressions, RefusesOthers,
-- ValuesAreRead, DigitsAreRead, OneValue.
use Rattle.std.specs.Prelude.{◌≡◌, ◌↔◌, ◌≤◌, ◌<◌, ◌^◌, ℕ, ℤ, List, Some, None, option_map, unsigned_abs, false}
use Rattle.std.specs.Fmt.{digits}
use Rattle.m4_eval.specs.Expression.{Expression}
use Rattle.m4_eval.specs.SpellsExpression.{SpellsExpression}
use Rattle.m4_eval.specs.ReadExpression.{expression_at}
use Rattle.m4_eval.specs.EvaluateSteps.{number, value_at}
use Rattle.m4_eval.specs.Value.{value}
use Rattle.m4_eval.specs.Literal.{AreDigitsOf}
use Rattle.m4_eval.specs.InRadix.{padded}
use Rattle.m4_eval.specs.declared.evaluate.Evaluated.{Evaluated}
use Rattle.m4_eval.specs.Evaluated.{IsEvaluated, evaluated}

-- a text spells at most one expression
abbrev pub OneExpression : Type 0
OneExpression =
    (text : List ℕ) (d e : Expression) → SpellsExpression d text → SpellsExpression e text → d ≡ e

-- the reading finds exactly the expression that is spelled
abbrev pub ReadsExpressions : Type 0
ReadsExpressions =
    (text : List ℕ) (e : Expression) → (expression_at text ≡ Some e) ↔ SpellsExpression e text

-- a text is refused exactly if it spells no expression
abbrev pub RefusesOthers : Type 0
RefusesOthers =
    (text : List ℕ)
    → (expression_at text ≡ None) ↔ ((e : Expression) → SpellsExpression e text → ⊥)

-- the value computed while a text is read is that of its expression
abbrev pub ValuesAreRead : Type 0
ValuesAreRead = (text : List ℕ) → option_map number (value_at text) ≡ option_map value (expression_at text)

-- the digits that are written spell the absolute value, also with zeros before them
abbrev pub DigitsAreRead : Type 0
DigitsAreRead =
    (radix width : ℕ) (z : ℤ) → 2 ≤ radix → radix ≤ 36 → unsigned_abs z < 2 ^ 32
    → AreDigitsOf radix (unsigned_abs z) (padded width (digits radix false (unsigned_abs z)))

-- a text has exactly one result, and `evaluated` is it
abbrev pub OneValue : Type 0
OneValue = (text : List ℕ) (v : Evaluated) → IsEvaluated text v ↔ (v ≡ evaluated text)
