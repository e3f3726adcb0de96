-- EvaluateSteps: an expression's value, computed while its text is read, without its syntax.
-- Not believed: the law `ValuesAreRead` ties it to ReadExpression and Value.
-- Words: as_value, signed, joined_values, Place, joined_while, values_from, value_at.
use Rattle.std.specs.Prelude.{ℕ, zero, suc, ◌==◌, nat_le, ℤ, pos, true, false, List, [], ◌∷◌, Option, Some, None}
use Rattle.std.specs.Prelude.{option_map, option_and_then, if◌then◌else◌}
use Rattle.m4_input.specs.Ascii.{is_space, open_parenthesis, close_parenthesis}
use Rattle.m4_eval.specs.declared.frame.Frame.{Frame}
use Rattle.m4_eval.specs.declared.frame.Frame.TheVariants.{Opened, Prefixed, Left}
use Rattle.m4_eval.specs.declared.operator.Sign.{Sign}
use Rattle.m4_eval.specs.declared.operator.Operator.{Operator}
use Rattle.m4_eval.specs.declared.value.Value.{Value}
use Rattle.m4_eval.specs.declared.value.Value.TheVariants.{Number, DividedByZero}
use Rattle.m4_eval.specs.Expression.{level_of}
use Rattle.m4_eval.specs.Value.{wrapped, sign_value, joined_from}
use Rattle.m4_eval.specs.ReadExpression.{◌>>=◌, literal_at, sign_at, operator_at}

-- the code's value for one of the definitions, which is none if a zero divides
abbrev pub as_value : Option ℤ → Value
as_value None = DividedByZero
as_value (Some z) = Number z

-- the other way round
abbrev pub number : Value → Option ℤ
number DividedByZero = None
number (Number z) = Some z

-- the value of a sign and its operand
abbrev pub signed : Sign → Value → Value
signed s v = as_value (option_map (sign_value s) (number v))

-- the value of an operator and two operands
abbrev pub joined_values : Operator → Value → Value → Value
joined_values o a b = as_value (option_and_then (joined_from o (number b)) (number a))

-- a place in a text: the open parts, and after an operand its value
pub record Place : Type 0 where
  pub waiting : List Frame
  pub current : Option Value

-- an operand's value with the open signs before it
abbrev pub with_signs : List Frame → Value → Place
with_signs [] v = record { waiting = []; current = Some v }
with_signs (Opened ∷ w) v = record { waiting = Opened ∷ w; current = Some v }
with_signs (Prefixed s ∷ w) v = with_signs w (signed s v)
with_signs (Left d o ∷ w) v = record { waiting = Left d o ∷ w; current = Some v }

-- an operand joined with the open left operands whose operators bind at least as tightly as a level
abbrev pub joined_while : ℕ → List Frame → Value → List Frame × Value
joined_while level [] v = ([], v)
joined_while level (Opened ∷ w) v = (Opened ∷ w, v)
joined_while level (Prefixed s ∷ w) v = (Prefixed s ∷ w, v)
joined_while level (Left d o ∷ w) v =
    elim (nat_le level (level_of o)) [
      | true ↦ joined_while level w (joined_values o d v)
      | false ↦ (Left d o ∷ w, v)
    ]

-- the place after a closing parenthesis
abbrev pub closed_place : List Frame × Value → Option Place
closed_place ([], v) = None
closed_place (Opened ∷ w, v) = Some (with_signs w v)
closed_place (Prefixed s ∷ w, v) = None
closed_place (Left d o ∷ w, v) = None

-- the step at a byte before an operand, and how many more bytes it reads
abbrev pub before_step : List Frame → ℕ → List ℕ → Option (Place × ℕ)
before_step w b x =
    if b == open_parenthesis then Some (record { waiting = Opened ∷ w; current = None }, 0)
    else elim (sign_at b) [
      | Some s ↦ Some (record { waiting = Prefixed s ∷ w; current = None }, 0)
      | None ↦ literal_at b x >>= λ n. Some (with_signs w (Number (wrapped (pos n.0))), n.1)
    ]

-- the place after an operator: open operators that bind at least as tightly are joined first
abbrev pub operated_place : Operator → List Frame × Value → Place
operated_place o j = record { waiting = Left j.1 o ∷ j.0; current = None }

-- the step at a byte after an operand, and how many more bytes it reads
abbrev pub after_step : List Frame → Value → ℕ → List ℕ → Option (Place × ℕ)
after_step w v b x =
    if b == close_parenthesis then (closed_place (joined_while 1 w v) >>= λ r. Some (r, 0))
    else operator_at b x >>= λ o. Some (operated_place o.0 (joined_while (level_of o.0) w v), o.1)

-- the step at a byte that is not white space
abbrev pub step_from : Option Value → List Frame → ℕ → List ℕ → Option (Place × ℕ)
step_from None w b x = before_step w b x
step_from (Some v) w b x = after_step w v b x

-- the value, if no part is open
abbrev pub alone : List Frame × Value → Option Value
alone ([], v) = Some v
alone (f ∷ w, v) = None

-- the value at the end of the text
abbrev pub ended : Option Value → List Frame → Option Value
ended None w = None
ended (Some v) w = alone (joined_while 1 w v)

-- the value of the bytes after the first `skip`, from a place
abbrev pub values_from : ℕ → Place → List ℕ → Option Value
values_from skip p [] = ended p.current p.waiting
values_from (suc skip) p (b ∷ x) = values_from skip p x
values_from zero p (b ∷ x) =
    elim (is_space b) [
      | true ↦ values_from zero p x
      | false ↦ step_from p.current p.waiting b x >>= λ q. values_from q.1 q.0 x
    ]

-- the value of a text, or none if it is not an expression
abbrev pub value_at : List ℕ → Option Value
value_at text = values_from zero (record { waiting = []; current = None }) text
