-- ReadExpression: reads an expression's text byte by byte, with its open parts on a stack.
-- Not believed: the law `ReadsExpressions` ties it to SpellsExpression.
-- Words: Frame, Reading, literal_at, operator_at, completed, joined_above, read_from, expression_at.
use Rattle.std.specs.Prelude.{ℕ, zero, suc, ◌+◌, ◌==◌, nat_le, ◌&&◌, ◌||◌, Bool, true, false, List, [], ◌∷◌, drop}
use Rattle.std.specs.Prelude.{length, map, Option, Some, None, option_map, option_and_then, if◌then◌else◌}
use Rattle.std.specs.List.{list_all}
use Rattle.std.specs.Char.{digit_value, is_digit}
use Rattle.std.specs.Int.Digits.{number_from_digits}
use Rattle.m4_input.specs.Ascii.{is_space, open_parenthesis, close_parenthesis, digit_zero}
use Rattle.m4_eval.specs.declared.operator.Sign.{Sign}
use Rattle.m4_eval.specs.declared.operator.Sign.TheVariants.{Positive, Negative, Complement, Not}
use Rattle.m4_eval.specs.declared.operator.Operator.{Operator}
use Rattle.m4_eval.specs.declared.operator.Operator.TheVariants.{Multiply, Divide, Remainder, Add, Subtract, ShiftLeft}
use Rattle.m4_eval.specs.declared.operator.Operator.TheVariants.{ShiftRight, Less, LessOrEqual, Greater, GreaterOrEqual}
use Rattle.m4_eval.specs.declared.operator.Operator.TheVariants.{Equal, NotEqual, BitAnd, BitXor, BitOr, And, Or}
use Rattle.m4_eval.specs.Expression.{Expression, Number, Group, Signed, Joined, level_of}

-- one step, and then the next one if there was one
infixl 10 ◌>>=◌
abbrev pub ◌>>=◌ : {A B : Type 0} → Option A → (A → Option B) → Option B
o >>= f = option_and_then f o

-- the rest only if the test holds
infixl 10 ◌>>◌
abbrev pub ◌>>◌ : {B : Type 0} → Bool → Option B → Option B
test >> rest = if test then rest else None

-- b':'
abbrev pub colon : ℕ
colon = 58

-- the number that digits and letters spell in a radix
abbrev pub number_in : ℕ → List ℕ → ℕ
number_in radix digits = number_from_digits radix (map digit_value digits)

-- a digit or a letter
abbrev pub is_alphanumeric : ℕ → Bool
is_alphanumeric b = is_digit b 36

-- the digits and letters at the start
abbrev pub run_of : List ℕ → List ℕ
run_of [] = []
run_of (b ∷ x) = if is_alphanumeric b then b ∷ run_of x else []

-- the number that digits spell in a radix
abbrev pub number_of : ℕ → List ℕ → Option ℕ
number_of radix [] = None
number_of radix (b ∷ x) =
    list_all (λ d. is_digit d radix) (b ∷ x) >> Some (number_in radix (b ∷ x))

-- a number, and the count of bytes that its literal has after the first
abbrev pub of_length : ℕ → Option ℕ → Option (ℕ × ℕ)
of_length len o = option_map (λ n. (n, len)) o

-- the literal after `0r` and the digits of a radix
abbrev pub after_radix : ℕ → List ℕ → List ℕ → Option (ℕ × ℕ)
after_radix radix said [] = None
after_radix radix said (c ∷ x) =
    (c == colon) >> ((nat_le 2 radix && nat_le radix 36)
    >> of_length (suc (suc (length said + length (run_of x)))) (number_of radix (run_of x)))

-- the literal after `0r`
abbrev pub in_stated_radix : List ℕ → Option (ℕ × ℕ)
in_stated_radix x =
    number_of 10 (run_of x) >>= λ radix. after_radix radix (run_of x) (drop (length (run_of x)) x)

-- the literal after the mark of a radix, which is one byte after the first
abbrev pub in_marked_radix : ℕ → List ℕ → Option (ℕ × ℕ)
in_marked_radix radix x = of_length (suc (length (run_of x))) (number_of radix (run_of x))

-- the literal after its first digit
abbrev pub in_radix_from : ℕ → ℕ → List ℕ → Option (ℕ × ℕ)
in_radix_from radix b x = of_length (length (run_of x)) (number_of radix (b ∷ run_of x))

-- a letter in either case
abbrev pub is_either : ℕ → ℕ → ℕ → Bool
is_either b small capital = (b == small) || (b == capital)

-- the literal after a zero at its start
abbrev pub after_zero : List ℕ → Option (ℕ × ℕ)
after_zero [] = Some (0, 0)
after_zero (c ∷ x) =
    if is_either c 120 88 then in_marked_radix 16 x
    else (if is_either c 98 66 then in_marked_radix 2 x
    else (if is_either c 114 82 then in_stated_radix x
    else in_radix_from 8 digit_zero (c ∷ x)))

-- the literal that begins with a byte: its number, and how many bytes it has after that one
abbrev pub literal_at : ℕ → List ℕ → Option (ℕ × ℕ)
literal_at b x =
    if b == digit_zero then after_zero x else (is_digit b 10 >> in_radix_from 10 b x)

-- the byte as a sign, if it is one
abbrev pub sign_at : ℕ → Option Sign
sign_at b =
    if b == 43 then Some Positive
    else (if b == 45 then Some Negative
    else (if b == 126 then Some Complement else (if b == 33 then Some Not else None)))

-- an operator of one byte or, if the next byte is `second`, another one of two bytes
abbrev pub or_two : Option Operator → ℕ → Operator → List ℕ → Option (Operator × ℕ)
or_two one second two [] = option_map (λ o. (o, 0)) one
or_two one second two (c ∷ x) = if c == second then Some (two, 1) else option_map (λ o. (o, 0)) one

-- the same, if the second byte may be one of two
abbrev pub or_either : Operator → ℕ → Operator → ℕ → Operator → List ℕ → Option (Operator × ℕ)
or_either one second two third other [] = Some (one, 0)
or_either one second two third other (c ∷ x) =
    if c == second then Some (two, 1) else (if c == third then Some (other, 1) else Some (one, 0))

-- the operator that begins with a byte, and how many bytes it has after that one
abbrev pub operator_at : ℕ → List ℕ → Option (Operator × ℕ)
operator_at b x =
    if b == 42 then Some (Multiply, 0)
    else (if b == 47 then Some (Divide, 0)
    else (if b == 37 then Some (Remainder, 0)
    else (if b == 43 then Some (Add, 0)
    else (if b == 45 then Some (Subtract, 0)
    else (if b == 60 then or_either Less 60 ShiftLeft 61 LessOrEqual x
    else (if b == 62 then or_either Greater 62 ShiftRight 61 GreaterOrEqual x
    else (if b == 61 then or_two None 61 Equal x
    else (if b == 33 then or_two None 61 NotEqual x
    else (if b == 38 then or_two (Some BitAnd) 38 And x
    else (if b == 94 then Some (BitXor, 0)
    else (if b == 124 then or_two (Some BitOr) 124 Or x else None)))))))))))

-- an open part of an expression: it needs an operand
pub data Frame : Type 0 where
  -- an open parenthesis
  Opened : Frame
  -- a sign
  Prefixed : Sign → Frame
  -- a left operand and its operator
  Left : Expression → Operator → Frame

-- the state of reading a text, with its open parts, the innermost first
pub data Reading : Type 0 where
  -- before an operand
  Before : List Frame → Reading
  -- after an operand
  After : List Frame → Expression → Reading

-- an operand with the open signs before it
abbrev pub completed : List Frame → Expression → Reading
completed [] e = After [] e
completed (Opened ∷ w) e = After (Opened ∷ w) e
completed (Prefixed s ∷ w) e = completed w (Signed s e)
completed (Left d o ∷ w) e = After (Left d o ∷ w) e

-- an operand joined with the open left operands whose operators bind at least as tightly as a level
abbrev pub joined_above : ℕ → List Frame → Expression → List Frame × Expression
joined_above level [] e = ([], e)
joined_above level (Opened ∷ w) e = (Opened ∷ w, e)
joined_above level (Prefixed s ∷ w) e = (Prefixed s ∷ w, e)
joined_above level (Left d o ∷ w) e =
    elim (nat_le level (level_of o)) [
      | true ↦ joined_above level w (Joined o d e)
      | false ↦ (Left d o ∷ w, e)
    ]

-- the state after a closing parenthesis
abbrev pub closed : List Frame → Expression → Option Reading
closed [] e = None
closed (Opened ∷ w) e = Some (completed w (Group e))
closed (Prefixed s ∷ w) e = None
closed (Left d o ∷ w) e = None

-- the expression, if no part is open
abbrev pub whole : List Frame → Expression → Option Expression
whole [] e = Some e
whole (f ∷ w) e = None

-- the step at a byte before an operand, and how many more bytes it reads
abbrev pub step_before : List Frame → ℕ → List ℕ → Option (Reading × ℕ)
step_before w b x =
    if b == open_parenthesis then Some (Before (Opened ∷ w), 0)
    else elim (sign_at b) [
      | Some s ↦ Some (Before (Prefixed s ∷ w), 0)
      | None ↦ literal_at b x >>= λ n. Some (completed w (Number n.0), n.1)
    ]

-- the state after an operator: open operators that bind at least as tightly are joined first
abbrev pub operated : Operator → List Frame × Expression → Reading
operated o j = Before (Left j.1 o ∷ j.0)

-- the step at a byte after an operand, and how many more bytes it reads
abbrev pub step_after : List Frame → Expression → ℕ → List ℕ → Option (Reading × ℕ)
step_after w e b x =
    if b == close_parenthesis
    then (closed (joined_above 1 w e).0 (joined_above 1 w e).1 >>= λ r. Some (r, 0))
    else operator_at b x >>= λ o. Some (operated o.0 (joined_above (level_of o.0) w e), o.1)

-- the step at a byte that is not white space
abbrev pub step : Reading → ℕ → List ℕ → Option (Reading × ℕ)
step (Before w) b x = step_before w b x
step (After w e) b x = step_after w e b x

-- the expression at the end of the text
abbrev pub finished : Reading → Option Expression
finished (Before w) = None
finished (After w e) = whole (joined_above 1 w e).0 (joined_above 1 w e).1

-- the expression of the bytes after the first `skip`, from a state
abbrev pub read_from : ℕ → Reading → List ℕ → Option Expression
read_from skip r [] = finished r
read_from (suc skip) r (b ∷ x) = read_from skip r x
read_from zero r (b ∷ x) =
    elim (is_space b) [
      | true ↦ read_from zero r x
      | false ↦ step r b x >>= λ p. read_from p.1 p.0 x
    ]

-- the expression that a text spells, if it spells one
abbrev pub expression_at : List ℕ → Option Expression
expression_at text = read_from zero (Before []) text
