-- Numeric: the number in an argument. Its point is `reading_of`.
-- Believed. Manual: "Macro arguments". Its lemma: `NumbersFit` (the number has 32 bits with its sign).
-- Words: reading_of, number_of_reading, reading_warning, with_number.
-- own: white space before a number is skipped, after it none is; only white space is no number; a
-- number that does not fit in 32 bits with its sign is none.
use Rattle.std.specs.Prelude.{ℕ, ◌-◌, ◌^◌, ◌==◌, ◌&&◌, nat_le, ℤ, pos, Bool, true, false, not, List, [], ◌∷◌}
use Rattle.std.specs.Prelude.{Option, Some, None, drop, length, if◌then◌else◌}
use Rattle.m4_state.specs.declared.builtin.Builtin.{Builtin}
pub use Rattle.m4_state.specs.Ascii.{minus_sign as minus}
pub use Rattle.m4_state.specs.Digits.{signed}
use Rattle.m4_input.specs.Ascii.{is_space, is_digit}
use Rattle.m4_input.specs.Token.{run_length}
use Rattle.m4_builtins.specs.declared.number.Reading.{Reading}
use Rattle.m4_builtins.specs.declared.number.Reading.TheVariants.{Number, Empty, NotNumeric}
use Rattle.m4_builtins.specs.declared.place.Place.{Place}
use Rattle.m4_builtins.specs.declared.effect.Effect.{Effect}
use Rattle.m4_builtins.specs.Acted.{only_warning, warning_first}
use Rattle.m4_builtins.specs.Messages.{empty_number, not_numeric}
use Rattle.m4_builtins.specs.Subst.{number_of}

abbrev pub plus : ℕ
plus = 43  -- b'+'

-- a number after a sign, if it has 32 bits with it
abbrev pub if_it_fits : Bool → ℕ → Reading
if_it_fits negative n =
    if nat_le n (if negative then 2 ^ 31 else 2 ^ 31 - 1) then Number (signed negative n) else NotNumeric

-- whether these are only digits, and at least one
abbrev pub are_digits : List ℕ → Bool
are_digits x = not (length x == 0) && (run_length is_digit x == length x)

-- the number that the digits after a sign spell
abbrev pub read_digits : Bool → List ℕ → Reading
read_digits negative x = if are_digits x then if_it_fits negative (number_of x) else NotNumeric

-- the number of a text that begins with a sign or with digits
abbrev pub read_signed : List ℕ → Reading
read_signed [] = NotNumeric
read_signed (b ∷ x) =
    if b == minus then read_digits true x
    else (if b == plus then read_digits false x else read_digits false (b ∷ x))

-- the result of reading a numeric argument
abbrev pub reading_of : List ℕ → Reading
reading_of [] = Empty
reading_of (b ∷ x) = read_signed (drop (run_length is_space (b ∷ x)) (b ∷ x))

-- its number, if it has one
abbrev pub number_of_reading : Reading → Option ℤ
number_of_reading (Number n) = Some n
number_of_reading Empty = Some (pos 0)
number_of_reading NotNumeric = None

-- the warning about it
abbrev pub reading_warning : Place → Builtin → Reading → List ℕ
reading_warning p b (Number n) = []
reading_warning p b Empty = empty_number p b
reading_warning p b NotNumeric = not_numeric p b

-- continues with a number that was read, after the warning on an empty one; without a number it only warns
abbrev pub with_number : Place → Builtin → Reading → (ℤ → Effect) → Effect
with_number p b (Number n) does = does n
with_number p b Empty does = warning_first (empty_number p b) (does (pos 0))
with_number p b NotNumeric does = only_warning (not_numeric p b)
