-- NumbersFit: a number that was read of an argument has 32 bits with its sign.
use Rattle.std.proofs.Common.{◌≡◌, ℕ, zero, suc, ◌≤◌, Bool, true, false, List, [], ◌∷◌, T, refl, sym, subst, leb→le}
use Rattle.std.proofs.Common.{arith}
use Rattle.std.specs.Prelude.{◌==◌, nat_le, FitsSigned, drop, if◌then◌else◌}
use Rattle.std.specs.Int.{w32}
use Rattle.m4_input.specs.Ascii.{is_space}
use Rattle.m4_input.specs.Token.{run_length}
use Rattle.m4_builtins.specs.declared.number.Reading.{Reading}
use Rattle.m4_builtins.specs.declared.number.Reading.TheVariants.{Number, Empty, NotNumeric}
use Rattle.m4_builtins.specs.Numeric.{plus, minus, signed, if_it_fits, are_digits, read_digits, read_signed}
use Rattle.m4_builtins.specs.Numeric.{reading_of}
use Rattle.m4_builtins.specs.Subst.{number_of}
use Rattle.m4_builtins.proofs.Cases.{greatest}

-- the number of a reading fits
abbrev pub IsReading : Reading → Type 0
IsReading (Number n) = FitsSigned w32 n
IsReading Empty = Unit {0}
IsReading NotNumeric = Unit {0}

signed_fits : (negative : Bool) (n : ℕ) → n ≤ greatest negative → FitsSigned w32 (signed negative n)
signed_fits false n h = record { sfits = omega arith }
signed_fits true zero h = record { sfits = omega arith }
signed_fits true (suc n) h = record { sfits = omega arith }

number_fits : (negative : Bool) (n : ℕ) → IsReading (if_it_fits negative n)
number_fits negative n = by (nat_le n (greatest negative)) refl
  where
    by : (b : Bool) → nat_le n (greatest negative) ≡ b → IsReading (if b then Number (signed negative n) else NotNumeric)
    by true e = signed_fits negative n (leb→le n (greatest negative) (subst T (sym e) tt))
    by false e = tt

digits_fit : (negative : Bool) (x : List ℕ) → IsReading (read_digits negative x)
digits_fit negative x = by (are_digits x)
  where
    by : (b : Bool) → IsReading (if b then if_it_fits negative (number_of x) else NotNumeric)
    by true = number_fits negative (number_of x)
    by false = tt

signed_text_fits : (x : List ℕ) → IsReading (read_signed x)
signed_text_fits [] = tt
signed_text_fits (b ∷ x) = by (b == minus) (b == plus)
  where
    by : (c d : Bool) → IsReading (if c then read_digits true x else (if d then read_digits false x else read_digits false (b ∷ x)))
    by true d = digits_fit true x
    by false true = digits_fit false x
    by false false = digits_fit false (b ∷ x)

-- what is read of an argument
pub reading_fits : (x : List ℕ) → IsReading (reading_of x)
reading_fits [] = tt
reading_fits (b ∷ x) = signed_text_fits (drop (run_length is_space (b ∷ x)) (b ∷ x))
