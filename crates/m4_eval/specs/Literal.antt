-- Literal: which bytes are a number in an expression. Its point is `IsLiteral`.
-- Believed. Manual: "Evaluating integer expressions". Words: AreDigitsOf, IsRadixPrefix, IsLiteral.
-- own: a radix is 2 to 36, in decimal, also after leading zeros; letters are digits in either case. A
-- literal may be any number: it wraps only when it is evaluated.
use Rattle.std.specs.Prelude.{◌≡◌, ◌≢◌, ℕ, ◌≤◌, List, [], ◌∷◌, ◌++◌, map, IsTrue, ◌⊎◌, codes}
use Rattle.std.specs.List.{list_all}
use Rattle.std.specs.Char.{digit_value, is_digit}
use Rattle.std.specs.Int.Digits.{number_from_digits}
use Rattle.m4_input.specs.Ascii.{digit_zero}

-- digits and letters that are digits of a radix, at least one, whose number is n
pub record AreDigitsOf (radix n : ℕ) (digits : List ℕ) : Type 0 where
  pub some : digits ≢ []
  pub below : IsTrue (list_all (λ b. is_digit b radix) digits)
  pub value : number_from_digits radix (map digit_value digits) ≡ n

-- the first of these digits is a zero
abbrev pub BeginsWithZero : List ℕ → Type 0
BeginsWithZero [] = ⊥
BeginsWithZero (b ∷ digits) = b ≡ digit_zero

-- `0r`, a radix and `:`
pub record SaysRadix (radix : ℕ) (prefix : List ℕ) : Type 0 where
  pub mark : List ℕ
  pub digits : List ℕ
  pub is_mark : (mark ≡ codes "0r") ⊎ (mark ≡ codes "0R")
  pub are_digits : AreDigitsOf 10 radix digits
  pub least : 2 ≤ radix
  pub most : radix ≤ 36
  pub spelled : prefix ≡ mark ++ digits ++ codes ":"

-- the prefix before the digits of a number, and their radix
pub data IsRadixPrefix (radix : ℕ) (prefix digits : List ℕ) : Type 0 where
  decimal : radix ≡ 10 → prefix ≡ [] → (BeginsWithZero digits → ⊥) → IsRadixPrefix radix prefix digits
  octal : radix ≡ 8 → prefix ≡ [] → BeginsWithZero digits → IsRadixPrefix radix prefix digits
  hexadecimal : radix ≡ 16 → (prefix ≡ codes "0x") ⊎ (prefix ≡ codes "0X") → IsRadixPrefix radix prefix digits
  binary : radix ≡ 2 → (prefix ≡ codes "0b") ⊎ (prefix ≡ codes "0B") → IsRadixPrefix radix prefix digits
  stated : SaysRadix radix prefix → IsRadixPrefix radix prefix digits

-- a literal whose number is n
pub record IsLiteral (n : ℕ) (bytes : List ℕ) : Type 0 where
  pub radix : ℕ
  pub prefix : List ℕ
  pub digits : List ℕ
  pub is_prefix : IsRadixPrefix radix prefix digits
  pub are_digits : AreDigitsOf radix n digits
  pub spelled : bytes ≡ prefix ++ digits
