-- LexerView: numbers as the code reads them, digit by digit.
-- Not believed: it only connects the code with specs/ReadExpression.antt. Words: number_after, in_bits,
-- radix_said, bits_after, capped_after.
use Rattle.std.specs.Prelude.{ℕ, ◌+◌, ◌*◌, nat_le, ◌&&◌, min, ℤ, pos, ◌+ℤ◌, ◌*ℤ◌, List, [], ◌∷◌, true, false, Option}
use Rattle.std.specs.Prelude.{Some, None, option_and_then, if◌then◌else◌}
use Rattle.std.specs.Char.{digit_value, is_digit}
use Rattle.m4_eval.specs.Value.{wrapped}
use Rattle.m4_eval.specs.ReadExpression.{number_of}

-- the number that more digits spell, after those of n
abbrev pub number_after : ℕ → ℕ → List ℕ → Option ℕ
number_after radix n [] = Some n
number_after radix n (b ∷ x) =
    elim (is_digit b radix) [
      | true ↦ number_after radix (n * radix + digit_value b) x
      | false ↦ None
    ]

-- a number in 32 bits
abbrev pub bits_of : ℕ → ℤ
bits_of n = wrapped (pos n)

-- a literal's number in 32 bits
abbrev pub in_bits : ℕ × ℕ → ℤ × ℕ
in_bits n = (wrapped (pos n.0), n.1)

-- the number, if it is a radix
abbrev pub radix_within : ℕ → Option ℕ
radix_within radix = if nat_le 2 radix && nat_le radix 36 then Some radix else None

-- the radix that decimal digits spell
abbrev pub radix_said : List ℕ → Option ℕ
radix_said said = option_and_then radix_within (number_of 10 said)

-- one more digit, in 32 bits
abbrev pub next_bits : ℕ → ℤ → ℕ → ℤ
next_bits radix v d = wrapped (v *ℤ pos radix +ℤ pos d)

-- the number that more digits spell, in 32 bits
abbrev pub bits_after : ℕ → ℤ → List ℕ → Option ℤ
bits_after radix v [] = Some v
bits_after radix v (b ∷ x) =
    elim (is_digit b radix) [
      | true ↦ bits_after radix (next_bits radix v (digit_value b)) x
      | false ↦ None
    ]

-- a decimal number, or 37 if it is above 36
abbrev pub capped_after : ℕ → List ℕ → Option ℕ
capped_after n [] = Some n
capped_after n (b ∷ x) =
    elim (is_digit b 10) [
      | true ↦ capped_after (min (n * 10 + digit_value b) 37) x
      | false ↦ None
    ]
