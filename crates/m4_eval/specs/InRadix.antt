-- InRadix: which numbers are a radix, and how a value is written in one. Its point is `in_radix`.
-- Believed. Manual: "Evaluating integer expressions". Words: radix_at, in_radix.
-- own: the sign is not counted in the width.
use Rattle.std.specs.Prelude.{ℕ, nat_le, ◌&&◌, ◌-◌, ℤ, pos, negsuc, List, [], ◌∷◌, ◌++◌, false, Option, Some, None}
use Rattle.std.specs.Prelude.{if◌then◌else◌, replicate, length, unsigned_abs}
use Rattle.std.specs.Int.{is_negative}
use Rattle.std.specs.Fmt.{digits}
use Rattle.m4_input.specs.Ascii.{minus_sign, digit_zero}

-- the number as a radix, if it is one: 2 to 36
abbrev pub radix_at : ℤ → Option ℕ
radix_at (pos n) = if nat_le 2 n && nat_le n 36 then Some n else None
radix_at (negsuc n) = None

-- the digits, with zeros before them up to the width
abbrev pub padded : ℕ → List ℕ → List ℕ
padded width x = replicate (width - length x) digit_zero ++ x

-- `-` if the value is negative, and the digits of the absolute value, in lower case
abbrev pub in_radix : ℕ → ℕ → ℤ → List ℕ
in_radix radix width z =
    (if is_negative z then minus_sign ∷ [] else [])
    ++ padded width (digits radix false (unsigned_abs z))
