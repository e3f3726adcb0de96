-- Ascii: the bytes with a meaning both in an input and in a frozen file, by their names.
-- Believed: the numbers are ASCII's.
use Rattle.std.specs.Prelude.{ℕ}

abbrev pub newline : ℕ
newline = 10  -- b'\n'

abbrev pub space : ℕ
space = 32  -- b' '

abbrev pub hash : ℕ
hash = 35  -- b'#', which begins a comment in a frozen file

abbrev pub comma : ℕ
comma = 44  -- b','

abbrev pub minus_sign : ℕ
minus_sign = 45  -- b'-'

abbrev pub digit_zero : ℕ
digit_zero = 48  -- b'0'
