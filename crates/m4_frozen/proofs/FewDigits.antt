-- A number of one digit to five, and then another byte.
use Rattle.std.proofs.Common.{◌≡◌, ℕ, List, [], Ok, refl, ◌∙◌, ap, arith}
use Rattle.m4_frozen.specs.ReaderSteps.{length_at}
use Rattle.m4_frozen.specs.Underway.{BeginsWithNumber}
use Rattle.m4_frozen.proofs.ReadBack.{length_at-number}

-- such a number is a length
pub is_length : (n : ℕ) (bytes rest : List ℕ) → BeginsWithNumber n bytes rest → length_at bytes ≡ Ok (n, rest)
is_length n bytes rest b =
    ap length_at b.spelled
    ∙ length_at-number n b.digits rest
    (record { blanks = []; digits = b.digits; are_blanks = refl; are_digits = b.are_digits; spelled = refl; value = b.value })
    (omega (arith, b.few)) b.apart
