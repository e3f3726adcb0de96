-- Digits are written from the last to the first.
use Rattle.std.proofs.Common.{◌≡◌, ℕ, [], refl, false}
use Rattle.std.specs.Fmt.{digits_onto, digits}

-- nothing is written after the last digit
pub digits_onto-nil : (base n : ℕ) → digits_onto 64 base false n [] ≡ digits base false n
unfolding digits
digits_onto-nil base n = refl
