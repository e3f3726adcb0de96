-- The value of digits.
use Rattle.std.proofs.Common.{◌≡◌, ℕ, ◌+◌, ◌*◌, ◌-◌, ◌<◌, ◌≤◌, List, [], ◌∷◌, length, get_or, drop, arith}
use Rattle.std.proofs.lemmas.List.{at_drop_more}
use Rattle.std.proofs.Common.{refl}
use Rattle.std.specs.Prelude.{IsTrue, fold}
use Rattle.std.specs.List.{list_all}
use Rattle.std.specs.Char.{is_ascii_digit}
use Rattle.m4_frozen.specs.Ascii.{digit_zero}
use Rattle.m4_frozen.specs.Spells.{value_of}
use Rattle.m4_frozen.specs.ReaderSteps.{digits_at}
use Rattle.m4_frozen.proofs.ByteTests.{by_test}

-- the value of digits that follow digits of value n
abbrev pub value_from : ℕ → List ℕ → ℕ
value_from n bs = fold (λ m b. 10 * m + (b - digit_zero)) n bs

-- more digits make a number no smaller
pub value_from-ge : (n : ℕ) (bs : List ℕ) → n ≤ value_from n bs
value_from-ge n [] = omega arith
value_from-ge n (b ∷ bs) = omega (arith, value_from-ge (10 * n + (b - digit_zero)) bs)

-- the step of a loop over digits
pub value_from-drop : (n i : ℕ) (bs : List ℕ) → i < length bs
    → value_from n (drop i bs) ≡ value_from (10 * n + (get_or bs i 0 - digit_zero)) (drop (i + 1) bs)
value_from-drop n i bs lt = at_drop_more (value_from n) bs i 0 lt

-- a digit does not fit, so the number does not
pub value-too_large : (n i : ℕ) (bs : List ℕ) (limit : ℕ) → i < length bs
    → value_from n (drop i bs) ≡ value_of bs → limit ≤ 10 * n + (get_or bs i 0 - digit_zero)
    → limit ≤ value_of bs
value-too_large n i bs limit lt so_far le =
    omega (
      arith,
      value_from-drop n i bs lt,
      value_from-ge (10 * n + (get_or bs i 0 - digit_zero))
          (drop (i + 1) bs),
      so_far,
    )

-- the digits at the front are digits
pub digits_are : (bs : List ℕ) → IsTrue (list_all is_ascii_digit (digits_at bs).0)
digits_are [] = refl
digits_are (b ∷ bs) =
    by_test (λ (p : List ℕ × List ℕ). IsTrue (list_all is_ascii_digit p.0)) (is_ascii_digit b)
    (b ∷ (digits_at bs).0, (digits_at bs).1) ([], b ∷ bs) (λ e. rw e (digits_are bs)) (λ e. refl)
