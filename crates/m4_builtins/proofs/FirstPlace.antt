-- FirstPlace: what a search for a part finds is the first place that the definition names.
use Rattle.std.proofs.Common.{◌≡◌, ℕ, zero, suc, List, [], ◌∷◌, Option, Some, None, refl, arith}
use Rattle.memchr.specs.Find.{FindsNeedle}
use Rattle.m4_input.proofs.FirstPlace.{found_before}
use Rattle.m4_builtins.specs.Texts.{place_in}

-- an empty part is found at the start, also of an empty text
pub found_first : (x p : List ℕ) (r : Option ℕ) → FindsNeedle x p 0 r → r ≡ place_in x p
found_first x [] None finds = absurd (finds 0 (omega arith) (omega arith) (record { fits = omega arith; reads = λ j lt. absurd (omega arith) }))
found_first x [] (Some zero) finds = refl
found_first x [] (Some (suc k)) finds =
    absurd ((finds.0).before 0 (omega arith) (omega arith) (record { fits = omega arith; reads = λ j lt. absurd (omega arith) }))
found_first [] (b ∷ p) None finds = refl
found_first [] (b ∷ p) (Some k) finds = absurd (omega (arith, (finds.1).fits))
found_first (a ∷ x) (b ∷ p) r finds = found_before (a ∷ x) (b ∷ p) r (omega arith) finds
