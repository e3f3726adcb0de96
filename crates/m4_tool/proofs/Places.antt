-- The elements of a list from a place on.
use Rattle.std.proofs.Common.{◌≡◌, ◌<◌, ℕ, suc, ◌+◌, List, ◌∷◌, length, get_or, drop, drop-cons, ap, ◌∙◌, arith}

pub at_place : {R : Type 0} (xs : List R) (i : ℕ) (x : R) → i < length xs → drop i xs ≡ get_or xs i x ∷ drop (i + 1) xs
at_place xs i x lt =
    let n : suc i ≡ i + 1 = omega arith in
    drop-cons xs i x lt ∙ ap (λ (j : ℕ). get_or xs i x ∷ drop j xs) n
