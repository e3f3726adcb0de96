-- Entries by their places: the order of their names, and what their ranks say of it.
use Rattle.std.proofs.Common.{◌≡◌, ℕ, ◌<◌, Bool, false, List, map, drop, sym, ap, subst, ◌∙◌, arith}
use Rattle.std.specs.List.{All}
use Rattle.std.specs.List.Sorted.{IsPermutation}
use Rattle.std.specs.Ordering.{is_lt}
use Rattle.std.proofs.lemmas.List.{length-map, get_or-map}
use Rattle.std.proofs.lemmas.List.Elements.{All-map}
use Rattle.std.proofs.lemmas.List.Sorted.{All-permutation}
use Rattle.m4_state.specs.ByteWords.{BeginsAlike, IsRank}
use Rattle.m4_state.specs.Entries.{Entry, name_at}
use Rattle.m4_state.specs.Table.{byte_order}
use Rattle.m4_state.proofs.ByteWords.{ranks_decide_after, above}

-- the name at one place goes before that at another
abbrev pub before : List Entry → ℕ → ℕ → Bool
before es i j = is_lt (byte_order (name_at es i) (name_at es j))

-- one of a greater rank does not
pub greater_after : (es : List Entry) (n : ℕ) (first : List ℕ) (i j a b : ℕ) → BeginsAlike n first (name_at es i) → BeginsAlike n first (name_at es j)
    → IsRank (drop n (name_at es i)) a → IsRank (drop n (name_at es j)) b → b < a → before es i j ≡ false
greater_after es n first i j a b p q rx ry less =
    ap is_lt (sym (ranks_decide_after n first _ _ a b p q rx ry (λ e. absurd (omega (arith, e, less)))) ∙ above less)

module _ {X : Type 0} (p : X → ℕ) (B : ℕ → Type 0) where
  -- what is true of the places of a list is true of each of its elements
  pub All-from_places : (xs : List X) → All B (map p xs) → All (λ x. B (p x)) xs
  All-from_places xs h k d l = subst B (get_or-map p xs k d (p d) l) (h k (p d) (omega (arith, l, length-map xs p)))

  -- ranked elements, sorted: what was true of their places, and of them
  pub facts_sorted : (R : X → Type 0) (run ranked sorted : List X) → All (λ x. B (p x)) run → map p ranked ≡ map p run
      → All R ranked → IsPermutation ranked sorted
      → All (λ x. B (p x) × R x) sorted
  facts_sorted R run ranked sorted b same r moved k d l =
      let places : All (λ x. B (p x)) ranked = All-from_places ranked (subst (All B) (sym same) (All-map B p run b)) in
      (All-permutation (λ x. B (p x)) ranked sorted moved places k d l, All-permutation R ranked sorted moved r k d l)
