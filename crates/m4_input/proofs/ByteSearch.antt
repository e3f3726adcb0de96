-- ByteSearch: the first place of a byte, as a search finds it.
use Rattle.std.proofs.Common.{◌≡◌, ◌<◌, ◌∷◌, [], ℕ, zero, suc, true, false, List, Option, Some, None}
use Rattle.std.proofs.Common.{length, refl, sym, ap, ◌∙◌, arith, eqb, eq-eqb}
use Rattle.std.proofs.Math.Bool.{and-true}
use Rattle.std.proofs.lemmas.Bool.{ne_eqb, eqb-true}
use Rattle.memchr.specs.Find.{Passes, is_byte, IsFirstByte}
use Rattle.m4_input.specs.Pending.{one_longer}
use Rattle.m4_input.specs.Token.{begins, before}

module _ (b : ℕ) where
  abbrev is_here : List ℕ → ℕ → Type 0
  is_here x i = Passes (is_byte b) x i

  before_here : (a : ℕ) (x : List ℕ) → a ≡ b → before (b ∷ []) (a ∷ x) ≡ Some 0
  before_here a x h = let v : begins (b ∷ []) (a ∷ x) ≡ true = and-true (eqb b a) ∙ eq-eqb b a (sym h) in rw (v, before) refl

  before_later : (a : ℕ) (x : List ℕ) → (a ≡ b → ⊥) → before (b ∷ []) (a ∷ x) ≡ one_longer (before (b ∷ []) x)
  before_later a x h = let v : begins (b ∷ []) (a ∷ x) ≡ false = and-true (eqb b a) ∙ ne_eqb b a (λ e. h (sym e)) in rw (v, before) refl

  not_first : (a : ℕ) (x : List ℕ) → (is_here (a ∷ x) 0 → ⊥) → a ≡ b → ⊥
  not_first a x h e = h (eq-eqb a b e)

  nowhere : (x : List ℕ) → ((i : ℕ) → i < length x → is_here x i → ⊥) → before (b ∷ []) x ≡ None
  nowhere [] h = refl
  nowhere (a ∷ x) h = before_later a x (not_first a x (h 0 (omega arith))) ∙ ap one_longer (nowhere x (λ i l. h (suc i) (omega arith)))

  at_place : (x : List ℕ) (k : ℕ) → k < length x → ((i : ℕ) → i < k → is_here x i → ⊥) → is_here x k → before (b ∷ []) x ≡ Some k
  at_place [] k l h e = absurd (omega arith)
  at_place (a ∷ x) zero l h e = before_here a x (eqb-true a b e)
  at_place (a ∷ x) (suc k) l h e = before_later a x (not_first a x (h 0 (omega arith)))
      ∙ ap one_longer (at_place x k (omega arith) (λ i s. h (suc i) (omega arith)) e)

  pub first_before : (x : List ℕ) (r : Option ℕ) → IsFirstByte (is_byte b) x r → r ≡ before (b ∷ []) x
  first_before x None h = sym (nowhere x (λ i l. h i (omega arith) l))
  first_before x (Some k) h = sym (at_place x k h.0.high (λ i l. h.0.before i (omega arith) l) h.1)
