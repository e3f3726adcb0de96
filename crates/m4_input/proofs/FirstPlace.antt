-- FirstPlace: the first place of a delimiter, as a search finds it.
use Rattle.std.proofs.Common.{◌≡◌, ℕ, zero, suc, ◌+◌, ◌<◌, Bool, true, false, slice_index, List, [], ◌∷◌, length}
use Rattle.std.proofs.Common.{Option, Some, None, refl, sym, ap, ◌∙◌, arith}
use Rattle.std.specs.Prelude.{◌==◌}
use Rattle.std.proofs.lemmas.Bool.{and_parts, and_from, eqb-true, eq-eqb}
use Rattle.memchr.specs.Find.{OccursAt, FindsNeedle}
use Rattle.m4_input.specs.Pending.{one_longer}
use Rattle.m4_input.specs.Token.{begins, before}

-- a place in a text is one further with a byte in front
next : (b : ℕ) (x : List ℕ) (k j : ℕ) → slice_index (b ∷ x) (suc k + j) ≡ slice_index x (k + j)
next b x k j = let further : suc k + j ≡ suc (k + j) = omega arith in ap (slice_index (b ∷ x)) further

-- a delimiter that a text begins with occurs at 0
begins_occurs : (p x : List ℕ) → begins p x ≡ true → OccursAt x p 0
begins_occurs [] x is = record { fits = omega arith; reads = λ j lt. absurd (omega arith) }
begins_occurs (b ∷ p) [] is = absurd cc
begins_occurs (b ∷ p) (c ∷ x) is =
    let both = and_parts (b == c) (begins p x) is in
    let rest = begins_occurs p x both.1 in
    record { fits = omega (arith, rest.fits); reads = reads (sym (eqb-true b c both.0)) rest.reads }
  where
    reads : c ≡ b → ((j : ℕ) → j < length p → slice_index x (0 + j) ≡ slice_index p j) → (j : ℕ) → j < suc (length p)
        → slice_index (c ∷ x) (0 + j) ≡ slice_index (b ∷ p) j
    reads same rest zero lt = same
    reads same rest (suc j) lt = let further : 0 + suc j ≡ suc (0 + j) = omega arith in ap (slice_index (c ∷ x)) further ∙ rest j (omega arith)

-- and the other way round
occurs_begins : (p x : List ℕ) → OccursAt x p 0 → begins p x ≡ true
occurs_begins [] x occurs = refl
occurs_begins (b ∷ p) [] occurs = absurd (omega (arith, occurs.fits))
occurs_begins (b ∷ p) (c ∷ x) occurs =
    and_from (b == c) (begins p x) (eq-eqb b c (sym (occurs.reads 0 (omega arith))))
    (occurs_begins p x (record {
      fits = omega (arith, occurs.fits);
      reads = λ j lt. let further : suc (0 + j) ≡ 0 + suc j = omega arith in ap (slice_index (c ∷ x)) further
          ∙ occurs.reads (suc j) (omega arith);
    }))

-- an occurrence in the rest, and back
later : (p x : List ℕ) (b k : ℕ) → OccursAt x p k → OccursAt (b ∷ x) p (suc k)
later p x b k occurs = record { fits = omega (arith, occurs.fits); reads = λ j lt. next b x k j ∙ occurs.reads j lt }

earlier : (p x : List ℕ) (b k : ℕ) → OccursAt (b ∷ x) p (suc k) → OccursAt x p k
earlier p x b k occurs = record { fits = omega (arith, occurs.fits); reads = λ j lt. sym (next b x k j) ∙ occurs.reads j lt }

-- the first place, by whether the text begins with the delimiter, and by the first place in the rest
abbrev first_by : Option ℕ → Bool → Option ℕ
first_by rest t = elim t [ true ↦ Some 0 | false ↦ one_longer rest ]

-- a delimiter that occurs nowhere has no first place
nowhere : (p x : List ℕ) → ((k : ℕ) → ¬ OccursAt x p k) → before p x ≡ None
nowhere p [] none = refl
nowhere p (b ∷ x) none = by (begins p (b ∷ x)) refl (nowhere p x (λ k occurs. none (suc k) (later p x b k occurs)))
  where
    by : (t : Bool) → begins p (b ∷ x) ≡ t → before p x ≡ None → first_by (before p x) t ≡ None
    by true is rest = absurd (none 0 (begins_occurs p (b ∷ x) is))
    by false is rest = ap one_longer rest

-- a delimiter is first where it occurs and occurs nowhere before, if the text has a byte
first : (p x : List ℕ) (k : ℕ) → 0 < length x → OccursAt x p k → ((j : ℕ) → j < k → ¬ OccursAt x p j) → before p x ≡ Some k
first p [] k some occurs none = absurd (omega arith)
first p (b ∷ x) zero some occurs none = ap (first_by (before p x)) (occurs_begins p (b ∷ x) occurs)
first [] (b ∷ x) (suc k) some occurs none = absurd (none 0 (omega arith) (record { fits = omega arith; reads = λ j lt. absurd (omega arith) }))
first (d ∷ p) (b ∷ []) (suc k) some occurs none = absurd (omega (arith, occurs.fits))
first (d ∷ p) (b ∷ (c ∷ x)) (suc k) some occurs none =
    by (begins (d ∷ p) (b ∷ (c ∷ x))) refl
    (first (d ∷ p) (c ∷ x) k (omega arith) (earlier (d ∷ p) (c ∷ x) b k occurs)
    (λ j lt there. none (suc j) (omega arith) (later (d ∷ p) (c ∷ x) b j there)))
  where
    by : (t : Bool) → begins (d ∷ p) (b ∷ (c ∷ x)) ≡ t → before (d ∷ p) (c ∷ x) ≡ Some k → first_by (before (d ∷ p) (c ∷ x)) t ≡ Some (suc k)
    by true is rest = absurd (none 0 (omega arith) (begins_occurs (d ∷ p) (b ∷ (c ∷ x)) is))
    by false is rest = ap one_longer rest

-- what a search of a text with a byte finds
pub found_before : (x p : List ℕ) (r : Option ℕ) → 0 < length x → FindsNeedle x p 0 r → r ≡ before p x
found_before x p None some finds = sym (nowhere p x (λ k occurs. finds k (omega arith) (omega (arith, occurs.fits)) occurs))
found_before x p (Some k) some finds = sym (first p x k some finds.1 (λ j lt occurs. (finds.0).before j (omega arith) lt occurs))
