-- Beside: one expansion goes beside another, turn by turn.
use Rattle.std.proofs.Common.{◌≡◌, ℕ, zero, suc, ◌<◌, ◌≤◌, refl, sym, ap, ◌∙◌, subst, arith}
use Rattle.m4_engine.specs.Nesting.{Turn, Halt, Close, GoOn, Bare, Opens, Outcome, Halted, Closed, then_on, after}
use Rattle.m4_engine.specs.Nesting.{level, nested, expansion, Falls}
use Rattle.m4_engine.proofs.Bounds.{expansion_is, nests_keeps}

-- s's expansion and t's go side by side from related starts, until s's ends
pub record Follows (S F D : Type 0) (turn : S → Turn S F D) (join : F → S → Outcome S D) (whole : S → Outcome S D)
    (R : S → S → Type 0) (K : F → F → Type 0) (Q : D → Outcome S D → Type 0) : Type 0 where
  pub halt : (s t : S) (d : D) → R s t → turn s ≡ Halt d → Q d (whole t)
  pub close : (s t s' : S) → R s t → turn s ≡ Close s' → (t' : S) × (turn t ≡ Close t') × R s' t'
  pub go_on : (s t s' : S) → R s t → turn s ≡ GoOn s' → (t' : S) × (turn t ≡ GoOn t') × R s' t'
  pub bare : (s t s' : S) → R s t → turn s ≡ Bare s' → (t' : S) × (turn t ≡ Bare t') × R s' t'
  pub opens : (s t s' : S) (f : F) → R s t → turn s ≡ Opens f s' → (g : F) × (t' : S) × (turn t ≡ Opens g t') × K f g × R s' t'
  pub join_halt : (f g : F) (u w : S) (d : D) → K f g → R u w → join f u ≡ Halted d → Q d (then_on (join g w) whole)
  pub joins : (f g : F) (u w s' : S) → K f g → R u w → join f u ≡ Closed s' → (t' : S) × (join g w ≡ Closed t') × R s' t'
  -- what holds of a level's end holds of what comes later
  pub later : (d : D) (o : Outcome S D) (f : F) → Q d o → Q d (then_on (then_on o (join f)) whole)

-- what the one's outcome says of the other's
abbrev pub Fits : (S D : Type 0) → (S → S → Type 0) → (D → Outcome S D → Type 0) → Outcome S D → Outcome S D → Type 0
Fits S D R Q (Halted d) o = Q d o
Fits S D R Q (Closed s) o = (t : S) × (o ≡ Closed t) × R s t

module _ (S F D : Type 0) (turn : S → Turn S F D) (join : F → S → Outcome S D) (spent : S → D) (size left : S → ℕ)
    (falls : Falls S F D turn join size left) (R : S → S → Type 0) (K : F → F → Type 0) (Q : D → Outcome S D → Type 0)
    (follows : Follows S F D turn join (expansion S F D turn join spent size left) R K Q) where
  abbrev whole : S → Outcome S D
  whole = expansion S F D turn join spent size left

  abbrev Fits' : Outcome S D → Outcome S D → Type 0
  Fits' = Fits S D R Q

  -- the turn of the second is known
  whole_at : (t : S) (v : Turn S F D) → turn t ≡ v → whole t ≡ after S F D join whole whole v
  whole_at t v e = expansion_is S F D turn join spent size left falls t ∙ ap (after S F D join whole whole) e

  moved : (p o o' : Outcome S D) → o ≡ o' → Fits' p o' → Fits' p o
  moved p o o' e f = subst (Fits' p) (sym e) f

  -- after a list: f and g are what is kept of the levels that opened it
  list_fits : (fewer : S → Outcome S D) (l : ℕ) → ((a b : S) → R a b → left a < l → Fits' (fewer a) (whole b))
      → ((a b : S) → fewer a ≡ Closed b → left b ≤ left a) → (f g : F) (s' : S) → K f g → left s' < l
      → (p o : Outcome S D) → fewer s' ≡ p → Fits' p o
      → Fits' (then_on (then_on p (join f)) fewer) (then_on (then_on o (join g)) whole)
  list_fits fewer l h keeps f g s' r i (Halted d) o e x = follows.later d o g x
  list_fits fewer l h keeps f g s' r i (Closed u) o e x =
      moved _ _ _ (ap (λ y. then_on (then_on y (join g)) whole) x.1)
      ((elim (join f u) as (λ y. join f u ≡ y → Fits' (then_on y fewer) (then_on (join g x.0) whole)) [
        | Halted d ↦ λ e'. follows.join_halt f g u x.0 d r x.2 e'
        | Closed v ↦ λ e'.
            let k = follows.joins f g u x.0 v r x.2 e' in
            let a : left u ≤ left s' = keeps s' u e in
            let b : left v ≤ left u = falls.joins f u v e' in
            moved (fewer v) _ _ (ap (λ y. then_on y whole) k.1) (h v k.0 k.2 (omega arith))
      ]) refl)

  level_fits : (fewer : S → Outcome S D) (l : ℕ) → ((a b : S) → R a b → left a < l → Fits' (fewer a) (whole b))
      → ((a b : S) → fewer a ≡ Closed b → left b ≤ left a) → (m : ℕ) (s t : S) → R s t → left s ≤ l → size s < m
      → Fits' (level S F D turn join spent size fewer m s) (whole t)
  level_fits fewer l h keeps zero s t r g z = absurd (omega arith)
  level_fits fewer l h keeps (suc m) s t r g z =
      (elim (turn s) as (λ v. turn s ≡ v → Fits' (after S F D join fewer (level S F D turn join spent size fewer m) v) (whole t)) [
        | Halt d ↦ λ e. follows.halt s t d r e
        | Close s' ↦ λ e. let k = follows.close s t s' r e in (k.0, whole_at t _ k.1, k.2)
        | GoOn s' ↦ λ e.
            let k = follows.go_on s t s' r e in
            let a : left s' ≤ left s = falls.go_on s s' e in
            let b : size s' < size s = falls.shorter s s' e in
            moved _ _ _ (whole_at t _ k.1) (level_fits fewer l h keeps m s' k.0 k.2 (omega arith) (omega arith))
        | Bare s' ↦ λ e.
            let k = follows.bare s t s' r e in
            let a : left s' < left s = falls.bare s s' e in
            moved _ _ _ (whole_at t _ k.1) (h s' k.0 k.2 (omega arith))
        | Opens f s' ↦ λ e.
            let k = follows.opens s t s' f r e in
            let a : left s' < left s = falls.opens s s' f e in
            moved _ _ _ (whole_at t _ k.2) (list_fits fewer l h keeps f k.0 s' k.3 (omega arith) (fewer s') (whole k.1) refl (h s' k.1 k.4 (omega arith)))
      ]) refl

  nested_fits : (n : ℕ) (s t : S) → R s t → left s < n → Fits' (nested S F D turn join spent size n s) (whole t)
  nested_fits zero s t r g = absurd (omega arith)
  nested_fits (suc n) s t r g =
      level_fits (nested S F D turn join spent size n) (left s) (λ a b q k. nested_fits n a b q (omega arith))
      (nests_keeps S F D turn join spent size left falls n) (suc (size s)) s t r (omega arith) (omega arith)

  -- whatever the first comes to, the second fits it
  pub expansion_fits : (s t : S) → R s t → Fits' (whole s) (whole t)
  expansion_fits s t r = nested_fits (suc (left s)) s t r (omega arith)
