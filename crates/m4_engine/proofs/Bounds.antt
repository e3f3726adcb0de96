-- Bounds: an expansion doesn't depend on the bounds on its turns, if they are enough.
use Rattle.std.proofs.Common.{◌≡◌, ℕ, zero, suc, ◌<◌, ◌≤◌, refl, ap, ◌∙◌, subst, arith}
use Rattle.m4_engine.specs.Nesting.{Turn, Halt, Close, GoOn, Bare, Opens, Outcome, Halted, Closed, then_on, after}
use Rattle.m4_engine.specs.Nesting.{level, nested, expansion, Falls}

module _ (S F D : Type 0) (turn : S → Turn S F D) (join : F → S → Outcome S D) (spent : S → D) (size : S → ℕ) where
  abbrev pub level' : (S → Outcome S D) → ℕ → S → Outcome S D
  level' = level S F D turn join spent size

  -- with more tokens than its text has bytes, a level comes to the same
  pub enough_tokens : ((s t : S) → turn s ≡ GoOn t → size t < size s) → (fewer : S → Outcome S D) (m k : ℕ) (s : S)
      → size s < m → size s < k → level' fewer m s ≡ level' fewer k s
  enough_tokens falls fewer zero k s h g = absurd (omega arith)
  enough_tokens falls fewer (suc m) zero s h g = absurd (omega arith)
  enough_tokens falls fewer (suc m) (suc k) s h g =
      (elim (turn s) as (λ v. turn s ≡ v → after S F D join fewer (level' fewer m) v ≡ after S F D join fewer (level' fewer k) v) [
        | Halt d ↦ λ e. refl
        | Close t ↦ λ e. refl
        | GoOn t ↦ λ e. let f : size t < size s = falls s t e in enough_tokens falls fewer m k t (omega arith) (omega arith)
        | Bare t ↦ λ e. refl
        | Opens f t ↦ λ e. refl
      ]) refl

module _ (S F D : Type 0) (turn : S → Turn S F D) (join : F → S → Outcome S D) (spent : S → D) (size left : S → ℕ)
    (falls : Falls S F D turn join size left) where
  abbrev goes : (S → Outcome S D) → ℕ → S → Outcome S D
  goes = level S F D turn join spent size

  abbrev nests : ℕ → S → Outcome S D
  nests = nested S F D turn join spent size

  -- where a level ends, no more calls are left than at its start
  abbrev Keeps : (S → Outcome S D) → Type 0
  Keeps fewer = (s t : S) → fewer s ≡ Closed t → left t ≤ left s

  then_keeps : (fewer : S → Outcome S D) → Keeps fewer → (s t : S) → (o p : Outcome S D) → fewer t ≡ o
      → (join' : S → Outcome S D) → ((u w : S) → join' u ≡ Closed w → left w ≤ left u) → (v : S)
      → then_on (then_on o join') fewer ≡ Closed v → left v ≤ left t
  then_keeps fewer keeps s t (Halted d) p e j h v c = cc
  then_keeps fewer keeps s t (Closed u) p e j h v c =
      (elim (j u) as (λ o. j u ≡ o → then_on o fewer ≡ Closed v → left v ≤ left t) [
        | Halted d ↦ λ e' c'. cc
        | Closed w ↦ λ e' c'. let a : left u ≤ left t = keeps t u e in let b : left w ≤ left u =
            h u w e' in let d : left v ≤ left w = keeps w v c' in omega arith
      ]) refl c

  goes_keeps : (fewer : S → Outcome S D) → Keeps fewer → (m : ℕ) → Keeps (goes fewer m)
  goes_keeps fewer keeps zero s t e = cc
  goes_keeps fewer keeps (suc m) s t e =
      (elim (turn s) as (λ v. turn s ≡ v → after S F D join fewer (goes fewer m) v ≡ Closed t → left t ≤ left s) [
        | Halt d ↦ λ f g. cc
        | Close u ↦ λ f g. let a : left u ≤ left s = falls.close s u f in let b : u ≡ t = cc in subst (λ (x : S). left x ≤ left s) b a
        | GoOn u ↦ λ f g. let a : left u ≤ left s = falls.go_on s u f in let b : left t ≤ left u = goes_keeps fewer keeps m u t g in omega arith
        | Bare u ↦ λ f g. let a : left u < left s = falls.bare s u f in let b : left t ≤ left u = keeps u t g in omega arith
        | Opens h u ↦ λ f g. let a : left u < left s = falls.opens s u h f in let b : left t ≤ left u =
            then_keeps fewer keeps s u (fewer u) (fewer u) refl (join h) (falls.joins h) t g in omega arith
      ]) refl e

  pub nests_keeps : (n : ℕ) → Keeps (nests n)
  nests_keeps zero s t e = cc
  nests_keeps (suc n) s t e = goes_keeps (nests n) (nests_keeps n) (suc (size s)) s t e

  -- what follows a list is the same by either expansion
  then_same : (fewer fewer' : S → Outcome S D) → Keeps fewer → (l : ℕ) → ((t : S) → left t < l → fewer t ≡ fewer' t)
      → (f : F) (t : S) → left t < l → then_on (then_on (fewer t) (join f)) fewer ≡ then_on (then_on (fewer' t) (join f)) fewer'
  then_same fewer fewer' keeps l same f t h =
      (elim (fewer t) as (λ o. fewer t ≡ o → then_on (then_on o (join f)) fewer ≡ then_on (then_on o (join f)) fewer') [
        | Halted d ↦ λ e. refl
        | Closed u ↦ λ e. (elim (join f u) as (λ o. join f u ≡ o → then_on o fewer ≡ then_on o fewer') [
          | Halted d ↦ λ g. refl
          | Closed w ↦ λ g. let a : left u ≤ left t = keeps t u e in let b : left w ≤ left u = falls.joins f u w g in same w (omega arith)
        ]) refl
      ]) refl ∙ ap (λ o. then_on (then_on o (join f)) fewer') (same t h)

  goes_same : (fewer fewer' : S → Outcome S D) → Keeps fewer → (l : ℕ) → ((t : S) → left t < l → fewer t ≡ fewer' t)
      → (m : ℕ) (s : S) → left s ≤ l → goes fewer m s ≡ goes fewer' m s
  goes_same fewer fewer' keeps l same zero s h = refl
  goes_same fewer fewer' keeps l same (suc m) s h =
      (elim (turn s) as (λ v. turn s ≡ v → after S F D join fewer (goes fewer m) v ≡ after S F D join fewer' (goes fewer' m) v) [
        | Halt d ↦ λ e. refl
        | Close t ↦ λ e. refl
        | GoOn t ↦ λ e. let a : left t ≤ left s = falls.go_on s t e in goes_same fewer fewer' keeps l same m t (omega arith)
        | Bare t ↦ λ e. let a : left t < left s = falls.bare s t e in same t (omega arith)
        | Opens f t ↦ λ e. let a : left t < left s = falls.opens s t f e in then_same fewer fewer' keeps l same f t (omega arith)
      ]) refl

  -- with more calls than are left, an expansion comes to the same
  pub enough_calls : (n k : ℕ) (s : S) → left s < n → left s < k → nests n s ≡ nests k s
  enough_calls zero k s h g = absurd (omega arith)
  enough_calls (suc n) zero s h g = absurd (omega arith)
  enough_calls (suc n) (suc k) s h g =
      goes_same (nests n) (nests k) (nests_keeps n) (left s) (λ t l. enough_calls n k t (omega arith) (omega arith)) (suc (size s)) s (omega arith)

  abbrev whole : S → Outcome S D
  whole = expansion S F D turn join spent size left

  -- as the rules say it, with no bound
  pub expansion_is : (s : S) → whole s ≡ after S F D join whole whole (turn s)
  expansion_is s =
      (elim (turn s) as (λ v. turn s ≡ v → after S F D join (nests (left s)) (goes (nests (left s)) (size s)) v ≡ after S F D join whole whole v) [
        | Halt d ↦ λ e. refl
        | Close t ↦ λ e. refl
        | GoOn t ↦ λ e.
            let a : size t < size s = falls.shorter s t e in
            let b : left t ≤ left s = falls.go_on s t e in
            enough_tokens S F D turn join spent size falls.shorter (nests (left s)) (size s) (suc (size t)) t (omega arith) (omega arith)
            ∙ enough_calls (suc (left s)) (suc (left t)) t (omega arith) (omega arith)
        | Bare t ↦ λ e. let a : left t < left s = falls.bare s t e in enough_calls (left s) (suc (left t)) t (omega arith) (omega arith)
        | Opens f t ↦ λ e.
            let a : left t < left s = falls.opens s t f e in
            then_same (nests (left s)) whole (nests_keeps (left s)) (left s) (λ u l. enough_calls (left s) (suc (left u)) u l (omega arith)) f t a
      ]) refl
