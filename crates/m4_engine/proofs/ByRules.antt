-- ByRules: what each rule of an expansion keeps holds of the whole expansion.
use Rattle.std.proofs.Common.{◌≡◌, ℕ, zero, suc, ◌<◌, ◌≤◌, refl, arith}
use Rattle.m4_engine.specs.Nesting.{Turn, Halt, Close, GoOn, Bare, Opens, Outcome, Halted, Closed, then_on, after}
use Rattle.m4_engine.specs.Nesting.{level, nested, expansion, Falls}
use Rattle.m4_engine.proofs.Bounds.{nests_keeps}

-- Post says what a start has to do with what it comes to; one field a rule
pub record Rules (S F D : Type 0) (turn : S → Turn S F D) (join : F → S → Outcome S D) (Post : S → Outcome S D → Type 0) : Type 0 where
  pub halt : (s : S) (d : D) → turn s ≡ Halt d → Post s (Halted d)
  pub close : (s t : S) → turn s ≡ Close t → Post s (Closed t)
  pub go_on : (s t : S) (o : Outcome S D) → turn s ≡ GoOn t → Post t o → Post s o
  pub bare : (s t : S) (o : Outcome S D) → turn s ≡ Bare t → Post t o → Post s o
  -- the list of a call ends the whole
  pub list_halts : (s t : S) (f : F) (d : D) → turn s ≡ Opens f t → Post t (Halted d) → Post s (Halted d)
  -- the call ends the whole
  pub call_halts : (s t u : S) (f : F) (d : D) → turn s ≡ Opens f t → Post t (Closed u) → join f u ≡ Halted d → Post s (Halted d)
  -- the level continues after the call
  pub joins : (s t u w : S) (f : F) (o : Outcome S D) → turn s ≡ Opens f t → Post t (Closed u) → join f u ≡ Closed w → Post w o → Post s o

module _ (S F D : Type 0) (turn : S → Turn S F D) (join : F → S → Outcome S D) (spent : S → D) (size left : S → ℕ)
    (falls : Falls S F D turn join size left) (Post : S → Outcome S D → Type 0) (rules : Rules S F D turn join Post) where
  -- after a call's list
  after_list : (fewer : S → Outcome S D) (l : ℕ) → ((a : S) → left a < l → Post a (fewer a))
      → ((a b : S) → fewer a ≡ Closed b → left b ≤ left a) → (s t : S) (f : F) → turn s ≡ Opens f t → left t < l
      → (o : Outcome S D) → fewer t ≡ o → Post t o → Post s (then_on (then_on o (join f)) fewer)
  after_list fewer l h keeps s t f e g (Halted d) i p = rules.list_halts s t f d e p
  after_list fewer l h keeps s t f e g (Closed u) i p =
      (elim (join f u) as (λ o. join f u ≡ o → Post s (then_on o fewer)) [
        | Halted d ↦ λ j. rules.call_halts s t u f d e p j
        | Closed w ↦ λ j.
            let a : left u ≤ left t = keeps t u i in
            let b : left w ≤ left u = falls.joins f u w j in
            rules.joins s t u w f (fewer w) e p j (h w (omega arith))
      ]) refl

  level_holds : (fewer : S → Outcome S D) (l : ℕ) → ((a : S) → left a < l → Post a (fewer a))
      → ((a b : S) → fewer a ≡ Closed b → left b ≤ left a) → (m : ℕ) (s : S) → left s ≤ l → size s < m
      → Post s (level S F D turn join spent size fewer m s)
  level_holds fewer l h keeps zero s g z = absurd (omega arith)
  level_holds fewer l h keeps (suc m) s g z =
      (elim (turn s) as (λ v. turn s ≡ v → Post s (after S F D join fewer (level S F D turn join spent size fewer m) v)) [
        | Halt d ↦ λ e. rules.halt s d e
        | Close t ↦ λ e. rules.close s t e
        | GoOn t ↦ λ e.
            let a : left t ≤ left s = falls.go_on s t e in
            let b : size t < size s = falls.shorter s t e in
            rules.go_on s t _ e (level_holds fewer l h keeps m t (omega arith) (omega arith))
        | Bare t ↦ λ e. let a : left t < left s = falls.bare s t e in rules.bare s t _ e (h t (omega arith))
        | Opens f t ↦ λ e.
            let a : left t < left s = falls.opens s t f e in
            after_list fewer l h keeps s t f e (omega arith) (fewer t) refl (h t (omega arith))
      ]) refl

  nested_holds : (n : ℕ) (s : S) → left s < n → Post s (nested S F D turn join spent size n s)
  nested_holds zero s g = absurd (omega arith)
  nested_holds (suc n) s g = level_holds (nested S F D turn join spent size n) (left s)
      (λ a k. nested_holds n a (omega arith)) (nests_keeps S F D turn join spent size left falls n) (suc (size s)) s
      (omega arith) (omega arith)

  -- the whole expansion
  pub holds : (s : S) → Post s (expansion S F D turn join spent size left s)
  holds s = nested_holds (suc (left s)) s (omega arith)
