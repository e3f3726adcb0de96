-- TurnsCounted: how many turns a machine still has, which is what its loop is measured by.
use Rattle.std.proofs.Common.{◌≡◌, ℕ, suc, ◌+◌, List, [], ◌∷◌, refl, sym, ap, ◌∙◌, subst, arith}
use Rattle.m4_engine.specs.Nesting.{Turn, Halt, Close, GoOn, Bare, Opens, Outcome, Halted, Closed, then_on, after}
use Rattle.m4_engine.specs.Nesting.{expansion, Falls}
use Rattle.m4_engine.specs.OpenCalls.{Stacked, Move, Stops, Goes, pop, close, take_turn, move, resume, moved_meaning}
use Rattle.m4_engine.proofs.Bounds.{expansion_is}
use Rattle.m4_engine.proofs.Beside.{Follows, Fits, expansion_fits}
use Rattle.m4_engine.proofs.MachineIsNesting.{move_keeps}

abbrev pub counted_turn : {S F D : Type 0} → ℕ → Turn S F D → Turn (S × ℕ) F (D × ℕ)
counted_turn n (Halt d) = Halt (d, n)
counted_turn n (Close t) = Close (t, n)
counted_turn n (GoOn t) = GoOn (t, n)
counted_turn n (Bare t) = Bare (t, n)
counted_turn n (Opens f t) = Opens f (t, n)

abbrev pub counted_outcome : {S D : Type 0} → ℕ → Outcome S D → Outcome (S × ℕ) (D × ℕ)
counted_outcome n (Halted d) = Halted (d, n)
counted_outcome n (Closed t) = Closed (t, n)

-- the count in the end
abbrev pub count_of : {S D : Type 0} → Outcome (S × ℕ) (D × ℕ) → ℕ
count_of (Halted d) = d.1
count_of (Closed s) = s.1

-- Two places are alike where R says so. A turn beside another: both end, or both go on at places that are alike.
module _ (S F D : Type 0) (R : S → S → Type 0) where
  unfoldable pub AlikeTurns : Turn S F D → Turn S F D → Type 0
  AlikeTurns (Halt d) w = (e : D) × (w ≡ Halt e)
  AlikeTurns (Close u) w = (v : S) × (w ≡ Close v) × R u v
  AlikeTurns (GoOn u) w = (v : S) × (w ≡ GoOn v) × R u v
  AlikeTurns (Bare u) w = (v : S) × (w ≡ Bare v) × R u v
  AlikeTurns (Opens f u) w = (v : S) × (w ≡ Opens f v) × R u v

  unfoldable pub AlikeOuts : Outcome S D → Outcome S D → Type 0
  AlikeOuts (Halted d) w = (e : D) × (w ≡ Halted e)
  AlikeOuts (Closed u) w = (v : S) × (w ≡ Closed v) × R u v

module _ (S F D : Type 0) (turn : S → Turn S F D) (join : F → S → Outcome S D) (spent : S → D) (size left : S → ℕ)
    (falls : Falls S F D turn join size left) where
  abbrev turn' : S × ℕ → Turn (S × ℕ) F (D × ℕ)
  turn' s = counted_turn (suc s.1) (turn s.0)

  abbrev join' : F → S × ℕ → Outcome (S × ℕ) (D × ℕ)
  join' f t = counted_outcome t.1 (join f t.0)

  abbrev spent' : S × ℕ → D × ℕ
  spent' s = (spent s.0, s.1)

  abbrev size' : S × ℕ → ℕ
  size' s = size s.0

  abbrev left' : S × ℕ → ℕ
  left' s = left s.0

  -- what a turn with its count says of the turn
  CountsTurn : Turn S F D → ℕ → Turn (S × ℕ) F (D × ℕ) → Type 0
  CountsTurn v n (Halt d) = (v ≡ Halt d.0) × (d.1 ≡ n)
  CountsTurn v n (Close t) = (v ≡ Close t.0) × (t.1 ≡ n)
  CountsTurn v n (GoOn t) = (v ≡ GoOn t.0) × (t.1 ≡ n)
  CountsTurn v n (Bare t) = (v ≡ Bare t.0) × (t.1 ≡ n)
  CountsTurn v n (Opens f t) = (v ≡ Opens f t.0) × (t.1 ≡ n)

  counts_it : (n : ℕ) (v : Turn S F D) → CountsTurn v n (counted_turn n v)
  unfolding CountsTurn
  counts_it n (Halt d) = (refl, refl)
  counts_it n (Close t) = (refl, refl)
  counts_it n (GoOn t) = (refl, refl)
  counts_it n (Bare t) = (refl, refl)
  counts_it n (Opens f t) = (refl, refl)

  ReportsOut : Outcome S D → ℕ → Outcome (S × ℕ) (D × ℕ) → Type 0
  ReportsOut v n (Halted d) = (v ≡ Halted d.0) × (d.1 ≡ n)
  ReportsOut v n (Closed t) = (v ≡ Closed t.0) × (t.1 ≡ n)

  reports_out : (n : ℕ) (v : Outcome S D) → ReportsOut v n (counted_outcome n v)
  unfolding ReportsOut
  reports_out n (Halted d) = (refl, refl)
  reports_out n (Closed t) = (refl, refl)

  reported : (s : S × ℕ) (v : Turn (S × ℕ) F (D × ℕ)) → turn' s ≡ v → CountsTurn (turn s.0) (suc s.1) v
  reported s v e = subst (CountsTurn (turn s.0) (suc s.1)) e (counts_it (suc s.1) (turn s.0))

  reported_out : (f : F) (t : S × ℕ) (v : Outcome (S × ℕ) (D × ℕ)) → join' f t ≡ v → ReportsOut (join f t.0) t.1 v
  reported_out f t v e = subst (ReportsOut (join f t.0) t.1) e (reports_out t.1 (join f t.0))

  pub falls' : Falls (S × ℕ) F (D × ℕ) turn' join' size' left'
  unfolding CountsTurn ReportsOut
  falls' = record {
    shorter = λ s t e. falls.shorter s.0 t.0 (reported s (GoOn t) e).0;
    go_on = λ s t e. falls.go_on s.0 t.0 (reported s (GoOn t) e).0;
    close = λ s t e. falls.close s.0 t.0 (reported s (Close t) e).0;
    bare = λ s t e. falls.bare s.0 t.0 (reported s (Bare t) e).0;
    opens = λ s t f e. falls.opens s.0 t.0 f (reported s (Opens f t) e).0;
    joins = λ f t u e. falls.joins f t.0 u.0 (reported_out f t (Closed u) e).0;
  }

  abbrev whole' : S × ℕ → Outcome (S × ℕ) (D × ℕ)
  whole' = expansion (S × ℕ) F (D × ℕ) turn' join' spent' size' left'

  -- the same level, k turns later
  abbrev Later : ℕ → S × ℕ → S × ℕ → Type 0
  Later k s t = (t.0 ≡ s.0) × (t.1 ≡ s.1 + k)

  abbrev LaterEnd : ℕ → D × ℕ → Outcome (S × ℕ) (D × ℕ) → Type 0
  LaterEnd k d o = o ≡ Halted (d.0, d.1 + k)

  add_suc : (a b c k : ℕ) → a ≡ b + k → c ≡ suc b → suc a ≡ c + k
  add_suc a b c k e f = omega arith

  pub shifted : (k : ℕ) → Follows (S × ℕ) F (D × ℕ) turn' join' whole' (Later k) (λ f g. g ≡ f) (LaterEnd k)
  unfolding CountsTurn ReportsOut
  shifted k = record {
    halt = λ s t d r e. let h = reported s (Halt d) e in
        expansion_is (S × ℕ) F (D × ℕ) turn' join' spent' size' left' falls' t
        ∙ ap (after (S × ℕ) F (D × ℕ) join' whole' whole') (ap (counted_turn (suc t.1)) (ap turn r.0 ∙ h.0))
        ∙ ap (λ (n : ℕ). Halted (d.0, n)) (add_suc t.1 s.1 d.1 k r.1 h.1);
    close = λ s t u r e. let h = reported s (Close u)
        e in ((u.0, suc t.1), ap (counted_turn (suc t.1)) (ap turn r.0 ∙ h.0), (refl, add_suc t.1 s.1 u.1 k r.1 h.1));
    go_on = λ s t u r e. let h = reported s (GoOn u)
        e in ((u.0, suc t.1), ap (counted_turn (suc t.1)) (ap turn r.0 ∙ h.0), (refl, add_suc t.1 s.1 u.1 k r.1 h.1));
    bare = λ s t u r e. let h = reported s (Bare u)
        e in ((u.0, suc t.1), ap (counted_turn (suc t.1)) (ap turn r.0 ∙ h.0), (refl, add_suc t.1 s.1 u.1 k r.1 h.1));
    opens = λ s t u f r e. let h = reported s (Opens f u)
        e in (f, (u.0, suc t.1), ap (counted_turn (suc t.1)) (ap turn r.0 ∙ h.0), refl, (refl, add_suc t.1 s.1 u.1 k r.1 h.1));
    join_halt = λ f g u w d r q e. let h = reported_out f u (Halted d) e in
        ap (λ o. then_on o whole') (ap (counted_outcome w.1) (ap (λ (a : F). join a w.0) r ∙ ap (join f) q.0 ∙ h.0))
        ∙ ap (λ (n : ℕ). Halted (d.0, n)) (q.1 ∙ ap (λ n. n + k) (sym h.1));
    joins = λ f g u w v r q e. let h = reported_out f u (Closed v) e in
        ((v.0, w.1), ap (counted_outcome w.1) (ap (λ (a : F). join a w.0) r ∙ ap (join f) q.0 ∙ h.0), (refl, q.1 ∙ ap (λ n. n + k) (sym h.1)));
    later = λ d o f q. ap (λ p. then_on (then_on p (join' f)) whole') q;
  }

  abbrev resume' : List F → Outcome (S × ℕ) (D × ℕ) → Outcome (S × ℕ) (D × ℕ)
  resume' = resume (S × ℕ) F (D × ℕ) turn' join' whole'

  abbrev FitsLater : ℕ → Outcome (S × ℕ) (D × ℕ) → Outcome (S × ℕ) (D × ℕ) → Type 0
  FitsLater k = Fits (S × ℕ) (D × ℕ) (Later k) (LaterEnd k)

  later_is : (k : ℕ) (o p : Outcome (S × ℕ) (D × ℕ)) → FitsLater k o p → count_of p ≡ count_of o + k
  later_is k (Halted d) p f = ap count_of f
  later_is k (Closed s) p f = ap count_of f.1 ∙ f.2.1

  whole_later : (k : ℕ) (s t : S × ℕ) → Later k s t → FitsLater k (whole' s) (whole' t)
  whole_later k s t r = expansion_fits (S × ℕ) F (D × ℕ) turn' join' spent' size' left' falls' (Later k) (λ f g. g ≡ f) (LaterEnd k) (shifted k) s t r

  follow_later : (k : ℕ) (o p : Outcome (S × ℕ) (D × ℕ)) → FitsLater k o p → FitsLater k (then_on o whole') (then_on p whole')
  follow_later k (Halted d) p f = ap (λ q. then_on q whole') f
  follow_later k (Closed s) p f = subst (FitsLater k (whole' s)) (sym (ap (λ q. then_on q whole') f.1)) (whole_later k s f.0 f.2)

  join_later : (k : ℕ) (g : F) (o p : Outcome (S × ℕ) (D × ℕ)) → FitsLater k o p → FitsLater k (then_on o (join' g)) (then_on p (join' g))
  join_later k g (Halted d) p f = ap (λ q. then_on q (join' g)) f
  join_later k g (Closed t) p f =
      subst (FitsLater k (join' g t)) (sym (ap (λ q. then_on q (join' g)) f.1 ∙ ap (λ x. counted_outcome f.0.1 (join g x)) f.2.0))
      (elim (join g t.0) as (λ v. FitsLater k (counted_outcome t.1 v) (counted_outcome f.0.1 v)) [
        | Halted d ↦ ap (λ (n : ℕ). Halted (d, n)) f.2.1
        | Closed u ↦ ((u, f.0.1), refl, (refl, f.2.1))
      ])

  resume_later : (k : ℕ) (fs : List F) (o p : Outcome (S × ℕ) (D × ℕ)) → FitsLater k o p → FitsLater k (resume' fs o) (resume' fs p)
  resume_later k [] o p f = f
  resume_later k (g ∷ fs) o p f = resume_later k fs _ _ (follow_later k _ _ (join_later k g o p f))

  -- the turns that a machine still has
  abbrev pub turns_left : Stacked S F → ℕ
  turns_left c = count_of (resume' c.outer (whole' (c.here, 0)))

  -- the counted machine's move, seen by the plain one's
  Counts : Move S F D → Move (S × ℕ) F (D × ℕ) → Type 0
  Counts (Stops o) m = Unit {0}
  Counts (Goes c) m = m ≡ Goes (record { outer = c.outer; here = (c.here, 1) })

  pop_counts : (fs : List F) (o : Outcome S D) → Counts (pop S F D turn join fs o) (pop (S × ℕ) F (D × ℕ) turn' join' fs (counted_outcome 1 o))
  unfolding Counts
  pop_counts fs (Halted d) = tt
  pop_counts fs (Closed s) = refl

  close_counts : (fs : List F) (t : S) → Counts (close S F D turn join fs t) (close (S × ℕ) F (D × ℕ) turn' join' fs (t, 1))
  unfolding Counts
  close_counts [] t = tt
  close_counts (f ∷ fs) t = pop_counts fs (join f t)

  turn_counts : (fs : List F) (v : Turn S F D) → Counts (take_turn S F D turn join fs v) (take_turn (S × ℕ) F (D × ℕ) turn' join' fs (counted_turn 1 v))
  unfolding Counts
  turn_counts fs (Halt d) = tt
  turn_counts fs (Close t) = close_counts fs t
  turn_counts fs (GoOn t) = refl
  turn_counts fs (Bare t) = refl
  turn_counts fs (Opens f t) = refl

  falls_at : (c c' : Stacked S F) (m : Move S F D) (m' : Move (S × ℕ) F (D × ℕ)) → m ≡ Goes c' → Counts m m'
      → moved_meaning (S × ℕ) F (D × ℕ) turn' join' whole' m' ≡ resume' c.outer (whole' (c.here, 0))
      → turns_left c' + 1 ≡ turns_left c
  unfolding Counts
  falls_at c c' (Stops o) m' e k h = cc
  falls_at c c' (Goes b) m' e k h =
      let f : b ≡ c' = cc in
      sym (later_is 1 _ _ (resume_later 1 c'.outer (whole' (c'.here, 0)) (whole' (c'.here, 1)) (whole_later 1 (c'.here, 0) (c'.here, 1) (refl, refl))))
      ∙ ap (λ (x : Stacked S F). count_of (resume' x.outer (whole' (x.here, 1)))) (sym f)
      ∙ ap count_of (sym (ap (moved_meaning (S × ℕ) F (D × ℕ) turn' join' whole') k) ∙ h)

  -- each move takes one turn
  pub turns_fall : (c c' : Stacked S F) → move S F D turn join c ≡ Goes c' → turns_left c' + 1 ≡ turns_left c
  turns_fall c c' e = falls_at c c' (move S F D turn join c) _ e (turn_counts c.outer (turn c.here))
      (move_keeps (S × ℕ) F (D × ℕ) turn' join' spent' size' left' falls' (record { outer = c.outer; here = (c.here, 0) }))

  -- two machines whose turns go alike have the same count of turns left
  module _ (R : S → S → Type 0) (alike : (s t : S) → R s t → AlikeTurns S F D R (turn s) (turn t))
      (alike_out : (f : F) (u w : S) → R u w → AlikeOuts S F D R (join f u) (join f w)) where
    abbrev R' : S × ℕ → S × ℕ → Type 0
    R' s t = R s.0 t.0 × (t.1 ≡ s.1)

    abbrev Q' : D × ℕ → Outcome (S × ℕ) (D × ℕ) → Type 0
    Q' d o = (e : D) × (o ≡ Halted (e, d.1))

    met : (s t : S × ℕ) (v : Turn S F D) → R' s t → turn s.0 ≡ v → AlikeTurns S F D R v (turn t.0)
    met s t v r e = subst (λ x. AlikeTurns S F D R x (turn t.0)) e (alike s.0 t.0 r.0)

    met_out : (f g : F) (u w : S × ℕ) (v : Outcome S D) → g ≡ f → R' u w → join f u.0 ≡ v → AlikeOuts S F D R v (join g w.0)
    met_out f g u w v q r e = subst (λ (a : F). AlikeOuts S F D R v (join a w.0)) (sym q)
        (subst (λ x. AlikeOuts S F D R x (join f w.0)) e (alike_out f u.0 w.0 r.0))

    beside : Follows (S × ℕ) F (D × ℕ) turn' join' whole' R' (λ f g. g ≡ f) Q'
    unfolding CountsTurn ReportsOut AlikeTurns AlikeOuts
    beside = record {
      halt = λ s t d r e.
          let h = reported s (Halt d) e in
          let k = met s t (Halt d.0) r h.0 in (
            k.0,
            expansion_is (S × ℕ) F (D × ℕ) turn' join' spent' size' left' falls' t
                ∙ ap (after (S × ℕ) F (D × ℕ) join' whole' whole') (ap (counted_turn (suc t.1)) k.1)
                ∙ ap (λ (n : ℕ). Halted (k.0, n)) (ap suc r.1 ∙ sym h.1),
          );
      close = λ s t u r e. let h = reported s (Close u) e in let k =
          met s t (Close u.0) r h.0 in ((k.0, suc t.1), ap (counted_turn (suc t.1)) k.1, (k.2, ap suc r.1 ∙ sym h.1));
      go_on = λ s t u r e. let h = reported s (GoOn u) e in let k =
          met s t (GoOn u.0) r h.0 in ((k.0, suc t.1), ap (counted_turn (suc t.1)) k.1, (k.2, ap suc r.1 ∙ sym h.1));
      bare = λ s t u r e. let h = reported s (Bare u) e in let k =
          met s t (Bare u.0) r h.0 in ((k.0, suc t.1), ap (counted_turn (suc t.1)) k.1, (k.2, ap suc r.1 ∙ sym h.1));
      opens = λ s t u f r e. let h = reported s (Opens f u) e in let k =
          met s t (Opens f u.0) r h.0 in (f, (k.0, suc t.1), ap (counted_turn (suc t.1)) k.1, refl, (k.2, ap suc r.1 ∙ sym h.1));
      join_halt = λ f g u w d q r e.
          let h = reported_out f u (Halted d) e in
          let k = met_out f g u w (Halted d.0) q r h.0 in
          (k.0, ap (λ o. then_on o whole') (ap (counted_outcome w.1) k.1) ∙ ap (λ (n : ℕ). Halted (k.0, n)) (r.1 ∙ sym h.1));
      joins = λ f g u w v q r e. let h = reported_out f u (Closed v) e in let k =
          met_out f g u w (Closed v.0) q r h.0 in ((k.0, w.1), ap (counted_outcome w.1) k.1, (k.2, r.1 ∙ sym h.1));
      later = λ d o f q. (q.0, ap (λ p. then_on (then_on p (join' f)) whole') q.1);
    }

    abbrev FitsAlike : Outcome (S × ℕ) (D × ℕ) → Outcome (S × ℕ) (D × ℕ) → Type 0
    FitsAlike = Fits (S × ℕ) (D × ℕ) R' Q'

    alike_is : (o p : Outcome (S × ℕ) (D × ℕ)) → FitsAlike o p → count_of p ≡ count_of o
    alike_is (Halted d) p f = ap count_of f.1
    alike_is (Closed s) p f = ap count_of f.1 ∙ f.2.1

    whole_alike : (s t : S × ℕ) → R' s t → FitsAlike (whole' s) (whole' t)
    whole_alike s t r = expansion_fits (S × ℕ) F (D × ℕ) turn' join' spent' size' left' falls' R' (λ f g. g ≡ f) Q' beside s t r

    follow_alike : (o p : Outcome (S × ℕ) (D × ℕ)) → FitsAlike o p → FitsAlike (then_on o whole') (then_on p whole')
    follow_alike (Halted d) p f = (f.0, ap (λ q. then_on q whole') f.1)
    follow_alike (Closed s) p f = subst (FitsAlike (whole' s)) (sym (ap (λ q. then_on q whole') f.1)) (whole_alike s f.0 f.2)

    join_alike : (g : F) (o p : Outcome (S × ℕ) (D × ℕ)) → FitsAlike o p → FitsAlike (then_on o (join' g)) (then_on p (join' g))
    unfolding AlikeOuts
    join_alike g (Halted d) p f = (f.0, ap (λ q. then_on q (join' g)) f.1)
    join_alike g (Closed t) p f =
        subst (FitsAlike (join' g t)) (sym (ap (λ q. then_on q (join' g)) f.1))
        ((elim (join g t.0) as (λ v. AlikeOuts S F D R v (join g f.0.0) → FitsAlike (counted_outcome t.1 v) (counted_outcome f.0.1 (join g f.0.0))) [
          | Halted d ↦ λ k. (k.0, ap (counted_outcome f.0.1) k.1 ∙ ap (λ (n : ℕ). Halted (k.0, n)) f.2.1)
          | Closed u ↦ λ k. ((k.0, f.0.1), ap (counted_outcome f.0.1) k.1, (k.2, f.2.1))
        ]) (alike_out g t.0 f.0.0 f.2.0))

    resume_alike : (fs : List F) (o p : Outcome (S × ℕ) (D × ℕ)) → FitsAlike o p → FitsAlike (resume' fs o) (resume' fs p)
    resume_alike [] o p f = f
    resume_alike (g ∷ fs) o p f = resume_alike fs _ _ (follow_alike _ _ (join_alike g o p f))

    pub same_turns : (fs : List F) (s t : S) → R s t → turns_left (record { outer = fs; here = t }) ≡ turns_left (record { outer = fs; here = s })
    same_turns fs s t r = alike_is _ _ (resume_alike fs (whole' (s, 0)) (whole' (t, 0)) (whole_alike (s, 0) (t, 0) (r, refl)))
