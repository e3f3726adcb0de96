-- Reading: sources read in order are the definitions' sources.
use Rattle.std.proofs.Common.{◌≡◌, ◌⊎◌, inl, inr, ◌<◌, ◌≤◌, ℕ, zero, suc, ◌+◌, List, [], ◌∷◌, ◌++◌, length, drop}
use Rattle.std.proofs.Common.{drop-cons, map, Option, Some, refl, sym, ap, ◌∙◌, subst, arith, append-nil}
use Rattle.std.proofs.Common.{append_assoc}
use Rattle.std.specs.Prelude.{Result, Ok, Err, slice_set, slice_index_or}
use Rattle.std.proofs.lemmas.List.{drop-set-lt, drop-drop}
use Rattle.m4_state.proofs.CallerLaws.{with_bytes-append, with_bytes-nil}
use Rattle.m4_state.specs.Device.{Script, with_bytes}
use Rattle.m4_engine.specs.declared.source.Source.{Source as RunSource}
use Rattle.m4_engine.specs.RunSources.{source_of, ExtendsSource, ExtendSources, DescribeSources}
use Rattle.m4_engine.specs.declared.stop.Stop.{Stop}
use Rattle.m4_engine.specs.Expansion.{Limits, RunSoFar}
use Rattle.m4_engine.specs.Order.{IsStepOf, InSources, Breaks, BreaksBy}
use Rattle.m4_engine.proofs.OnePass.{sources_keep, over_sources}
use Rattle.m4_engine.specs.File.{Source, Progress, after_source, after_sources}
use Rattle.m4_engine.specs.Session.{SessionState, progress_of, IsOpen, Completed}
use Rattle.m4_engine.specs.Writers.{Contents, writers}
use Rattle.m4_engine.proofs.GoingOn.{after, sources_after, written_after, Within, step_stops, all_made}
use Rattle.m4_engine.proofs.Growth.{Extends}
use Rattle.m4_engine.proofs.Ordering.{same_breaks}
use Rattle.m4_engine.specs.SessionSteps.{GoesTo}
use Rattle.m4_engine.proofs.Cases.{DescribesSource}

-- some of the sources were read: so much was written, and the rest of the run is the rest of the sources
pub record Between (ss : List Source) (i : ℕ) (s0 s : SessionState) (w : Contents) : Type 0 where
  pub o : List ℕ
  pub m : List ℕ
  pub output : w.out_new ≡ with_bytes w.out_old o
  pub messages : w.messages_new ≡ with_bytes w.messages_old m
  pub limits : s.limits ≡ s0.limits
  pub rest : after_sources s0.limits ss (progress_of s0) ≡ after_sources s0.limits (drop i ss) (after o m (progress_of s))
  pub steps : (a b : List ℕ) (before later : RunSoFar) → InSources s0.limits (drop i ss) (after (a ++ o) (b ++ m) (progress_of s)) before later
      → InSources s0.limits ss (after a b (progress_of s0)) before later

pub none_read : (ss : List Source) (s : SessionState) (out reported : Option (List ℕ)) → Between ss 0 s s (writers out out reported reported)
none_read ss s out reported = record {
  o = [];
  m = [];
  output = with_bytes-nil out;
  messages = with_bytes-nil reported;
  limits = refl;
  rest = refl;
  steps = λ a b before later h.
      subst (λ (x : List ℕ). InSources s.limits ss (after x b (progress_of s)) before later) (append-nil a)
      (subst (λ (x : List ℕ). InSources s.limits ss (after (a ++ []) x (progress_of s)) before later) (append-nil b) h);
}

-- after a source, the run continues from what was written of it
pub source_after : (s0 s : SessionState) (o m : List ℕ) (t : Source) (ts : List Source) → s.limits ≡ s0.limits
    → after_sources s0.limits (t ∷ ts) (after o m (progress_of s))
    ≡ after_sources s0.limits ts (after o m (after_source s.limits t (progress_of s)))
source_after s0 s o m t ts l =
    ap (after_sources s0.limits ts)
    (sources_after o m s0.limits (t ∷ []) (progress_of s) ∙ ap (λ (x : Limits). after o m (after_source x t (progress_of s))) (sym l))

pub one_read : (ss : List Source) (i j : ℕ) (s0 s s' : SessionState) (t : Source) (out0 out out' reported0 reported reported' : Option (List ℕ))
    → Between ss i s0 s (writers out0 out reported0 reported) → drop i ss ≡ t ∷ drop j ss
    → Completed s s' (after_source s.limits t (progress_of s)) (writers out out' reported reported')
    → Between ss j s0 s' (writers out0 out' reported0 reported')
one_read ss i j s0 s s' t out0 out out' reported0 reported reported' b d f =
    let p : Progress = after_source s.limits t (progress_of s) in
    record {
      o = b.o ++ (p.so_far).output;
      m = b.m ++ (p.so_far).messages;
      output = f.output ∙ ap (λ x. with_bytes x (p.so_far).output) b.output ∙ with_bytes-append out0 b.o (p.so_far).output;
      messages = f.messages ∙ ap (λ x. with_bytes x (p.so_far).messages) b.messages ∙ with_bytes-append reported0 b.m (p.so_far).messages;
      limits = f.limits ∙ b.limits;
      rest = b.rest
          ∙ ap (λ (ts : List Source). after_sources s0.limits ts (after b.o b.m (progress_of s))) d
          ∙ source_after s0 s b.o b.m t (drop j ss) b.limits
          ∙ ap (after_sources s0.limits (drop j ss)) (written_after b.o b.m p (progress_of s') f.progress);
      steps = λ x y before later h.
          let o : List ℕ = x ++ b.o in
          let m : List ℕ = y ++ b.m in
          let there : after (x ++ (b.o ++ (p.so_far).output)) (y ++ (b.m ++ (p.so_far).messages)) (progress_of s')
          ≡ after_source s0.limits t (after o m (progress_of s)) =
          ap (λ (n : List ℕ). after n (y ++ (b.m ++ (p.so_far).messages)) (progress_of s')) (sym (append_assoc x b.o (p.so_far).output))
          ∙ ap (λ (n : List ℕ). after (o ++ (p.so_far).output) n (progress_of s')) (sym (append_assoc y b.m (p.so_far).messages))
          ∙ sym (written_after o m p (progress_of s') f.progress)
          ∙ sym (source_after s0 s o m t [] b.limits) in
          b.steps x y before later
          (subst (λ (ts : List Source). InSources s0.limits ts (after o m (progress_of s)) before later) (sym d)
          (inr (subst (λ (q : Progress). InSources s0.limits (drop j ss) q before later) there h)));
    }

-- all were read
pub all_read : (ss : List Source) (i : ℕ) (s0 s : SessionState) (w : Contents) → IsOpen s0 → IsOpen s
    → Between ss i s0 s w → drop i ss ≡ [] → GoesTo (after_sources s0.limits ss (progress_of s0)) s0 s w (Ok tt)
all_read ss i s0 s w l0 l b d =
    all_made b.o b.m s0 s w _ l0 l b.limits b.output b.messages
    (sym (b.rest ∙ ap (λ (ts : List Source). after_sources s0.limits ts (after b.o b.m (progress_of s))) d))

-- a source that is read is within all of them
within : (ss : List Source) (i j : ℕ) (s0 s : SessionState) (t : Source) (w : Contents) (b : Between ss i s0 s w)
    → drop i ss ≡ t ∷ drop j ss → Within b.o b.m (after_source s.limits t (progress_of s))
    (after_sources s0.limits ss (progress_of s0))
within ss i j s0 s t w b d =
    let p : Progress = after_source s.limits t (progress_of s) in
    let e : after_sources s0.limits ss (progress_of s0) ≡ after_sources s0.limits (drop j ss) (after b.o b.m p) =
    b.rest ∙ ap (λ (ts : List Source). after_sources s0.limits ts (after b.o b.m (progress_of s))) d ∙ source_after s0 s b.o b.m t (drop j ss) b.limits in
    record {
      keeps = subst (λ (q : Progress). Extends (after b.o b.m p).so_far q.so_far) (sym e) (sources_keep s0.limits (drop j ss) (after b.o b.m p));
      over = λ h v. e ∙ over_sources s0.limits (drop j ss) (after b.o b.m p) h v;
    }

-- by the answer
stopped : (ss : List Source) (i j : ℕ) (s0 s s' : SessionState) (t : Source)
    (out0 out out' reported0 reported reported' : Option (List ℕ)) (e : Stop) → IsOpen s0
    → Between ss i s0 s (writers out0 out reported0 reported) → drop i ss ≡ t ∷ drop j ss
    → GoesTo (after_source s.limits t (progress_of s)) s s' (writers out out' reported reported') (Err e)
    → GoesTo (after_sources s0.limits ss (progress_of s0)) s0 s' (writers out0 out' reported0 reported') (Err e)
stopped ss i j s0 s s' t out0 out out' reported0 reported reported' e l b d h =
    step_stops b.o b.m _ _ (within ss i j s0 s t _ b d) s0 s s' out0 out out' reported0 reported reported' b.output b.messages l b.limits e h

-- a source broke off: its step is one of the sources
source_step : (ss : List Source) (i j : ℕ) (s0 s : SessionState) (t : Source)
    (out0 out out' reported0 reported reported' : Option (List ℕ))
    → Between ss i s0 s (writers out0 out reported0 reported) → drop i ss ≡ t ∷ drop j ss
    → Breaks (IsStepOf s.limits t) (progress_of s) (writers out out' reported reported')
    → Breaks (InSources s0.limits ss) (progress_of s0) (writers out0 out' reported0 reported')
source_step ss i j s0 s t out0 out out' reported0 reported reported' b d h = λ x y out1 reported1 f g.
    let k = h (x ++ b.o) (y ++ b.m) out1 reported1
    (b.output ∙ ap (λ (v : Option (List ℕ)). with_bytes v b.o) f ∙ with_bytes-append out1 x b.o)
    (b.messages ∙ ap (λ (v : Option (List ℕ)). with_bytes v b.m) g ∙ with_bytes-append reported1 y b.m) in (
      k.0,
      k.1,
      b.steps x y k.0 k.1
          (subst (λ (ts : List Source). InSources s0.limits ts (after (x ++ b.o) (y ++ b.m) (progress_of s)) k.0 k.1) (sym d)
          (inl (subst (λ (l : Limits). IsStepOf l t (after (x ++ b.o) (y ++ b.m) (progress_of s)) k.0 k.1) b.limits k.2))),
      k.3,
    )

-- the source at a position
reported_at : {R : Type 0} (f : R → Option Source) (xs : List R) (ss : List Source) (i : ℕ) (x : R) (rest : List R)
    → map f xs ≡ map Some ss → drop i xs ≡ x ∷ rest → (t : Source) × (f x ≡ Some t) × (drop i ss ≡ t ∷ drop (suc i) ss)
reported_at f [] [] zero x rest e d = cc
reported_at f [] [] (suc i) x rest e d = cc
reported_at f [] (s ∷ ss) i x rest e d = cc
reported_at f (y ∷ xs) [] i x rest e d = cc
reported_at f (y ∷ xs) (s ∷ ss) zero x rest e d =
    let h : f y ≡ Some s = cc in
    let k : y ≡ x = cc in
    (s, sym (ap f k) ∙ h, refl)
reported_at f (y ∷ xs) (s ∷ ss) (suc i) x rest e d =
    let h : map f xs ≡ map Some ss = cc in
    reported_at f xs ss i x rest h d

none_reported : {R : Type 0} (f : R → Option Source) (xs : List R) (ss : List Source) (i : ℕ) → map f xs ≡ map Some ss → length xs ≤ i → drop i ss ≡ []
none_reported f [] [] zero e l = refl
none_reported f [] [] (suc i) e l = refl
none_reported f [] (s ∷ ss) i e l = cc
none_reported f (y ∷ xs) [] i e l = cc
none_reported f (y ∷ xs) (s ∷ ss) zero e l = absurd (omega arith)
none_reported f (y ∷ xs) (s ∷ ss) (suc i) e l = let h : map f xs ≡ map Some ss = cc in none_reported f xs ss i h (omega arith)

-- the rest is as it was
pub rest_kept : {R : Type 0} (xs ys : List R) (i : ℕ) (v : R) → drop i xs ≡ drop i ys → drop (i + 1) (slice_set xs i v) ≡ drop (i + 1) ys
rest_kept xs ys i v e =
    let l : i < i + 1 = omega arith in
    drop-set-lt (i + 1) xs i v l ∙ sym (drop-drop 1 i xs) ∙ ap (drop 1) e ∙ drop-drop 1 i ys

module _ {R : Type 0} (script : R → Option Script) where
  -- the first sources may have been these
  abbrev may_first : ℕ → List (RunSource R) → List (RunSource R) → List Source → Type 0
  may_first zero before after ss = Unit {0}
  may_first (suc i) [] [] [] = Unit {0}
  may_first (suc i) (x ∷ xs) (y ∷ ys) (s ∷ ss) = ExtendsSource script x y s × may_first i xs ys ss
  may_first (suc i) before after ss = ⊥

  first_of_all : (xs ys : List (RunSource R)) (ss : List Source) (i : ℕ)
      → ExtendSources script xs ys ss → may_first i xs ys ss
  first_of_all xs ys ss zero h = tt
  first_of_all [] [] [] (suc i) h = tt
  first_of_all [] [] (s ∷ ss) (suc i) h = absurd h
  first_of_all [] (y ∷ ys) [] (suc i) h = absurd h
  first_of_all [] (y ∷ ys) (s ∷ ss) (suc i) h = absurd h
  first_of_all (x ∷ xs) [] ss (suc i) h = absurd h
  first_of_all (x ∷ xs) (y ∷ ys) [] (suc i) h = absurd h
  first_of_all (x ∷ xs) (y ∷ ys) (s ∷ ss) (suc i) h = (h.0, first_of_all xs ys ss i h.1)

  none_may : (xs ys : List (RunSource R)) (ss : List Source) (i : ℕ)
      → ExtendSources script xs ys ss → length xs ≤ i → drop i ss ≡ []
  none_may [] [] [] zero h l = refl
  none_may [] [] [] (suc i) h l = refl
  none_may [] [] (s ∷ ss) i h l = absurd h
  none_may [] (y ∷ ys) [] i h l = absurd h
  none_may [] (y ∷ ys) (s ∷ ss) i h l = absurd h
  none_may (x ∷ xs) [] ss i h l = absurd h
  none_may (x ∷ xs) (y ∷ ys) [] i h l = absurd h
  none_may (x ∷ xs) (y ∷ ys) (s ∷ ss) zero h l = absurd (omega arith)
  none_may (x ∷ xs) (y ∷ ys) (s ∷ ss) (suc i) h l = none_may xs ys ss i h.1 (omega arith)

  -- the sources before a place, and the one there
  record ItemMay (i : ℕ) (xs ys : List (RunSource R)) (x v : RunSource R) (ss : List Source) : Type 0 where
    first : may_first i ys xs ss
    source : Source
    may : ExtendsSource script x v source
    there : drop i ss ≡ source ∷ drop (suc i) ss

  item_may : (i : ℕ) (xs ys : List (RunSource R)) (x v : RunSource R)
      (ss : List Source) → drop i xs ≡ drop i ys → drop i xs ≡ x ∷ drop (suc i) xs
      → may_first (suc i) ys (slice_set xs i v) ss → ItemMay i xs ys x v ss
  item_may zero [] ys x v ss e d h = cc
  item_may zero (a ∷ xs) [] x v ss e d h = cc
  item_may zero (a ∷ xs) (b ∷ ys) x v [] e d h = absurd h
  item_may zero (a ∷ xs) (b ∷ ys) x v (s ∷ ss) e d h =
      let k : b ≡ x = cc in
      record { first = tt; source = s; may = subst (λ (y : RunSource _). ExtendsSource script y v s) k h.0; there = refl }
  item_may (suc i) [] ys x v ss e d h = cc
  item_may (suc i) (a ∷ xs) [] x v ss e d h = absurd h
  item_may (suc i) (a ∷ xs) (b ∷ ys) x v [] e d h = absurd h
  item_may (suc i) (a ∷ xs) (b ∷ ys) x v (s ∷ ss) e d h =
      let k = item_may i xs ys x v ss e d h.1 in
      record { first = (h.0, k.first); source = k.source; may = k.may; there = k.there }

  -- the description of the first sources
  abbrev pub FirstFor : ℕ → List (RunSource R) → List (RunSource R) → List Source → Type 0
  FirstFor i before after ss = (map (source_of script) before ≡ map Some ss) ⊎ may_first i before after ss

  pub first_for : (i : ℕ) (xs ys : List (RunSource R)) (ss : List Source) → DescribeSources script xs ys ss → FirstFor i xs ys ss
  first_for i xs ys ss (inl t) = inl t
  first_for i xs ys ss (inr m) = inr (first_of_all xs ys ss i m)

  pub none_left : (xs ys : List (RunSource R)) (ss : List Source) (i : ℕ) → DescribeSources script xs ys ss → length xs ≤ i → drop i ss ≡ []
  none_left xs ys ss i (inl t) l = none_reported (source_of script) xs ss i t l
  none_left xs ys ss i (inr m) l = none_may xs ys ss i m l

  -- the source at a place, and what the definitions have there
  pub record Item (i : ℕ) (xs ys : List (RunSource R)) (x v : RunSource R) (ss : List Source) : Type 0 where
    pub first : FirstFor i ys xs ss
    pub source : Source
    pub describes : DescribesSource script x v source
    pub there : drop i ss ≡ source ∷ drop (i + 1) ss

  pub item : (i : ℕ) (xs ys : List (RunSource R)) (x v : RunSource R)
      (ss : List Source) → drop i xs ≡ drop i ys → i < length xs → FirstFor (i + 1) ys (slice_set xs i v) ss
      → Item i xs ys (slice_index_or xs i x) v ss
  item i xs ys x v ss d l (inl t) =
      let k = reported_at (source_of script) ys ss i (slice_index_or xs i x) (drop (suc i) xs) t (sym d ∙ drop-cons xs i x l) in
      let n : suc i ≡ i + 1 = omega arith in
      record { first = inl t; source = k.0; describes = inl k.1; there = k.2 ∙ ap (λ (j : ℕ). k.0 ∷ drop j ss) n }
  item i xs ys x v ss d l (inr m) =
      let n : i + 1 ≡ suc i = omega arith in
      let k = item_may i xs ys (slice_index_or xs i x) v ss d (drop-cons xs i x l) (subst (λ (j : ℕ). may_first j ys (slice_set xs i v) ss) n m) in
      record { first = inr k.first; source = k.source; describes = inr k.may; there = k.there ∙ ap (λ (j : ℕ). k.source ∷ drop j ss) (sym n) }

pub stopped_so : (ss : List Source) (i j : ℕ) (s0 s s' : SessionState) (t : Source)
    (out0 out out' reported0 reported reported' : Option (List ℕ)) (e : Stop) (q r : Result Unit Stop) → q ≡ Err e
    → r ≡ Err e → IsOpen s0 → Between ss i s0 s (writers out0 out reported0 reported) → drop i ss ≡ t ∷ drop j ss
    → GoesTo (after_source s.limits t (progress_of s)) s s' (writers out out' reported reported') q
    → GoesTo (after_sources s0.limits ss (progress_of s0)) s0 s' (writers out0 out' reported0 reported') r
stopped_so ss i j s0 s s' t out0 out out' reported0 reported reported' e q r f g l b d h =
    subst (GoesTo (after_sources s0.limits ss (progress_of s0)) s0 s' (writers out0 out' reported0 reported')) (sym g)
    (stopped ss i j s0 s s' t out0 out out' reported0 reported reported' e l b d
    (subst (GoesTo (after_source s.limits t (progress_of s)) s s' (writers out out' reported reported')) f h))

pub step_so : (ss : List Source) (i j : ℕ) (s0 s : SessionState) (t : Source)
    (out0 out out' reported0 reported reported' : Option (List ℕ)) (e : Stop) (q r : Result Unit Stop) → q ≡ Err e
    → r ≡ Err e → Between ss i s0 s (writers out0 out reported0 reported) → drop i ss ≡ t ∷ drop j ss
    → BreaksBy q (Breaks (IsStepOf s.limits t) (progress_of s) (writers out out' reported reported'))
    → BreaksBy r (Breaks (InSources s0.limits ss) (progress_of s0) (writers out0 out' reported0 reported'))
step_so ss i j s0 s t out0 out out' reported0 reported reported' e q r f g b d h =
    same_breaks Unit Unit e q r _ _ f g (source_step ss i j s0 s t out0 out out' reported0 reported reported' b d) h
