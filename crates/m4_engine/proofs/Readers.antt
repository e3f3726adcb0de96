-- Readers: what a run does to its sources' readers, one source at a time: what was taken of them, and
-- whether one failed or wasn't opened.
use Rattle.std.proofs.Common.{◌≡◌, inl, inr, ◌<◌, ◌≤◌, ℕ, zero, suc, ◌+◌, Bool, true, false, List, [], ◌∷◌, length}
use Rattle.std.proofs.Common.{drop, drop-cons, Option, refl, sym, ap, ◌∙◌, subst, arith}
use Rattle.std.specs.Prelude.{◌||◌, Result, Ok, Err, slice_set, slice_index_or}
use Rattle.std.proofs.lemmas.List.{drop-drop, drop_all}
use Rattle.m4_state.specs.Device.{Script}
use Rattle.m4_engine.specs.declared.ending.Cause.TheVariants as causes
use Rattle.m4_engine.specs.declared.ending.Ending.{Ending}
use Rattle.m4_engine.specs.declared.source.Source.{Source as RunSource}
use Rattle.m4_engine.specs.declared.source.Source.TheVariants as sources
use Rattle.m4_engine.specs.declared.stop.Stop.{Stop}
use Rattle.m4_engine.specs.declared.stop.Stop.TheVariants as stops
use Rattle.m4_engine.specs.RunSources.{AllPairs, is_unopened, any_unopened, HasFailed, is_sound, AnyFailed}
use Rattle.m4_engine.specs.RunSources.{ReadersFailBy, ConsumesOnly, AllConsumeOnly}
use Rattle.m4_engine.specs.Session.{SessionState, FileGives, EndGives}
use Rattle.m4_engine.specs.SessionFailures.{ReadFails}
use Rattle.m4_engine.specs.Writers.{Contents, Three}
use Rattle.m4_engine.proofs.Sessions.{close_ends}
use Rattle.m4_engine.proofs.Sources.{same_taken}
use Rattle.m4_engine.specs.SessionSteps.{CloseGives, SourceFails, SourcesFail, ending_by}

-- a source that no call was made on is sound
pub sound_same : {R : Type 0} (failures : R → ℕ) (x : RunSource R) → is_sound failures x x
sound_same failures (sources.Opened name r) = refl
sound_same failures (sources.Unopened name) = tt

module _ {R : Type 0} (script : R → Option Script) (failures : R → ℕ) where
  -- a source by its reader
  opened_fails : (name n : List ℕ) (before later : R)
      (old new : SessionState) (w : Contents) (r : Result Unit Stop)
      → ReadFails r (failures before) (failures later) → FileGives name (script before) (script later) old new w r
      → SourceFails script failures r (sources.Opened name before) (sources.Opened n later)
  opened_fails name n before later old new w (Err (stops.Ended causes.Read)) h g = (h, g.at_fault)
  opened_fails name n before later old new w r h g = h

  pub source_fails : (name n : List ℕ) (before later : R) (first after : RunSource R) (old new : SessionState) (w : Contents)
      (r : Result Unit Stop) → first ≡ sources.Opened name before → after ≡ sources.Opened n later
      → ReadFails r (failures before) (failures later) → FileGives name (script before) (script later) old new w r
      → SourceFails script failures r first after
  source_fails name n before later first after old new w r f b h g =
      subst (λ x. SourceFails script failures r x after) (sym f)
      (subst (λ x. SourceFails script failures r (sources.Opened name before) x) (sym b) (opened_fails name n before later old new w r h g))

  -- the reader at a place failed
  failed_there : (i : ℕ) (xs ys : List (RunSource R))
      (x v : RunSource R) → drop i xs ≡ drop i ys → drop i xs ≡ x ∷ drop (suc i) xs → HasFailed script failures x v
      → AnyFailed script failures ys (slice_set xs i v)
  failed_there zero [] ys x v e d h = cc
  failed_there zero (a ∷ xs) [] x v e d h = cc
  failed_there zero (a ∷ xs) (b ∷ ys) x v e d h =
      let k : x ≡ b = cc in
      inl (subst (λ (y : RunSource _). HasFailed script failures y v) k h)
  failed_there (suc i) [] ys x v e d h = cc
  failed_there (suc i) (a ∷ xs) [] x v e d h = cc
  failed_there (suc i) (a ∷ xs) (b ∷ ys) x v e d h = inr (failed_there i xs ys x v e d h)

  pub item_failed : (i : ℕ) (xs ys : List (RunSource R))
      (x v : RunSource R) → drop i xs ≡ drop i ys → i < length xs → HasFailed script failures (slice_index_or xs i x) v
      → AnyFailed script failures ys (slice_set xs i v)
  item_failed i xs ys x v e l h = failed_there i xs ys (slice_index_or xs i x) v e (drop-cons xs i x l) h

-- each source is so related to itself
pub pairs_same : {A : Type 0} (P : A → A → Type 0) → ((x : A) → P x x) → (xs : List A) → AllPairs P xs xs
pairs_same P h [] = tt
pairs_same P h (x ∷ xs) = (h x, pairs_same P h xs)

-- what is at one place changes so
pair_there : {A : Type 0} (P : A → A → Type 0) (i : ℕ) (xs ys : List A) (x v : A) → AllPairs P ys xs
    → drop i xs ≡ drop i ys → drop i xs ≡ x ∷ drop (suc i) xs → P x v → AllPairs P ys (slice_set xs i v)
pair_there P zero [] ys x v a e d h = cc
pair_there P zero (p ∷ xs) [] x v a e d h = cc
pair_there P zero (p ∷ xs) (q ∷ ys) x v a e d h =
    let k : x ≡ q = cc in
    (subst (λ (y : _). P y v) k h, a.1)
pair_there P (suc i) [] ys x v a e d h = cc
pair_there P (suc i) (p ∷ xs) [] x v a e d h = cc
pair_there P (suc i) (p ∷ xs) (q ∷ ys) x v a e d h = (a.0, pair_there P i xs ys x v a.1 e d h)

pub pair_item : {A : Type 0} (P : A → A → Type 0) (i : ℕ) (xs ys : List A) (x v : A) → AllPairs P ys xs
    → drop i xs ≡ drop i ys → i < length xs → P (slice_index_or xs i x) v → AllPairs P ys (slice_set xs i v)
pair_item P i xs ys x v a e l h = pair_there P i xs ys (slice_index_or xs i x) v a e (drop-cons xs i x l) h

pub none_taken_yet : {R : Type 0} (script : R → Option Script) (xs : List (RunSource R)) → AllConsumeOnly script xs xs
none_taken_yet script xs = pairs_same (ConsumesOnly script) (same_taken script) xs

pub all_sound : {R : Type 0} (failures : R → ℕ) (xs : List (RunSource R)) → AllPairs (is_sound failures) xs xs
all_sound failures xs = pairs_same (is_sound failures) (sound_same failures) xs

module _ {R : Type 0} (script : R → Option Script) (failures : R → ℕ) where
  -- the sources' readers after a call that ended the run
  failed_by : (i : ℕ) (xs ys : List (RunSource R)) (x v : RunSource R) (e : Stop)
      → AllPairs (is_sound failures) ys xs → drop i xs ≡ drop i ys → i < length xs
      → SourceFails {A = Unit} script failures (Err e) (slice_index_or xs i x) v
      → SourcesFail {A = Unit} script failures (Err e) ys (slice_set xs i v)
  failed_by i xs ys x v (stops.Ended causes.Read) a d l h = item_failed script failures i xs ys x v d l h
  failed_by i xs ys x v e a d l h = pair_item (is_sound failures) i xs ys x v a d l h

  pub sources_fail : (i : ℕ) (xs ys : List (RunSource R)) (x v : RunSource R) (e : Stop)
      (q r : Result Unit Stop) → q ≡ Err e → r ≡ Err e → AllPairs (is_sound failures) ys xs → drop i xs ≡ drop i ys
      → i < length xs → SourceFails script failures q (slice_index_or xs i x) v → SourcesFail script failures r ys (slice_set xs i v)
  sources_fail i xs ys x v e q r f g a d l h =
      subst (λ (z : Result Unit Stop). SourcesFail script failures z ys (slice_set xs i v)) (sym g)
      (failed_by i xs ys x v e a d l (subst (λ (z : Result Unit Stop). SourceFails script failures z (slice_index_or xs i x) v) f h))

  -- the end of a run asks no reader
  ends_sound : (xs ys : List (RunSource R)) (freezes : Bool)
      (old new : SessionState) (w : Contents) (e : Stop) → EndGives freezes old new w (Err e)
      → AllPairs (is_sound failures) xs ys → SourcesFail {A = Bool} script failures (Err e) xs ys
  ends_sound xs ys freezes old new w (stops.Ended causes.Read) h a = absurd h
  ends_sound xs ys freezes old new w e h a = a

  pub close_sound : (xs ys : List (RunSource R)) (freezes : Bool)
      (old new : SessionState) (w : Three (Option (List ℕ))) (e : Stop) (q : Result Unit Stop) (r : Result Bool Stop)
      → q ≡ Err e → r ≡ Err e → CloseGives freezes old new w q → AllPairs (is_sound failures) xs ys
      → SourcesFail script failures r xs ys
  close_sound xs ys freezes old new w e q r f g h a =
      subst (λ (z : Result Bool Stop). SourcesFail script failures z xs ys) (sym g)
      (ends_sound xs ys freezes old new w.two e (subst (EndGives freezes old new w.two) f (close_ends freezes old new w q h)) a)

  pub same_fails : (xs ys : List (RunSource R)) (e : Stop)
      (q : Result Unit Stop) (r : Result Bool Stop) → q ≡ Err e → r ≡ Err e → SourcesFail script failures q xs ys
      → SourcesFail script failures r xs ys
  same_fails xs ys e q r f g h =
      subst (λ (z : Result Bool Stop). SourcesFail script failures z xs ys) (sym g)
      (as_bool e (subst (λ (z : Result Unit Stop). SourcesFail script failures z xs ys) f h))
    where
      as_bool : (e : Stop) → SourcesFail {A = Unit} script failures (Err e) xs ys → SourcesFail {A = Bool} script failures (Err e) xs ys
      as_bool (stops.Ended causes.Read) h = h
      as_bool e h = h

  ended_fails : (status : ℕ) (xs ys : List (RunSource R))
      (r : Result Bool Stop) → SourcesFail script failures r xs ys → ReadersFailBy script failures (ending_by status r).cause xs ys
  ended_fails status xs ys (Ok wrapped) h = h
  ended_fails status xs ys (Err stops.Finished) h = h
  ended_fails status xs ys (Err (stops.Ended causes.Read)) h = h
  ended_fails status xs ys (Err (stops.Ended cause)) h = h

  pub run_fails : (status : ℕ) (xs ys : List (RunSource R))
      (r : Result Bool Stop) (e : Ending) → e ≡ ending_by status r → SourcesFail script failures r xs ys
      → ReadersFailBy script failures e.cause xs ys
  run_fails status xs ys r e f h =
      subst (λ (z : Ending). ReadersFailBy script failures z.cause xs ys) (sym f) (ended_fails status xs ys r h)

-- whether a source wasn't opened, where so many were read
pub or_turn : (a r m : Bool) → (r || (a || m)) ≡ ((a || r) || m)
or_turn true true m = refl
or_turn true false m = refl
or_turn false r m = refl

pub missed_on : {R : Type 0} (i : ℕ) (xs ys : List (RunSource R)) (x : RunSource R) (m m' t : Bool)
    → drop i xs ≡ drop i ys → i < length xs → m' ≡ (is_unopened (slice_index_or xs i x) || m)
    → (any_unopened (drop i ys) || m) ≡ t → (any_unopened (drop (i + 1) ys) || m') ≡ t
missed_on i xs ys x m m' t e l h k =
    let s = slice_index_or xs i x in
    let n : suc i ≡ i + 1 = omega arith in
    let tail : drop (suc i) xs ≡ drop (i + 1) ys = ap (λ (k : ℕ). drop k xs) n ∙ sym (drop-drop 1 i xs) ∙ ap (drop 1) e ∙ drop-drop 1 i ys in
    let there : drop i ys ≡ s ∷ drop (i + 1) ys = sym e ∙ drop-cons xs i x l ∙ ap (λ (z : List (RunSource _)). s ∷ z) tail in
    ap (λ (b : Bool). any_unopened (drop (i + 1) ys) || b) h
    ∙ or_turn (is_unopened s) (any_unopened (drop (i + 1) ys)) m
    ∙ ap (λ (z : List (RunSource _)). any_unopened z || m) (sym there)
    ∙ k

pub missed_last : {R : Type 0} (i : ℕ) (xs ys : List (RunSource R)) (m t : Bool) → drop i xs ≡ drop i ys → length xs ≤ i
    → (any_unopened (drop i ys) || m) ≡ t → m ≡ t
missed_last i xs ys m t e l k =
    ap (λ (z : List (RunSource _)). any_unopened z || m) (sym (drop_all i xs l) ∙ e) ∙ k
