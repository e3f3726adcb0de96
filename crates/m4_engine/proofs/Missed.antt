-- Missed: whether a source wasn't opened, of those that a run began with.
use Rattle.std.proofs.Common.{◌≡◌, ◌<◌, ℕ, zero, suc, ◌+◌, Bool, true, false, List, [], ◌∷◌, ◌++◌, length, take, drop}
use Rattle.std.proofs.Common.{IsErr, IsErrAnd}
use Rattle.std.proofs.Common.{drop-cons, Option, Some, refl, sym, ap, ◌∙◌, subst, inl, inr, arith}
use Rattle.std.specs.Prelude.{◌||◌, Result, Ok, Err, slice_set, slice_index_or}
use Rattle.std.proofs.lemmas.List.{drop-drop, take-append-drop}
use Rattle.m4_engine.specs.declared.ending.Cause.{Cause}
use Rattle.m4_engine.specs.declared.ending.Cause.TheVariants as causes
use Rattle.m4_engine.specs.declared.ending.Ending.{Ending}
use Rattle.m4_engine.specs.declared.options.Options.{Options}
use Rattle.m4_engine.specs.declared.source.Source.{Source as RunSource}
use Rattle.m4_engine.specs.declared.source.Source.TheVariants as sources
use Rattle.m4_engine.specs.declared.stop.Stop.{Stop}
use Rattle.m4_engine.specs.declared.stop.Stop.TheVariants as stops
use Rattle.m4_engine.specs.Expansion.{Ends}
use Rattle.m4_engine.specs.Run.{status_of}
use Rattle.m4_engine.specs.RunSources.{MissedBy, MissedIn, any_unopened, is_unopened}
use Rattle.m4_engine.specs.RunSteps.{IsBegun}
use Rattle.m4_engine.specs.Session.{MissingGives, SessionState, how_by, status_at}
use Rattle.m4_engine.proofs.Reading.{rest_kept}
use Rattle.m4_engine.proofs.Readers.{or_turn}
use Rattle.m4_engine.proofs.Whole.{StatusIs, left_over}
use Rattle.m4_engine.specs.SessionSteps.{IsLeft, ending_by}

or_none : (b : Bool) → (b || false) ≡ b
or_none true = refl
or_none false = refl

or_assoc : (a b c : Bool) → (a || (b || c)) ≡ ((a || b) || c)
or_assoc true b c = refl
or_assoc false b c = refl

-- the sources after one
later_same : {R : Type 0} (i : ℕ) (xs ys : List (RunSource R)) → drop i xs ≡ drop i ys → drop (suc i) xs ≡ drop (i + 1) ys
later_same i xs ys e =
    let n : suc i ≡ i + 1 = omega arith in
    ap (λ (k : ℕ). drop k xs) n ∙ sym (drop-drop 1 i xs) ∙ ap (drop 1) e ∙ drop-drop 1 i ys

-- one more source
missed_take : {R : Type 0} (i : ℕ) (ys : List (RunSource R)) (s : RunSource R) (rest : List (RunSource R))
    → drop i ys ≡ s ∷ rest → any_unopened (take (suc i) ys) ≡ (any_unopened (take i ys) || is_unopened s)
missed_take zero [] s rest e = absurd cc
missed_take zero (y ∷ ys) s rest e =
    let k : y ≡ s = cc in
    or_none (is_unopened y) ∙ ap (λ (z : RunSource _). is_unopened z) k
missed_take (suc i) [] s rest e = absurd cc
missed_take (suc i) (y ∷ ys) s rest e =
    ap (λ (b : Bool). is_unopened y || b) (missed_take i ys s rest e) ∙ or_assoc (is_unopened y) (any_unopened (take i ys)) (is_unopened s)

pub begun_on : {R : Type 0} (i : ℕ) (xs ys : List (RunSource R)) (x : RunSource R) (m m' t : Bool)
    → drop i xs ≡ drop i ys → i < length xs → m' ≡ (is_unopened (slice_index_or xs i x) || m)
    → m ≡ (any_unopened (take i ys) || t) → m' ≡ (any_unopened (take (i + 1) ys) || t)
begun_on i xs ys x m m' t e l h k =
    let s = slice_index_or xs i x in
    let n : suc i ≡ i + 1 = omega arith in
    let more : any_unopened (take (suc i) ys) ≡ (any_unopened (take i ys) || is_unopened s) =
    missed_take i ys s (drop (suc i) xs) (sym e ∙ drop-cons xs i x l) in
    h ∙ ap (λ (b : Bool). is_unopened s || b) k ∙ or_turn (any_unopened (take i ys)) (is_unopened s) t
    ∙ ap (λ (b : Bool). b || t) (sym more ∙ ap (λ (j : ℕ). any_unopened (take j ys)) n)

-- the run ended in a source that was opened
opened_of : {R : Type 0} (s : RunSource R) → is_unopened s ≡ false → (name : List ℕ) × (reader : R) × (s ≡ sources.Opened name reader)
opened_of (sources.Opened name reader) e = (name, reader, refl)
opened_of (sources.Unopened name) e = absurd cc

pub exited_there : {R : Type 0} (i : ℕ) (xs ys : List (RunSource R)) (x v : RunSource R) (m m' t : Bool)
    → drop i xs ≡ drop i ys → i < length xs → m ≡ (any_unopened (take i ys) || t)
    → (is_unopened (slice_index_or xs i x) ≡ false) × (m' ≡ m) → t ≡ false → MissedBy ys (slice_set xs i v) m'
exited_there i xs ys x v m m' t e l k h n =
    let s = slice_index_or xs i x in
    let o = opened_of s h.0 in
    let there : drop i ys ≡ s ∷ drop (i + 1) ys = sym e ∙ drop-cons xs i x l ∙ ap (λ (z : List (RunSource _)). s ∷ z) (later_same i xs ys e) in
    inl (record {
      first = take i ys;
      name = o.0;
      reader = o.1;
      rest = drop (i + 1) ys;
      parts = sym (take-append-drop i ys) ∙ ap (λ (z : List (RunSource _)). take i ys ++ z) (there ∙ ap (λ (y : RunSource _). y ∷ drop (i + 1) ys) o.2);
      read = take (i + 1) (slice_set xs i v);
      untouched = sym (take-append-drop (i + 1) (slice_set xs i v))
          ∙ ap (λ (z : List (RunSource _)). take (i + 1) (slice_set xs i v) ++ z) (rest_kept xs ys i v e);
      missed = h.1 ∙ k ∙ ap (λ (b : Bool). any_unopened (take i ys) || b) n ∙ or_none (any_unopened (take i ys));
    })

-- the run ended after its last source
pub exited_late : {R : Type 0} (xs ys : List (RunSource R)) (m m' t : Bool) → m ≡ (any_unopened xs || t) → m' ≡ m → t ≡ false → MissedBy xs ys m'
exited_late xs ys m m' t h k n = inr (k ∙ h ∙ ap (λ (c : Bool). any_unopened xs || c) n ∙ or_none (any_unopened xs))

-- the error that an answer passes on
pub passed_on : {A E : Type 0} (r : Result A E) (e : E) → IsErr r × IsErrAnd r (λ x. x ≡ e) → r ≡ Err e
passed_on (Ok x) e h = let n : false ≡ true = h.0 in absurd cc
passed_on (Err x) e h = ap (λ y. Err y) h.1

-- a call that ends the run so
pub same_stop : {A B : Type 0} (f s : Stop) (q : Result A Stop) (r : Result B Stop) → q ≡ Err f → r ≡ Err f → r ≡ Err s → q ≡ Err s
same_stop f s q r a b h =
    let k : f ≡ s = cc in
    a ∙ ap (λ (x : Stop). Err x) k

pub opened_exits : {R : Type 0} (x : RunSource R) (name : List ℕ) (reader : R) (m m' : Bool)
    → x ≡ sources.Opened name reader → m' ≡ m → (is_unopened x ≡ false) × (m' ≡ m)
opened_exits x name reader m m' e k = (ap (λ (z : RunSource _). is_unopened z) e, k)

pub missing_exits : {P : Type 0} (name : List ℕ) (old new : SessionState) (a b : Option (List ℕ)) (r : Result Unit Stop)
    (code : ℕ) → MissingGives name old new a b r → r ≡ Err (stops.Ended (causes.Exited code)) → P
missing_exits name old new a b r code h e = absurd (subst (MissingGives name old new a b) e h)

-- a run that begins has met no source
pub begun_unmissed : (o : Options) (s : SessionState) (st : Result SessionState Stop) → st ≡ Ok s → IsBegun o st → s.any_missing ≡ false
begun_unmissed o s st i h =
    let k = subst (IsBegun o) i h in
    ap (λ (x : SessionState). x.any_missing) k.1

-- the status of a run that `m4exit` ended
abbrev pub ExitedWith : {R : Type 0} → ℕ → List (RunSource R) → List (RunSource R) → Ending → Type 0
ExitedWith code xs ys d =
    (any_missing : Bool) × (d.status ≡ status_of (Ends (causes.Exited code)) any_missing) × MissedBy xs ys any_missing

exits_by : (n : ℕ) (e : Stop) (code : ℕ) → (ending_by n (Err e)).cause ≡ causes.Exited code → e ≡ stops.Ended (causes.Exited code)
exits_by n stops.Finished code c = absurd cc
exits_by n (stops.Ended cause) code c = ap (λ (z : Cause). stops.Ended z) c

pub never_exited : {P : Type 0} (o : Options) (st : Result SessionState Stop) (e : Stop) (n : ℕ) (d : Ending) (code : ℕ)
    → st ≡ Err e → d ≡ ending_by n (Err e) → IsBegun o st → d.cause ≡ causes.Exited code → P
never_exited o st e n d code i j h c =
    let k : (ending_by n (Err e)).cause ≡ causes.Exited code = sym (ap (λ (y : Ending). y.cause) j) ∙ c in
    absurd (subst (λ (y : Stop). IsBegun o (Err y)) (exits_by n e code k) (subst (IsBegun o) i h))

pub left_exited : {R : Type 0} (xs ys : List (RunSource R)) (new : SessionState) (r : Result Bool Stop) (d : Ending)
    (code : ℕ) → IsLeft new r → d ≡ ending_by (status_at new) r → d.cause ≡ causes.Exited code
    → (r ≡ Err (stops.Ended (causes.Exited code)) → MissedBy xs ys new.any_missing) → ExitedWith code xs ys d
left_exited xs ys new (Ok wrapped) d code l j c h =
    let k : causes.Done ≡ causes.Exited code = sym (ap (λ (y : Ending). y.cause) j) ∙ c in
    absurd cc
left_exited xs ys new (Err stops.Finished) d code l j c h = absurd l
left_exited xs ys new (Err (stops.Ended cause)) d code l j c h =
    let k : cause ≡ causes.Exited code = sym (ap (λ (y : Ending). y.cause) j) ∙ c in (
      new.any_missing,
      ap (λ (y : Ending). y.status) j ∙ ap (λ (o : Option Cause). status_of (how_by o) new.any_missing) (left_over new cause l ∙ ap (λ (z : Cause). Some z) k),
      h (ap (λ (z : Cause). Err (stops.Ended z)) k),
    )

-- the status of a run, by its cause and by the sources that count
status_by : {R : Type 0} (xs ys : List (RunSource R)) (d : Ending) (cause : Cause) → d.cause ≡ cause → StatusIs (any_unopened xs) d
    → ((code : ℕ) → d.cause ≡ causes.Exited code → ExitedWith code xs ys d)
    → (any_missing : Bool) × (d.status ≡ status_of (Ends cause) any_missing) × MissedIn cause xs ys any_missing
status_by xs ys d causes.Done e s x = (s.0, s.1 ∙ ap (λ (z : Cause). status_of (Ends z) s.0) e, s.2 e)
status_by xs ys d (causes.Exited code) e s x = x code e
status_by xs ys d cause e s x = (s.0, s.1 ∙ ap (λ (z : Cause). status_of (Ends z) s.0) e, tt)

pub status_so : {R : Type 0} (xs ys : List (RunSource R)) (d : Ending) → StatusIs (any_unopened xs) d
    → ((code : ℕ) → d.cause ≡ causes.Exited code → ExitedWith code xs ys d)
    → (any_missing : Bool) × (d.status ≡ status_of (Ends d.cause) any_missing) × MissedIn d.cause xs ys any_missing
status_so xs ys d s x = status_by xs ys d d.cause refl s x
