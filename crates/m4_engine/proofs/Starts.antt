-- Starts: a run after its start: what the start issues is written first.
use Rattle.std.proofs.Common.{◌≡◌, ◌⊎◌, inl, inr, ℕ, Bool, false, List, [], ◌∷◌, ◌++◌, Option, Some, None, refl, sym}
use Rattle.std.proofs.Common.{ap, ◌∙◌, subst, append-nil}
use Rattle.std.specs.Prelude.{◌≢◌, IfSome, IfOk, IfErr, OnOk, Result, Ok, Err}
use Rattle.m4_state.proofs.CallerLaws.{with_bytes-append, with_bytes-nil}
use Rattle.m4_state.specs.State.{State}
use Rattle.m4_state.specs.Device.{Script, with_bytes, HasBegun, one_more}
use Rattle.m4_state.specs.Fresh.{fresh}
use Rattle.m4_frozen.specs.Outcome.{Loads}
use Rattle.m4_frozen.specs.declared.loading.Loaded.{Loaded}
use Rattle.m4_frozen.specs.declared.fault.FrozenFault.{FrozenFault}
use Rattle.m4_frozen.specs.declared.fault.FrozenKind.{FrozenKind}
use Rattle.m4_frozen.specs.declared.fault.FrozenKind.TheVariants as kinds
use Rattle.m4_engine.specs.declared.ending.Cause.{Cause}
use Rattle.m4_engine.specs.declared.ending.Cause.TheVariants as causes
use Rattle.m4_engine.specs.declared.ending.Ending.{Ending}
use Rattle.m4_engine.specs.declared.options.Options.{Options}
use Rattle.m4_engine.specs.declared.source.Source.{Source as RunSource}
use Rattle.m4_engine.specs.declared.stop.Stop.{Stop}
use Rattle.m4_engine.specs.declared.stop.Stop.TheVariants as stops
use Rattle.m4_engine.specs.Carries.{frozen_state}
use Rattle.m4_engine.specs.Expansion.{Limits, EndReason, Ends, RunSoFar}
use Rattle.m4_engine.specs.File.{Source, Progress, after_sources}
use Rattle.m4_engine.specs.Start.{Start, From, Faulty, start_of, begun}
use Rattle.m4_engine.specs.Wraps.{after_wraps}
use Rattle.m4_engine.specs.Run.{RunResult, limits_of, result_of, saved_after, status_of}
use Rattle.m4_engine.specs.Run.{run_from}
use Rattle.m4_engine.specs.Session.{SessionState, progress_of, session_from, fresh_session, AreReloaded, ReloadGives}
use Rattle.m4_engine.specs.Session.{IsOpen, EndGives}
use Rattle.m4_engine.specs.RunSteps.{BeginGives, IsBegun, BeginFails}
use Rattle.m4_engine.specs.SessionFailures.{ReloadFails, ByAnswer, MessageWriteFails, ThreeFail}
use Rattle.m4_engine.specs.RunSources.{AllPairs, is_sound, ReadersFailBy, DescribesFrozen, frozen_fails}
use Rattle.m4_engine.specs.RunSources.{FrozenFailsBy, IsUnrefused}
use Rattle.m4_engine.specs.WholeRun.{WroteAll, WrotePrefix, GivesBy, RefusedBy, HasFrozen, FrozenBegan, FrozenBy}
use Rattle.m4_engine.specs.WholeRun.{FrozenLast, RunGives, NothingIsDone}
use Rattle.m4_engine.specs.Writers.{Contents, Three, writers, ByCause, NoneOfThree, OneOfThree, IsSpared}
use Rattle.m4_engine.specs.Writers.{ThreeFailBy, Spares}
use Rattle.m4_engine.proofs.Begins.{nothing_begun, begun_after}
use Rattle.m4_engine.proofs.OnePass.{over_sources, over_wraps}
use Rattle.m4_engine.proofs.GoingOn.{after, sources_after, wraps_after}
use Rattle.m4_engine.proofs.SameStart.{is_start}
use Rattle.m4_engine.proofs.Sessions.{close_ends}
use Rattle.m4_engine.proofs.Whole.{begun_longer, closed_after, none_saved, StatusIs}
use Rattle.m4_engine.proofs.Cases.{result_by, saved_unless_over}
use Rattle.m4_engine.specs.SessionSteps.{IsLeft, CloseGives, SparesBy, result_after, ending_by}

-- a result with output that was written before
abbrev issuing : List ℕ → RunResult → RunResult
issuing x r = record r { output = x ++ r.output }

-- a run's progress after what its start issues
pub begun_is : (o : Options) (s : State) (x : List ℕ) → begun (From s x) ≡ after x [] (progress_of (session_from o s))
begun_is o s x = ap (λ y. begun (From s y)) (sym (append-nil x))

saved_same : (ss : List Source) (x : List ℕ) (p : Progress) → saved_after ss (after x [] p) ≡ saved_after ss p
saved_same [] x p = refl
saved_same (s ∷ ss) x p = there p.over
  where
    there : (over : Option EndReason) → saved_unless_over over (after x [] p).so_far ≡ saved_unless_over over p.so_far
    there None = refl
    there (Some h) = refl

result_by_after : (over : Option EndReason) (freezes : Bool) (saved : List (List ℕ)) (x : List ℕ) (r : RunSoFar)
    (any_missing : Bool) → result_by over freezes saved
    (record r { output = x ++ r.output; messages = [] ++ r.messages }) any_missing
    ≡ issuing x (result_by over freezes saved r any_missing)
result_by_after None freezes saved x r any_missing =
    ap (λ (y : List ℕ). let k : RunResult = record (result_by None freezes saved r any_missing) { output = y } in k) (closed_after freezes x [] r)
result_by_after (Some h) freezes saved x r any_missing = refl

-- a run from a start is the run from its state, after what is issued
pub run_after : (o : Options) (s : State) (x : List ℕ) (ss : List Source) → run_from o (From s x) ss ≡ issuing x
    (result_after o.freeze (limits_of o) ss (after_sources (limits_of o) ss (progress_of (session_from o s))))
run_after o s x ss =
    let limits : Limits = limits_of o in
    let q : Progress = progress_of (session_from o s) in
    let p : Progress = after_sources limits ss q in
    let e : after_sources limits ss (begun (From s x)) ≡ after x [] p = ap (after_sources limits ss) (begun_is o s x) ∙ sources_after x [] limits ss q in
    ap (λ (y : Progress). result_of o.freeze (saved_after ss y) (after_wraps limits y)) e
    ∙ ap (λ v. result_of o.freeze v (after_wraps limits (after x [] p))) (saved_same ss x p)
    ∙ ap (result_of o.freeze (saved_after ss p)) (wraps_after x [] limits p)
    ∙ result_by_after (after_wraps limits p).over o.freeze (saved_after ss p) x (after_wraps limits p).so_far (after_wraps limits p).any_missing

module _ (x : List ℕ) (r : RunResult) (out0 out1 out2 reported reported' frozen frozen' : Option (List ℕ)) (e : out1 ≡ with_bytes out0 x) where
  abbrev V : Three (Option (List ℕ))
  V = record { two = writers out1 out2 reported reported'; frozen_old = frozen; frozen_new = frozen' }

  abbrev W : Three (Option (List ℕ))
  W = record { two = writers out0 out2 reported reported'; frozen_old = frozen; frozen_new = frozen' }

  wrote : (d : Ending) → WroteAll r d V.two → WroteAll (issuing x r) d W.two
  wrote d h = record {
    reason = h.reason;
    status = h.status;
    wrapped = h.wrapped;
    output = h.output ∙ ap (λ (y : Option (List ℕ)). with_bytes y r.output) e ∙ with_bytes-append out0 x r.output;
    messages = h.messages;
  }

  short : (d : Ending) → WrotePrefix r d V.two → WrotePrefix (issuing x r) d W.two
  short d h = record {
    wrapped = h.wrapped;
    output = begun_after out0 out1 out2 x r.output [] _ e h.output (sym (append-nil _));
    messages = h.messages;
  }

  refused : (k : FrozenKind) (d : Ending) → RefusedBy k r d V.two → RefusedBy k (issuing x r) d W.two
  refused kinds.OutOfMemory d h = short d h
  refused kind d h = wrote d h

  gives : (c : Cause) (d : Ending) → GivesBy c r d V.two → GivesBy c (issuing x r) d W.two
  gives (causes.Frozen f) d h = refused f.kind d h
  gives causes.Read d h = short d h
  gives causes.Write d h = short d h
  gives causes.OutOfMemory d h = short d h
  gives cause d h = wrote d h

  began : FrozenBegan r V → FrozenBegan (issuing x r) W
  began h = record {
    text = h.text;
    is = h.is;
    begun = h.begun;
    output = h.output ∙ ap (λ (y : Option (List ℕ)). with_bytes y r.output) e ∙ with_bytes-append out0 x r.output;
    messages = h.messages;
  }

  began_or : IsSpared V ⊎ FrozenBegan r V → IsSpared W ⊎ FrozenBegan (issuing x r) W
  began_or (inl h) = inl h
  began_or (inr h) = inr (began h)

  has : (v : Option (List ℕ)) → HasFrozen v V → HasFrozen v W
  has None h = h
  has (Some text) h = h

  froze : (c : Cause) → FrozenBy c r V → FrozenBy c (issuing x r) W
  froze causes.Done h = has r.frozen h
  froze causes.Write h = began_or h
  froze cause h = h

  -- what a run gives after what its start issues
  issued_gives : (d : Ending) → RunGives r d V → RunGives (issuing x r) d W
  issued_gives d h = record { gives = gives d.cause d h.gives; frozen = froze d.cause h.frozen }

  last_or : {P : Type 0} → P ⊎ FrozenBegan r V → P ⊎ FrozenBegan (issuing x r) W
  last_or (inl h) = inl h
  last_or (inr h) = inr (began h)

  issued_last : {Z : Type 0} → (c : Cause) (z z' : Z) → FrozenLast c r z z' V → FrozenLast c (issuing x r) z z' W
  issued_last causes.Write z z' h = last_or h
  issued_last c z z' h = tt

-- a run that began
pub begun_gives : (o : Options) (start : Start) (ss : List Source) (s : SessionState) (st : Result SessionState Stop)
    (d x : Ending) (out0 out1 out2 reported reported' frozen frozen' : Option (List ℕ)) → st ≡ Ok s → d ≡ x
    → BeginGives start o out0 out1 st
    → RunGives (result_after o.freeze s.limits ss (after_sources s.limits ss (progress_of s))) x
    (record { two = writers out1 out2 reported reported'; frozen_old = frozen; frozen_new = frozen' })
    → RunGives (run_from o start ss) d
    (record { two = writers out0 out2 reported reported'; frozen_old = frozen; frozen_new = frozen' })
begun_gives o start ss s st d x out0 out1 out2 reported reported' frozen frozen' i j b h =
    let k = subst (BeginGives start o out0 out1) i b in
    let v : Three (Option (List ℕ)) = record { two = writers out1 out2 reported reported'; frozen_old = frozen; frozen_new = frozen' } in
    let w : Three (Option (List ℕ)) = record { two = writers out0 out2 reported reported'; frozen_old = frozen; frozen_new = frozen' } in
    let r : RunResult = result_after o.freeze (limits_of o) ss (after_sources (limits_of o) ss (progress_of (session_from o k.0))) in
    let g : RunGives r x v = subst (λ (y : SessionState). RunGives (result_after o.freeze y.limits ss (after_sources y.limits ss (progress_of y))) x v) k.3 h in
    let n : run_from o start ss ≡ issuing k.1 r = ap (λ (y : Start). run_from o y ss) k.2 ∙ run_after o k.0 k.1 ss in
    subst (λ (y : Ending). RunGives (run_from o start ss) y w) (sym j)
    (subst (λ (y : RunResult). RunGives y x w) (sym n)
    (issued_gives k.1 r out0 out1 out2 reported reported' frozen frozen' k.4 x g))

-- the same of the writer of the frozen text
pub begun_last : {Z : Type 0} → (o : Options) (start : Start) (ss : List Source) (s : SessionState) (st : Result SessionState Stop)
    (c d : Cause) (z z' : Z) (out0 out1 out2 reported reported' frozen frozen' : Option (List ℕ)) → st ≡ Ok s → d ≡ c
    → BeginGives start o out0 out1 st
    → FrozenLast c (result_after o.freeze s.limits ss (after_sources s.limits ss (progress_of s))) z z'
    (record { two = writers out1 out2 reported reported'; frozen_old = frozen; frozen_new = frozen' })
    → FrozenLast d (run_from o start ss) z z'
    (record { two = writers out0 out2 reported reported'; frozen_old = frozen; frozen_new = frozen' })
begun_last o start ss s st c d z z' out0 out1 out2 reported reported' frozen frozen' i j b h =
    let k = subst (BeginGives start o out0 out1) i b in
    let v : Three (Option (List ℕ)) = record { two = writers out1 out2 reported reported'; frozen_old = frozen; frozen_new = frozen' } in
    let w : Three (Option (List ℕ)) = record { two = writers out0 out2 reported reported'; frozen_old = frozen; frozen_new = frozen' } in
    let r : RunResult = result_after o.freeze (limits_of o) ss (after_sources (limits_of o) ss (progress_of (session_from o k.0))) in
    let g : FrozenLast c r z z' v = subst
    (λ (y : SessionState). FrozenLast c
    (result_after o.freeze y.limits ss (after_sources y.limits ss (progress_of y))) z z' v) k.3 h in
    let n : run_from o start ss ≡ issuing k.1 r = ap (λ (y : Start). run_from o y ss) k.2 ∙ run_after o k.0 k.1 ss in
    subst (λ (y : Cause). FrozenLast y (run_from o start ss) z z' w) (sym j)
    (subst (λ (y : RunResult). FrozenLast c y z z' w) (sym n)
    (issued_last k.1 r out0 out1 out2 reported reported' frozen frozen' k.4 c z z' g))

-- the state that such a run freezes
pub begun_state : (P : State → Type 0) (o : Options) (start : Start) (ss : List Source) (s : SessionState)
    (st : Result SessionState Stop) (out0 out1 : Option (List ℕ)) → st ≡ Ok s → BeginGives start o out0 out1 st
    → P ((after_wraps s.limits (after_sources s.limits ss (progress_of s))).so_far).state
    → P (frozen_state o start ss)
begun_state P o start ss s st out0 out1 i b h =
    let k = subst (BeginGives start o out0 out1) i b in
    let limits : Limits = limits_of o in
    let p : Progress = after_sources limits ss (progress_of (session_from o k.0)) in
    let g : P ((after_wraps limits p).so_far).state =
    subst (λ (y : SessionState). P ((after_wraps y.limits (after_sources y.limits ss (progress_of y))).so_far).state) k.3 h in
    let e : after_wraps limits (after_sources limits ss (begun start)) ≡ after k.1 [] (after_wraps limits p) =
    ap (λ (y : Start). after_wraps limits (after_sources limits ss (begun y))) k.2
    ∙ ap (λ (y : Progress). after_wraps limits (after_sources limits ss y)) (begun_is o k.0 k.1)
    ∙ ap (after_wraps limits) (sources_after k.1 [] limits ss (progress_of (session_from o k.0)))
    ∙ wraps_after k.1 [] limits p in
    subst (λ (y : Progress). P (y.so_far).state) (sym e) g

-- the status of a run that did not begin
abbrev pub status_after : Stop → ℕ
status_after stops.Finished = 0
status_after (stops.Ended cause) = status_of (Ends cause) false

pub never_ends : (e : Stop) (n : ℕ) (d : Ending) → d ≡ ending_by 0 (Err e) → n ≡ status_of (Ends d.cause) false
    → record d { status = n } ≡ ending_by (status_after e) (Err e)
never_ends e n d i j =
    ap (λ (k : ℕ). record d { status = k }) j
    ∙ ap (λ (y : Ending). record y { status = status_of (Ends y.cause) false }) i ∙ same e
  where
    same : (e : Stop) → record (ending_by 0 (Err e)) { status = status_of (Ends (ending_by 0 (Err e)).cause) false } ≡ ending_by (status_after e) (Err e)
    same stops.Finished = refl
    same (stops.Ended cause) = refl

-- a run whose frozen file was refused
faulty_is : (o : Options) (fault : FrozenFault) (ss : List Source) → run_from o (Faulty fault) ss ≡ result_of o.freeze [] (begun (Faulty fault))
faulty_is o fault ss =
    let p : Progress = begun (Faulty fault) in
    let q : Progress = after_sources (limits_of o) ss p in
    let e : q ≡ p = over_sources (limits_of o) ss p (Ends (causes.Frozen fault)) refl in
    ap (λ v. result_of o.freeze v (after_wraps (limits_of o) q)) (none_saved ss q (Ends (causes.Frozen fault)) (ap (λ (y : Progress). y.over) e))
    ∙ ap (λ (y : Progress). result_of o.freeze [] (after_wraps (limits_of o) y)) e
    ∙ ap (result_of o.freeze []) (over_wraps (limits_of o) p (Ends (causes.Frozen fault)) refl)

-- it wrote nothing
faulty_wrote : (o : Options) (start : Start) (fault : FrozenFault) (ss : List Source)
    (out out' reported : Option (List ℕ)) → out' ≡ out → start ≡ Faulty fault
    → WroteAll (run_from o start ss)
    (ending_by (status_after (stops.Ended (causes.Frozen fault))) (Err (stops.Ended (causes.Frozen fault))))
    (writers out out' reported reported)
faulty_wrote o start fault ss out out' reported i e =
    subst (λ (y : RunResult). WroteAll y
    (ending_by (status_after (stops.Ended (causes.Frozen fault))) (Err (stops.Ended (causes.Frozen fault))))
    (writers out out' reported reported))
    (sym (ap (λ (y : Start). run_from o y ss) e ∙ faulty_is o fault ss)) (record {
      reason = refl;
      status = refl;
      wrapped = refl;
      output = i ∙ with_bytes-nil out;
      messages = with_bytes-nil reported;
    })

-- a run that wrote nothing, or a beginning of what its start issues
fell_silent : (r : RunResult) (d : Ending) (out out' reported : Option (List ℕ)) → d.wrapped ≡ false → out' ≡ out
    → WrotePrefix r d (writers out out' reported reported)
fell_silent r d out out' reported w i = record {
  wrapped = w;
  output = subst (λ y. HasBegun out y r.output) (sym i) (nothing_begun out r.output);
  messages = nothing_begun reported r.messages;
}

fell_issuing : (o : Options) (start : Start) (ss : List Source) (d : Ending) (out out' reported : Option (List ℕ))
    (s : State) (x : List ℕ) → d.wrapped ≡ false → start ≡ From s x → HasBegun out out' x
    → WrotePrefix (run_from o start ss) d (writers out out' reported reported)
fell_issuing o start ss d out out' reported s x w e h =
    let r : RunResult = result_after o.freeze (limits_of o) ss (after_sources (limits_of o) ss (progress_of (session_from o s))) in
    subst (λ (y : RunResult). WrotePrefix y d (writers out out' reported reported)) (sym (ap (λ (y : Start). run_from o y ss) e ∙ run_after o s x ss)) (record {
      wrapped = w;
      output = begun_longer out out' x (x ++ r.output) h (r.output, refl);
      messages = nothing_begun reported r.messages;
    })

refused_gives : (k : FrozenKind) (o : Options) (start : Start) (fault : FrozenFault) (ss : List Source)
    (out out' reported : Option (List ℕ)) → fault.kind ≡ k → out' ≡ out
    → (fault.kind ≢ kinds.OutOfMemory → start ≡ Faulty fault)
    → RefusedBy k (run_from o start ss)
    (ending_by (status_after (stops.Ended (causes.Frozen fault))) (Err (stops.Ended (causes.Frozen fault))))
    (writers out out' reported reported)
refused_gives kinds.OutOfMemory o start fault ss out out' reported e i h = fell_silent _ _ out out' reported refl i
refused_gives kind o start fault ss out out' reported e i h = faulty_wrote o start fault ss out out' reported i (h (λ x. cc))

-- a run that did not begin
never_by : (o : Options) (start : Start) (ss : List Source) (e : Stop) (out out' reported frozen : Option (List ℕ))
    → BeginGives start o out out' (Err e)
    → RunGives (run_from o start ss) (ending_by (status_after e) (Err e))
    (record { two = writers out out' reported reported; frozen_old = frozen; frozen_new = frozen })
never_by o start ss stops.Finished out out' reported frozen h = absurd h
never_by o start ss (stops.Ended (causes.Frozen fault)) out out' reported frozen h =
    record { gives = refused_gives fault.kind o start fault ss out out' reported refl h.0 h.1; frozen = refl }
never_by o start ss (stops.Ended causes.Write) out out' reported frozen h =
    record { gives = fell_issuing o start ss _ out out' reported h.0 h.1 refl h.2 h.3; frozen = inl refl }
never_by o start ss (stops.Ended causes.OutOfMemory) out out' reported frozen h = record { gives = fell_silent _ _ out out' reported refl h; frozen = refl }
never_by o start ss (stops.Ended cause) out out' reported frozen h = absurd h

pub never_gives : (o : Options) (start : Start) (ss : List Source) (st : Result SessionState Stop) (e : Stop) (n : ℕ)
    (d : Ending) (out out' reported frozen : Option (List ℕ)) → st ≡ Err e → n ≡ status_after e
    → d ≡ ending_by n (Err e) → BeginGives start o out out' st
    → RunGives (run_from o start ss) d
    (record { two = writers out out' reported reported; frozen_old = frozen; frozen_new = frozen })
never_gives o start ss st e n d out out' reported frozen i m j h =
    subst (λ (y : Ending). RunGives (run_from o start ss) y (record { two = writers out out' reported reported; frozen_old = frozen; frozen_new = frozen }))
    (sym (j ∙ ap (λ (k : ℕ). ending_by k (Err e)) m))
    (never_by o start ss e out out' reported frozen (subst (BeginGives start o out out') i h))

-- how it ended
begun_cause : (o : Options) (e : Stop) → IsBegun o (Err e) → (cause : Cause) × (e ≡ stops.Ended cause) × (cause ≢ causes.Done) × (cause ≢ causes.Read)
begun_cause o stops.Finished h = absurd h
begun_cause o (stops.Ended (causes.Frozen fault)) h = (causes.Frozen fault, refl, λ x. cc, λ x. cc)
begun_cause o (stops.Ended causes.Write) h = (causes.Write, refl, λ x. cc, λ x. cc)
begun_cause o (stops.Ended causes.OutOfMemory) h = (causes.OutOfMemory, refl, λ x. cc, λ x. cc)
begun_cause o (stops.Ended cause) h = absurd h

never_is : (o : Options) (st : Result SessionState Stop) (e : Stop) (n : ℕ) (d : Ending) → st ≡ Err e
    → n ≡ status_after e → d ≡ ending_by n (Err e) → IsBegun o st
    → (cause : Cause) × (st ≡ Err (stops.Ended cause))
    × (d ≡ record { status = status_of (Ends cause) false; cause = cause; wrapped = false }) × (cause ≢ causes.Done)
    × (cause ≢ causes.Read)
never_is o st e n d i m j h =
    let k = begun_cause o e (subst (IsBegun o) i h) in (
      k.0,
      i ∙ ap (λ (y : Stop). Err y) k.1,
      j ∙ ap (λ (y : ℕ). ending_by y (Err e)) m ∙ ap (λ (y : Stop). ending_by (status_after y) (Err y)) k.1,
      k.2,
      k.3,
    )

pub never_status : (o : Options) (st : Result SessionState Stop) (e : Stop) (n : ℕ) (d : Ending) (unopened : Bool)
    → st ≡ Err e → n ≡ status_after e → d ≡ ending_by n (Err e) → IsBegun o st → StatusIs unopened d
never_status o st e n d unopened i m j h =
    let k = never_is o st e n d i m j h in
    subst (StatusIs unopened) (sym k.2) (false, refl, λ x. absurd (k.3 x))

module _ {R : Type 0} (script : R → Option Script) (failures : R → ℕ) where
  -- no source was read
  sound_by : (xs ys : List (RunSource R)) (cause : Cause)
      → cause ≢ causes.Read → AllPairs (is_sound failures) xs ys → ReadersFailBy script failures cause xs ys
  sound_by xs ys causes.Read n a = absurd (n refl)
  sound_by xs ys cause n a = a

  pub never_read : (xs ys : List (RunSource R)) (o : Options)
      (st : Result SessionState Stop) (e : Stop) (n : ℕ) (d : Ending) → st ≡ Err e → n ≡ status_after e
      → d ≡ ending_by n (Err e) → IsBegun o st → AllPairs (is_sound failures) xs ys
      → ReadersFailBy script failures d.cause xs ys
  never_read xs ys o st e n d i m j h a =
      let k = never_is o st e n d i m j h in
      subst (λ (y : Ending). ReadersFailBy script failures y.cause xs ys) (sym k.2) (sound_by xs ys k.0 k.4 a)

-- the frozen file's reader
frozen_by : (cause : Cause) (old new : ℕ) → ReloadFails {A = SessionState} (Err (stops.Ended cause)) old new → frozen_fails cause old new
frozen_by (causes.Frozen fault) old new h = h
frozen_by cause old new h = h

module _ {R : Type 0} (failures : R → ℕ) where
  never_frozen_by : (xs ys : Option R) (cause : Cause)
      → BeginFails {A = SessionState} failures (Err (stops.Ended cause)) xs ys → FrozenFailsBy failures cause xs ys
  never_frozen_by None None cause h = h
  never_frozen_by None (Some y) cause h = absurd h
  never_frozen_by (Some x) None cause h = absurd h
  never_frozen_by (Some x) (Some y) cause h = frozen_by cause (failures x) (failures y) h

  pub never_frozen : (xs ys : Option R) (o : Options) (st : Result SessionState Stop)
      (e : Stop) (n : ℕ) (d : Ending) → st ≡ Err e → n ≡ status_after e → d ≡ ending_by n (Err e) → IsBegun o st
      → BeginFails failures st xs ys → FrozenFailsBy failures d.cause xs ys
  never_frozen xs ys o st e n d i m j h a =
      let k = never_is o st e n d i m j h in
      subst (λ (y : Ending). FrozenFailsBy failures y.cause xs ys) (sym k.2)
      (never_frozen_by xs ys k.0 (subst (λ (y : Result SessionState Stop). BeginFails failures y xs ys) k.1 a))

-- the writers
written_by : (cause : Cause) (old new reported frozen : ℕ) (w : Three (Option (List ℕ))) → IsSpared w
    → ByCause cause (new ≡ old) (new ≡ one_more old)
    → ByCause cause
    (NoneOfThree (record { two = writers old new reported reported; frozen_old = frozen; frozen_new = frozen }))
    (OneOfThree (record { two = writers old new reported reported; frozen_old = frozen; frozen_new = frozen }) w)
written_by causes.Write old new reported frozen w s h = inl (inl (h, refl), refl, s)
written_by cause old new reported frozen w s h = ((h, refl), refl)

pub never_wrote : (o : Options) (st : Result SessionState Stop) (e : Stop) (n : ℕ) (d : Ending)
    (old new reported frozen : ℕ) (w : Three (Option (List ℕ))) → st ≡ Err e → n ≡ status_after e
    → d ≡ ending_by n (Err e) → IsBegun o st → IsSpared w → MessageWriteFails st old new
    → ByCause d.cause
    (NoneOfThree (record { two = writers old new reported reported; frozen_old = frozen; frozen_new = frozen }))
    (OneOfThree (record { two = writers old new reported reported; frozen_old = frozen; frozen_new = frozen }) w)
never_wrote o st e n d old new reported frozen w i m j h s t =
    let k = never_is o st e n d i m j h in
    let f : Three ℕ = record { two = writers old new reported reported; frozen_old = frozen; frozen_new = frozen } in
    subst (λ (y : Ending). ByCause y.cause (NoneOfThree f) (OneOfThree f w)) (sym k.2)
    (written_by k.0 old new reported frozen w s (subst (λ (y : Result SessionState Stop). MessageWriteFails y old new) k.1 t))

pub spares_any : (cause : Cause) (w : Three (Option (List ℕ))) → IsSpared w → Spares cause w
spares_any causes.Done w s = tt
spares_any causes.Write w s = tt
spares_any cause w s = s

-- nothing was read or written where the frozen file was refused
pub never_done : {S : Type 0} (sources : S) (o : Options) (st : Result SessionState Stop) (e : Stop) (n : ℕ)
    (d : Ending) (fault : FrozenFault) (out out' reported frozen : Option (List ℕ)) → st ≡ Err e → n ≡ status_after e
    → d ≡ ending_by n (Err e) → IsBegun o st → d.cause ≡ causes.Frozen fault
    → (st ≡ Err (stops.Ended (causes.Frozen fault)) → out' ≡ out)
    → NothingIsDone sources sources
    (record { two = writers out out' reported reported; frozen_old = frozen; frozen_new = frozen })
never_done sources o st e n d fault out out' reported frozen i m j h c s =
    let k = never_is o st e n d i m j h in
    let f : k.0 ≡ causes.Frozen fault = sym (ap (λ (y : Ending). y.cause) k.2) ∙ c in
    record { sources = refl; output = s (k.1 ∙ ap (λ (y : Cause). Err (stops.Ended y)) f); messages = refl; frozen = refl }

-- a run that began doesn't end by its frozen file
left_unrefused : (new : SessionState) (n : ℕ) (r : Result Bool Stop) (fault : FrozenFault) → IsLeft new r → (ending_by n r).cause ≡ causes.Frozen fault → ⊥
left_unrefused new n (Ok wrapped) fault l c = cc
left_unrefused new n (Err stops.Finished) fault l c = l
left_unrefused new n (Err (stops.Ended causes.Done)) fault l c = l
left_unrefused new n (Err (stops.Ended (causes.Frozen f))) fault l c = l
left_unrefused new n (Err (stops.Ended cause)) fault l c = cc

pub not_refused : (new : SessionState) (n : ℕ) (r : Result Bool Stop) (d : Ending) (fault : FrozenFault)
    → d ≡ ending_by n r → IsLeft new r → d.cause ≡ causes.Frozen fault → ⊥
not_refused new n r d fault j l c = left_unrefused new n r fault l (ap (λ (y : Ending). y.cause) (sym j) ∙ c)

frozen_same : (cause : Cause) (old new : ℕ) → ((fault : FrozenFault) → cause ≡ causes.Frozen fault → ⊥) → new ≡ old → frozen_fails cause old new
frozen_same (causes.Frozen fault) old new n h = absurd (n fault refl)
frozen_same cause old new n h = h

unrefused_so : (cause : Cause) → ((fault : FrozenFault) → cause ≡ causes.Frozen fault → ⊥) → IsUnrefused cause
unrefused_so (causes.Frozen fault) n = n fault refl
unrefused_so cause n = tt

module _ {R : Type 0} (failures : R → ℕ) where
  begun_frozen_by : (xs ys : Option R) (s : SessionState) (cause : Cause)
      → ((fault : FrozenFault) → cause ≡ causes.Frozen fault → ⊥) → BeginFails failures (Ok s) xs ys
      → FrozenFailsBy failures cause xs ys
  begun_frozen_by None None s cause n h = unrefused_so cause n
  begun_frozen_by None (Some y) s cause n h = absurd h
  begun_frozen_by (Some x) None s cause n h = absurd h
  begun_frozen_by (Some x) (Some y) s cause n h = frozen_same cause (failures x) (failures y) n h

  pub begun_frozen : (xs ys : Option R) (s : SessionState)
      (st : Result SessionState Stop) (new : SessionState) (n : ℕ) (r : Result Bool Stop) (d : Ending) → st ≡ Ok s
      → d ≡ ending_by n r → IsLeft new r → BeginFails failures st xs ys → FrozenFailsBy failures d.cause xs ys
  begun_frozen xs ys s st new n r d i j l h =
      begun_frozen_by xs ys s d.cause (λ fault c. not_refused new n r d fault j l c)
      (subst (λ (y : Result SessionState Stop). BeginFails failures y xs ys) i h)

-- by the answer of the rest of the run
by_answer : (n : ℕ) (r : Result Bool Stop) (none one : Type 0) → ByAnswer r none one → ByCause (ending_by n r).cause none one
by_answer n (Ok wrapped) none one h = h
by_answer n (Err stops.Finished) none one h = h
by_answer n (Err (stops.Ended cause)) none one h = h

-- the writers of a run that began: its start failed none
pub begun_wrote : (s : SessionState) (st : Result SessionState Stop) (n : ℕ) (r : Result Bool Stop) (d : Ending)
    (old mid new reported reported' frozen frozen' : ℕ) (w : Three (Option (List ℕ))) → st ≡ Ok s
    → d ≡ ending_by n r → MessageWriteFails st old mid
    → ThreeFail r (record { two = writers mid new reported reported'; frozen_old = frozen; frozen_new = frozen' }) w
    → ThreeFailBy d.cause
    (record { two = writers old new reported reported'; frozen_old = frozen; frozen_new = frozen' }) w
begun_wrote s st n r d old mid new reported reported' frozen frozen' w i j m h =
    let f : ℕ → Three ℕ =
    λ x. record { two = writers x new reported reported'; frozen_old = frozen; frozen_new = frozen' } in
    subst (λ (y : Ending). ThreeFailBy y.cause (f old) w) (sym j)
    (by_answer n r _ _ (subst (λ (x : ℕ). ThreeFail r (f x) w)
    (subst (λ (y : Result SessionState Stop). MessageWriteFails y old mid) i m) h))

pub spared_answer : (cause : Cause) (two two' : Contents) (frozen frozen' : Option (List ℕ))
    → Spares cause (record { two = two; frozen_old = frozen; frozen_new = frozen' })
    → Spares cause (record { two = two'; frozen_old = frozen; frozen_new = frozen' })
spared_answer causes.Done two two' frozen frozen' h = tt
spared_answer causes.Write two two' frozen frozen' h = tt
spared_answer cause two two' frozen frozen' h = h

spared_by : (n : ℕ) (r : Result Bool Stop) (two two' : Contents) (frozen frozen' : Option (List ℕ))
    → SparesBy r (record { two = two; frozen_old = frozen; frozen_new = frozen' })
    → Spares (ending_by n r).cause (record { two = two'; frozen_old = frozen; frozen_new = frozen' })
spared_by n (Ok wrapped) two two' frozen frozen' h = tt
spared_by n (Err stops.Finished) two two' frozen frozen' h = tt
spared_by n (Err (stops.Ended cause)) two two' frozen frozen' h = spared_answer cause two two' frozen frozen' h

pub ended_spared : (n : ℕ) (r : Result Bool Stop) (d : Ending) (two two' : Contents) (frozen frozen' : Option (List ℕ)) → d ≡ ending_by n r
    → SparesBy r (record { two = two; frozen_old = frozen; frozen_new = frozen' })
    → Spares d.cause (record { two = two'; frozen_old = frozen; frozen_new = frozen' })
ended_spared n r d two two' frozen frozen' j h =
    subst (λ (y : Ending). Spares y.cause (record { two = two'; frozen_old = frozen; frozen_new = frozen' })) (sym j)
    (spared_by n r two two' frozen frozen' h)

done_answer : (new : SessionState) (n : ℕ) (r : Result Bool Stop) → IsLeft new r → (ending_by n r).cause ≡ causes.Done → (b : Bool) × (r ≡ Ok b)
done_answer new n (Ok b) l c = (b, refl)
done_answer new n (Err stops.Finished) l c = absurd l
done_answer new n (Err (stops.Ended causes.Done)) l c = absurd l
done_answer new n (Err (stops.Ended cause)) l c = cc

pub ended_done : (P : Type 0) (new : SessionState) (n : ℕ) (r : Result Bool Stop) (d : Ending) → d ≡ ending_by n r
    → IsLeft new r → d.cause ≡ causes.Done → OnOk r P → P
ended_done P new n r d j l c h =
    let k = done_answer new n r l (ap (λ (y : Ending). y.cause) (sym j) ∙ c) in
    subst (λ (y : Result Bool Stop). OnOk y P) k.1 h

-- what was loaded is what the frozen file gives
pub reloaded_is : (o : Options) (file : Option Script) (loaded : Loaded)
    → IfSome file (λ script. (script.fails ≡ false) × Loads script.bytes loaded) → AreReloaded o file loaded.state loaded.issued
reloaded_is o None loaded h = h
reloaded_is o (Some script) loaded h =
    let k : Loads script.bytes loaded = h.1 in
    inl (k.directives, h.0, k.spelled, ap (λ (l : Loaded). From l.state l.issued) k.denoted)

-- what a reloaded run begins with
reload_by : (o : Options) (script : Script) (out out' : Option (List ℕ)) (st : Result SessionState Stop)
    → ReloadGives o (Some script) out out' st → BeginGives (start_of o.prefix (Some script)) o out out' st
reload_by o script out out' (Ok new) h = (h.0, h.1, sym (is_start o.prefix (Some script) (From h.0 h.1) h.2), h.3, h.4)
reload_by o script out out' (Err stops.Finished) h = absurd h
reload_by o script out out' (Err (stops.Ended (causes.Frozen fault))) h = (h.0, λ n. sym (is_start o.prefix (Some script) (Faulty fault) (h.1 n)))
reload_by o script out out' (Err (stops.Ended causes.Write)) h = (h.0, h.1, sym (is_start o.prefix (Some script) (From h.0 h.1) h.2), h.3)
reload_by o script out out' (Err (stops.Ended cause)) h = absurd h

pub reload_begins : {R : Type 0} (script : R → Option Script) (reader : R) (frozen : Option R) (o : Options)
    (file : Option Script) (out out' : Option (List ℕ)) (st : Result SessionState Stop) → frozen ≡ Some reader
    → DescribesFrozen script frozen file → ReloadGives o (script reader) out out' st
    → BeginGives (start_of o.prefix file) o out out' st
reload_begins script reader frozen o file out out' st i t h =
    let k = subst (λ (y : Option _). DescribesFrozen script y file) i t in
    subst (λ (y : Option Script). BeginGives (start_of o.prefix y) o out out' st) (sym k.2)
    (reload_by o k.0 out out' st (subst (λ (y : Option Script). ReloadGives o y out out' st) k.1 h))

-- what a fresh run begins with
fresh_by : (o : Options) (out : Option (List ℕ)) (st : Result SessionState Stop) → IfOk st (λ s. s ≡ fresh_session o)
    → IfErr st (λ e. e ≡ stops.Ended causes.OutOfMemory) → BeginGives (start_of o.prefix None) o out out st
fresh_by o out (Ok s) f e = (fresh o.prefix, [], refl, f, with_bytes-nil out)
fresh_by o out (Err x) f e = subst (λ (y : Stop). BeginGives (start_of o.prefix None) o out out (Err y)) (sym e) refl

pub fresh_begins : {R : Type 0} (script : R → Option Script) (frozen : Option R) (o : Options) (file : Option Script)
    (out : Option (List ℕ)) (st : Result SessionState Stop) → frozen ≡ None → DescribesFrozen script frozen file
    → IfOk st (λ s. s ≡ fresh_session o) → IfErr st (λ e. e ≡ stops.Ended causes.OutOfMemory)
    → BeginGives (start_of o.prefix file) o out out st
fresh_begins script frozen o file out st i t f e =
    let k : file ≡ None = subst (λ (y : Option _). DescribesFrozen script y file) i t in
    subst (λ (y : Option Script). BeginGives (start_of o.prefix y) o out out st) (sym k) (fresh_by o out st f e)

-- how a run begins, from its frozen file or from the fresh state: what it wrote, and what it read of the file
pub record Began {R : Type 0} (script : R → Option Script) (failures : R → ℕ) (o : Options) (xs ys : Option R)
    (out out' : Option (List ℕ)) (old new : ℕ) (st : Result SessionState Stop) : Type 0 where
  pub gives : (file : Option Script) → DescribesFrozen script xs file → BeginGives (start_of o.prefix file) o out out' st
  pub begun : IsBegun o st
  pub refused : (fault : FrozenFault) → st ≡ Err (stops.Ended (causes.Frozen fault)) → out' ≡ out
  pub read : BeginFails failures st xs ys
  pub write : MessageWriteFails st old new

reload_is_begun : (o : Options) (file : Option Script) (out out' : Option (List ℕ)) (st : Result SessionState Stop)
    → ReloadGives o file out out' st → IsBegun o st
reload_is_begun o file out out' (Ok new) h = (h.0, h.3)
reload_is_begun o file out out' (Err stops.Finished) h = absurd h
reload_is_begun o file out out' (Err (stops.Ended (causes.Frozen fault))) h = tt
reload_is_begun o file out out' (Err (stops.Ended causes.Write)) h = tt
reload_is_begun o file out out' (Err (stops.Ended causes.OutOfMemory)) h = tt
reload_is_begun o file out out' (Err (stops.Ended cause)) h = absurd h

pub reload_began : {R : Type 0} (script : R → Option Script) (failures : R → ℕ) (o : Options) (xs ys : Option R) (x y : R)
    (out out' : Option (List ℕ)) (old new : ℕ) (st : Result SessionState Stop) → xs ≡ Some x → ys ≡ Some y
    → ReloadGives o (script x) out out' st → ReloadFails st (failures x) (failures y) → MessageWriteFails st old new
    → Began script failures o xs ys out out' old new st
reload_began script failures o xs ys x y out out' old new st i j h r w = record {
  gives = λ file t. reload_begins script x xs o file out out' st i t h;
  begun = reload_is_begun o (script x) out out' st h;
  refused = λ fault e. (subst (ReloadGives o (script x) out out') e h).0;
  read = subst (λ (v : Option _). BeginFails failures st v ys) (sym i) (subst (λ (v : Option _). BeginFails failures st (Some x) v) (sym j) r);
  write = w;
}

-- an allocation failed, or nothing did
fresh_is : (P : Result SessionState Stop → Type 0) (o : Options) (st : Result SessionState Stop)
    → IfOk st (λ s. s ≡ fresh_session o) → IfErr st (λ e. e ≡ stops.Ended causes.OutOfMemory) → P (Ok (fresh_session o))
    → P (Err (stops.Ended causes.OutOfMemory)) → P st
fresh_is P o (Ok s) f e p q = subst (λ (x : SessionState). P (Ok x)) (sym f) p
fresh_is P o (Err x) f e p q = subst (λ (y : Stop). P (Err y)) (sym e) q

pub fresh_began : {R : Type 0} (script : R → Option Script) (failures : R → ℕ) (o : Options) (xs ys : Option R)
    (out : Option (List ℕ)) (old : ℕ) (st : Result SessionState Stop) → xs ≡ None → ys ≡ None
    → IfOk st (λ s. s ≡ fresh_session o) → IfErr st (λ e. e ≡ stops.Ended causes.OutOfMemory)
    → Began script failures o xs ys out out old old st
fresh_began script failures o xs ys out old st i j f e = record {
  gives = λ file t. fresh_begins script xs o file out st i t f e;
  begun = fresh_is (IsBegun o) o st f e (fresh o.prefix, refl) tt;
  refused = λ fault k. refl;
  read = subst (λ (v : Option _). BeginFails failures st v ys) (sym i)
      (subst (λ (v : Option _). BeginFails failures st None v) (sym j)
      (fresh_is (λ r. BeginFails failures r None None) o st f e tt tt));
  write = fresh_is (λ r. MessageWriteFails r old old) o st f e refl refl;
}

-- the same where the two ways join
pub began_so : {R O : Type 0} (script : R → Option Script) (failures : R → ℕ) (o : Options) (xs ys ys' : Option R)
    (contents : O → Option (List ℕ)) (fails : O → ℕ) (w0 w w' : O) (st st' : Result SessionState Stop) → ys' ≡ ys
    → w' ≡ w → st' ≡ st
    → Began script failures o xs ys (contents w0) (contents w) (fails w0) (fails w) st
    → Began script failures o xs ys' (contents w0) (contents w') (fails w0) (fails w') st'
began_so script failures o xs ys ys' contents fails w0 w w' st st' i j k h =
    subst (λ v. Began script failures o xs v (contents w0) (contents w') (fails w0) (fails w') st') (sym i)
    (subst (λ v. Began script failures o xs ys (contents w0) (contents v) (fails w0) (fails v) st') (sym j)
    (subst (λ v. Began script failures o xs ys (contents w0) (contents w) (fails w0) (fails w) v) (sym k) h))

-- the end of a run leaves the session over, by the cause that is answered
end_left : (freezes : Bool) (old new : SessionState) (w : Contents) (e : Stop) → IsOpen old → EndGives freezes old new w (Err e) → IsLeft {A = Bool} new (Err e)
end_left freezes old new w stops.Finished l h = absurd (h.closed l)
end_left freezes old new w (stops.Ended causes.Done) l h = absurd h
end_left freezes old new w (stops.Ended (causes.Frozen f)) l h = absurd h
end_left freezes old new w (stops.Ended causes.Read) l h = absurd h
end_left freezes old new w (stops.Ended causes.Write) l h = h.over
end_left freezes old new w (stops.Ended causes.OutOfMemory) l h = h.over
end_left freezes old new w (stops.Ended cause) l h = h.1

pub close_left : (freezes : Bool) (old new : SessionState) (w : Three (Option (List ℕ))) (e : Stop)
    (q : Result Unit Stop) (r : Result Bool Stop) → q ≡ Err e → r ≡ Err e → IsOpen old → CloseGives freezes old new w q
    → IsLeft new r
close_left freezes old new w e q r f g l h =
    subst (IsLeft new) (sym g)
    (end_left freezes old new w.two e l (subst (EndGives freezes old new w.two) f (close_ends freezes old new w q h)))
