-- Whole: the effect of a session's calls, in order, is the run.
use Rattle.std.proofs.Common.{◌≡◌, ◌⊎◌, inl, inr, ℕ, zero, suc, Bool, true, false, List, [], ◌∷◌, ◌++◌, Option, Some}
use Rattle.std.proofs.Common.{None, refl, sym, ap, ◌∙◌, subst, append-nil, append_assoc}
use Rattle.std.specs.Prelude.{OnOk, ◌||◌, Result, Ok, Err}
use Rattle.m4_state.proofs.CallerLaws.{with_bytes-append}
use Rattle.m4_state.specs.Device.{with_bytes, HasBegun}
use Rattle.m4_state.specs.State.{IsSized}
use Rattle.m4_frozen.specs.Freeze.{freeze}
use Rattle.m4_engine.specs.declared.ending.Cause.{Cause}
use Rattle.m4_engine.specs.declared.ending.Cause.TheVariants as causes
use Rattle.m4_engine.specs.declared.ending.Ending.{Ending}
use Rattle.m4_engine.specs.declared.stop.Stop.{Stop}
use Rattle.m4_engine.specs.declared.stop.Stop.TheVariants as stops
use Rattle.m4_engine.specs.Expansion.{RunSoFar, Limits, EndReason, Ends}
use Rattle.m4_engine.specs.File.{Source, Progress, after_sources}
use Rattle.m4_engine.specs.Wraps.{read_saved, next_round, rounds, after_wraps, close}
use Rattle.m4_engine.specs.Run.{RunResult, closed_output, result_of, saved_after}
use Rattle.m4_engine.specs.Run.{status_of}
use Rattle.m4_engine.specs.Session.{SessionState, progress_of, how_over, how_by, IsOpen, Completed}
use Rattle.m4_engine.specs.Session.{session_after_wraps, Closed, Unfinished, EndGives, FreezeBegan, FreezeUses, FrozenGives}
use Rattle.m4_engine.specs.Session.{is_saved, status_at}
use Rattle.m4_engine.specs.WholeRun.{wrapped_by, WroteAll, WrotePrefix, GivesBy, HasFrozen, FrozenBegan, FrozenBy}
use Rattle.m4_engine.specs.WholeRun.{FrozenLast, RunGives}
use Rattle.m4_engine.specs.Laws.{IsBeginning}
use Rattle.m4_engine.specs.Writers.{Contents, Three, writers, IsSpared}
use Rattle.m4_engine.proofs.OnlyGrows.{extends_same}
use Rattle.m4_engine.proofs.OnePass.{over_wraps, finish_begins}
use Rattle.m4_engine.proofs.Begins.{begun_after}
use Rattle.m4_engine.proofs.GoingOn.{after, wraps_after, written_after, over_after_it}
use Rattle.m4_engine.proofs.Cases.{frozen_text, result_by, saved_unless_over}
use Rattle.m4_engine.specs.SessionSteps.{BrokeOff, GoesTo, CloseGives, IsLeft, result_after, ending_by}

-- what a run's two writers have, by the cause that ended it
abbrev GivesIn : RunResult → Ending → Contents → Type 0
GivesIn r e w = GivesBy e.cause r e w

-- a beginning of a beginning
pub begun_longer : (o n : Option (List ℕ)) (x y : List ℕ) → HasBegun o n x → IsBeginning x y → HasBegun o n y
begun_longer o n x y h b = (
  h.0 ++ b.0,
  record {
    front = (h.1).front;
    parts = b.1 ∙ ap (λ z. z ++ b.0) (h.1).parts ∙ append_assoc (h.1).front h.0 b.0;
    holds = (h.1).holds;
  },
)

-- a source broke off
broke_short : (freezes : Bool) (limits : Limits) (ss : List Source) (p : Progress) (new : SessionState) (w : Contents)
    (cause : Cause) (e : Ending) → e.wrapped ≡ false → BrokeOff new p w cause → WrotePrefix (result_after freezes limits ss p) e w
broke_short freezes limits ss p new w cause e f h =
    let k = finish_begins freezes (saved_after ss p) limits p.so_far p (extends_same p.so_far) in
    record {
      wrapped = f;
      output = begun_longer w.out_old w.out_new _ _ h.output k.0;
      messages = begun_longer w.messages_old w.messages_new _ _ h.messages k.1;
    }

-- a run that is over has no text saved
pub none_saved : (ss : List Source) (p : Progress) (h : EndReason) → p.over ≡ Some h → saved_after ss p ≡ []
none_saved [] p h e = refl
none_saved (s ∷ ss) p h e = ap (λ (o : Option EndReason). saved_unless_over o p.so_far) e

none_wrapped : (c : Cause) → false ≡ wrapped_by c []
none_wrapped causes.Done = refl
none_wrapped cause = refl

-- the status of a session that is over
over_status : (new : SessionState) (cause : Cause) (any_missing : Bool) → new.over ≡ Some cause
    → new.any_missing ≡ any_missing → status_at new ≡ status_of (Ends cause) any_missing
over_status new cause any_missing e f = ap (λ (o : Option Cause). status_of (how_by o) new.any_missing) e ∙ ap (status_of (Ends cause)) f

-- a source ended the run
over_there : (freezes : Bool) (ss : List Source) (p : Progress) (old new : SessionState) (w : Contents) (cause : Cause)
    → Completed old new p w → new.over ≡ Some cause
    → WroteAll (result_after freezes old.limits ss p) (record { status = status_at new; cause = cause; wrapped = false }) w
over_there freezes ss p old new w cause f o =
    let v : p.over ≡ Some (Ends cause) = over_after_it new p cause f.progress o in
    let q : result_after freezes old.limits ss p ≡ result_by (Some (Ends cause)) freezes [] p.so_far p.any_missing =
    ap (result_of freezes (saved_after ss p)) (over_wraps old.limits p (Ends cause) v)
    ∙ ap (λ (o : Option EndReason). result_by o freezes (saved_after ss p) p.so_far p.any_missing) v
    ∙ ap (λ (s : List (List ℕ)). result_by (Some (Ends cause)) freezes s p.so_far p.any_missing) (none_saved ss p (Ends cause) v) in
    subst (λ (r : RunResult). WroteAll r (record { status = status_at new; cause = cause; wrapped = false }) w) (sym q) (record {
      reason = refl;
      status = over_status new cause p.any_missing o (ap (λ (x : Progress). x.any_missing) f.progress);
      wrapped = none_wrapped cause;
      output = f.output;
      messages = f.messages;
    })

-- the run ended before its last source did
ended_early : (freezes : Bool) (ss : List Source) (p : Progress) (old new : SessionState) (w : Contents) (e : Stop)
    → GoesTo p old new w (Err e) → GivesIn (result_after freezes old.limits ss p) (ending_by (status_at new) (Err e)) w
ended_early freezes ss p old new w stops.Finished h = absurd h
ended_early freezes ss p old new w (stops.Ended causes.Read) h = broke_short freezes old.limits ss p new w causes.Read _ refl h
ended_early freezes ss p old new w (stops.Ended causes.Write) h = broke_short freezes old.limits ss p new w causes.Write _ refl h
ended_early freezes ss p old new w (stops.Ended causes.OutOfMemory) h = broke_short freezes old.limits ss p new w causes.OutOfMemory _ refl h
ended_early freezes ss p old new w (stops.Ended causes.Done) h = absurd h
ended_early freezes ss p old new w (stops.Ended (causes.Frozen f)) h = absurd h
ended_early freezes ss p old new w (stops.Ended cause) h = over_there freezes ss p old new w cause h.0 h.1

-- saved texts open no source
round_missed : (go : Progress → Progress) (limits : Limits) → ((q : Progress) → (go q).any_missing ≡ q.any_missing)
    → (o : Option EndReason) (saved : List (List ℕ)) (p : Progress) → (next_round go limits o saved p).any_missing ≡ p.any_missing
round_missed go limits h (Some reason) saved p = refl
round_missed go limits h None [] p = refl
round_missed go limits h None (x ∷ xs) p = h (read_saved limits (x ∷ xs) p)

rounds_missed : (n : ℕ) (limits : Limits) (p : Progress) → (rounds n limits p).any_missing ≡ p.any_missing
rounds_missed zero limits p = refl
rounds_missed (suc n) limits p = round_missed (rounds n limits) limits (rounds_missed n limits) p.over (p.so_far).saved p

-- the bytes written after those that were written before
pub closed_after : (freezes : Bool) (o m : List ℕ) (r : RunSoFar)
    → closed_output freezes (record r { output = o ++ r.output; messages = m ++ r.messages }) ≡ o ++ closed_output freezes r
closed_after true o m r = refl
closed_after false o m r = append_assoc o r.output (close r.state)

result_output : (freezes : Bool) (o m : List ℕ) (over : Option EndReason) (saved : List (List ℕ)) (r : RunSoFar)
    (any_missing : Bool)
    → (result_by over freezes saved (record r { output = o ++ r.output; messages = m ++ r.messages }) any_missing).output
    ≡ o ++ (result_by over freezes [] r any_missing).output
result_output freezes o m None saved r any_missing = closed_after freezes o m r
result_output freezes o m (Some h) saved r any_missing = refl

result_messages : (freezes : Bool) (o m : List ℕ) (over : Option EndReason) (saved : List (List ℕ)) (r : RunSoFar)
    (any_missing : Bool) → (result_by over freezes saved
    (record r { output = o ++ r.output; messages = m ++ r.messages }) any_missing).messages ≡ m ++ r.messages
result_messages freezes o m None saved r any_missing = refl
result_messages freezes o m (Some h) saved r any_missing = refl

-- the saved texts, if there is a source or none was saved before
saved_there : (limits : Limits) (ss : List Source) (p0 : Progress) → (p0.so_far).saved ≡ []
    → (after_sources limits ss p0).over ≡ None
    → saved_after ss (after_sources limits ss p0) ≡ ((after_sources limits ss p0).so_far).saved
saved_there limits [] p0 e o = sym e
saved_there limits (s ∷ ss) p0 e o = ap (λ (h : Option EndReason). saved_unless_over h (after_sources limits (s ∷ ss) p0).so_far) o

unfrozen : (over : Option EndReason) (saved : List (List ℕ)) (r : RunSoFar) (any_missing : Bool) → (result_by over false saved r any_missing).frozen ≡ None
unfrozen None saved r any_missing = refl
unfrozen (Some h) saved r any_missing = refl

module _ (freezes : Bool) (limits : Limits) (ss : List Source) (p : Progress) (old mid new : SessionState)
    (out0 out1 out2 reported0 reported1 reported2 : Option (List ℕ)) (l : old.limits ≡ limits)
    (f : Completed old mid p (writers out0 out1 reported0 reported1)) (live : mid.over ≡ None) where
  abbrev W : Contents
  W = writers out0 out2 reported0 reported2

  abbrev V : Contents
  V = writers out1 out2 reported1 reported2

  abbrev B : Progress
  B = session_after_wraps mid

  after_is : after_wraps limits p ≡ after (p.so_far).output (p.so_far).messages B
  after_is =
      ap (after_wraps limits) (written_after [] [] p (progress_of mid) f.progress)
      ∙ wraps_after (p.so_far).output (p.so_far).messages limits (progress_of mid)
      ∙ ap (λ (x : Limits). after (p.so_far).output (p.so_far).messages (after_wraps x (progress_of mid))) (sym (f.limits ∙ l))

  result_is : (o : Option EndReason) → B.over ≡ o
      → result_after freezes limits ss p
      ≡ result_by o freezes (saved_after ss p) (after (p.so_far).output (p.so_far).messages B).so_far B.any_missing
  result_is o e =
      ap (result_of freezes (saved_after ss p)) after_is
      ∙ ap (λ (x : Option EndReason). result_by x freezes (saved_after ss p) (after (p.so_far).output (p.so_far).messages B).so_far B.any_missing) e

  missed_is : B.any_missing ≡ mid.any_missing
  missed_is = rounds_missed (suc (mid.limits).calls) mid.limits (progress_of mid)

  -- everything was read
  pub closed_well : (wrapped : Bool) → wrapped ≡ is_saved mid.saved → saved_after ss p ≡ (p.so_far).saved
      → Closed freezes mid new V → GivesIn (result_after freezes limits ss p) (ending_by (status_at new) (Ok wrapped)) W
  closed_well wrapped e s c =
      subst (λ (r : RunResult). WroteAll r (record { status = status_at new; cause = causes.Done; wrapped = wrapped })
      W) (sym (result_is None c.ended)) (record {
        reason = refl;
        status = ap (λ (o : Option Cause). status_of (how_by o) new.any_missing) c.over ∙ ap (status_of (Ends causes.Done)) (c.any_missing ∙ sym missed_is);
        wrapped = e ∙ ap is_saved (ap (λ (x : Progress). (x.so_far).saved) f.progress ∙ sym s);
        output = c.output
            ∙ ap (λ (x : Option (List ℕ)). with_bytes x (closed_output freezes B.so_far)) f.output
            ∙ with_bytes-append out0 (p.so_far).output _
            ∙ ap (with_bytes out0) (sym (closed_after freezes (p.so_far).output (p.so_far).messages B.so_far));
        messages = c.messages ∙ ap (λ (x : Option (List ℕ)). with_bytes x (B.so_far).messages) f.messages
            ∙ with_bytes-append reported0 (p.so_far).messages (B.so_far).messages;
      })

  -- the end broke off
  broke_end : (cause : Cause) (e : Ending) → e.wrapped ≡ false → Unfinished freezes mid new V cause → WrotePrefix (result_after freezes limits ss p) e W
  broke_end cause e v u =
      let q = result_is B.over refl in
      record {
        wrapped = v;
        output = begun_after out0 out1 out2 (p.so_far).output (result_of freezes [] B).output [] _ f.output u.output
            (ap (λ (r : RunResult). r.output) q
            ∙ result_output freezes (p.so_far).output (p.so_far).messages B.over (saved_after ss p) B.so_far
            B.any_missing ∙ sym (append-nil _));
        messages = begun_after reported0 reported1 reported2 (p.so_far).messages (B.so_far).messages [] _ f.messages u.messages
            (ap (λ (r : RunResult). r.messages) q
            ∙ result_messages freezes (p.so_far).output (p.so_far).messages B.over (saved_after ss p) B.so_far
            B.any_missing ∙ sym (append-nil _));
      }

  -- a saved text ended the run
  over_end : (cause : Cause) → false ≡ wrapped_by cause (saved_after ss p) → Completed mid new B V
      → new.over ≡ Some cause → WroteAll (result_after freezes limits ss p)
      (record { status = status_at new; cause = cause; wrapped = false }) W
  over_end cause n g o =
      let v : B.over ≡ Some (Ends cause) = over_after_it new B cause g.progress o in
      subst (λ (r : RunResult). WroteAll r (record { status = status_at new; cause = cause; wrapped = false }) W)
      (sym (result_is (Some (Ends cause)) v)) (record {
        reason = refl;
        status = over_status new cause B.any_missing o (ap (λ (x : Progress). x.any_missing) g.progress);
        wrapped = n;
        output = g.output ∙ ap (λ (x : Option (List ℕ)). with_bytes x (B.so_far).output) f.output ∙ with_bytes-append out0 (p.so_far).output (B.so_far).output;
        messages = g.messages ∙ ap (λ (x : Option (List ℕ)). with_bytes x (B.so_far).messages) f.messages
            ∙ with_bytes-append reported0 (p.so_far).messages (B.so_far).messages;
      })

  pub ended_late : (e : Stop) → IsOpen mid → EndGives freezes mid new V (Err e)
      → GivesIn (result_after freezes limits ss p) (ending_by (status_at new) (Err e)) W
  ended_late stops.Finished o h = absurd (h.closed o)
  ended_late (stops.Ended causes.Done) o h = absurd h
  ended_late (stops.Ended causes.Read) o h = absurd h
  ended_late (stops.Ended causes.Write) o h = broke_end causes.Write _ refl h
  ended_late (stops.Ended causes.OutOfMemory) o h = broke_end causes.OutOfMemory _ refl h
  ended_late (stops.Ended (causes.Frozen x)) o h = absurd h
  ended_late (stops.Ended cause) o h = over_end cause refl h.0 h.1

  -- what the writer of the frozen text has
  frozen_is : freezes ≡ true → B.over ≡ None → (result_after freezes limits ss p).frozen ≡ Some (freeze (B.so_far).state)
  frozen_is e o = ap (λ (r : RunResult). r.frozen) (result_is None o) ∙ ap (λ b. frozen_text b (B.so_far).state) e

  none_frozen : freezes ≡ false → (r : RunResult) → r ≡ result_after freezes limits ss p → r.frozen ≡ None
  none_frozen e r i =
      ap (λ (x : RunResult). x.frozen) i
      ∙ ap (λ b. (result_of b (saved_after ss p) (after_wraps limits p)).frozen) e
      ∙ unfrozen (after_wraps limits p).over (saved_after ss p) (after_wraps limits p).so_far (after_wraps limits p).any_missing

  module _ (frozen frozen' : Option (List ℕ)) where
    abbrev WholeThree : Three (Option (List ℕ))
    WholeThree = record { two = W; frozen_old = frozen; frozen_new = frozen' }

    abbrev LaterThree : Three (Option (List ℕ))
    LaterThree = record { two = V; frozen_old = frozen; frozen_new = frozen' }

    frozen_well : freezes ≡ true → B.over ≡ None → FrozenGives mid LaterThree (Ok tt) → HasFrozen (result_after freezes limits ss p).frozen WholeThree
    frozen_well e o h = subst (λ (x : Option (List ℕ)). HasFrozen x WholeThree) (sym (frozen_is e o)) h.0

    frozen_began_so : freezes ≡ true → FreezeBegan mid LaterThree → FrozenBegan (result_after freezes limits ss p) WholeThree
    frozen_began_so e h =
        let q : (result_after freezes limits ss p).output ≡ (p.so_far).output ++ (B.so_far).output =
        ap (λ (r : RunResult). r.output) (result_is None h.ended)
        ∙ ap (λ b. closed_output b (after (p.so_far).output (p.so_far).messages B).so_far) e in
        let k : (result_after freezes limits ss p).messages ≡ (p.so_far).messages ++ (B.so_far).messages =
        ap (λ (r : RunResult). r.messages) (result_is None h.ended) in
        record {
          text = freeze (B.so_far).state;
          is = frozen_is e h.ended;
          begun = h.begun;
          output = h.output ∙ ap (λ (x : Option (List ℕ)). with_bytes x (B.so_far).output) f.output
              ∙ with_bytes-append out0 (p.so_far).output (B.so_far).output ∙ ap (with_bytes out0) (sym q);
          messages = h.messages ∙ ap (λ (x : Option (List ℕ)). with_bytes x (B.so_far).messages) f.messages
              ∙ with_bytes-append reported0 (p.so_far).messages (B.so_far).messages ∙ ap (with_bytes reported0) (sym k);
        }

    frozen_began : freezes ≡ true → IsSpared LaterThree ⊎ FreezeBegan mid LaterThree
        → IsSpared WholeThree ⊎ FrozenBegan (result_after freezes limits ss p) WholeThree
    frozen_began e (inl h) = inl h
    frozen_began e (inr h) = inr (frozen_began_so e h)

    -- its writer was not used, or everything else was written before
    last_write : {Z : Type 0} → (z z' : Z) (b : Bool) → b ≡ freezes → (freezes ≡ false → z' ≡ z)
        → (z' ≡ z) ⊎ FreezeBegan mid LaterThree → (z' ≡ z) ⊎ FrozenBegan (result_after freezes limits ss p) WholeThree
    last_write z z' b t u (inl h) = inl h
    last_write z z' true t u (inr h) = inr (frozen_began_so (sym t) h)
    last_write z z' false t u (inr h) = inl (u (sym t))

    last_end : {Z : Type 0} → (z z' : Z) (e : Stop) → (freezes ≡ false → z' ≡ z) → FreezeUses mid z z' LaterThree (Err e)
        → FrozenLast (ending_by 0 (Err e)).cause (result_after freezes limits ss p) z z' WholeThree
    last_end z z' (stops.Ended causes.Write) u h = last_write z z' freezes refl u h
    last_end z z' e u h = tt

    frozen_late : freezes ≡ true → (e : Stop) → FrozenGives mid LaterThree (Err e) → IsOpen mid
        → EndGives freezes mid new V (Err e)
        → FrozenBy (ending_by (status_at new) (Err e)).cause (result_after freezes limits ss p) WholeThree
    frozen_late t stops.Finished h o k = absurd (k.closed o)
    frozen_late t (stops.Ended causes.Done) h o k = absurd k
    frozen_late t (stops.Ended causes.Write) h o k = frozen_began t h
    frozen_late t (stops.Ended cause) h o k = h

    spared_late : (e : Stop) → IsSpared WholeThree → IsOpen mid → EndGives freezes mid new V (Err e)
        → FrozenBy (ending_by (status_at new) (Err e)).cause (result_after freezes limits ss p) WholeThree
    spared_late stops.Finished h o k = absurd (k.closed o)
    spared_late (stops.Ended causes.Done) h o k = absurd k
    spared_late (stops.Ended causes.Write) h o k = inl h
    spared_late (stops.Ended cause) h o k = h

    -- the end by its answer
    late_by : (b : Bool) → b ≡ freezes → (e : Stop) → IsOpen mid → CloseGives b mid new LaterThree (Err e)
        → RunGives (result_after freezes limits ss p) (ending_by (status_at new) (Err e)) WholeThree
    late_by true t e o h =
        let k : EndGives freezes mid new V (Err e) = subst (λ b. EndGives b mid new V (Err e)) t h.0 in
        record { gives = ended_late e o k; frozen = frozen_late (sym t) e h.1 o k }
    late_by false t e o h =
        let k : EndGives freezes mid new V (Err e) = subst (λ b. EndGives b mid new V (Err e)) t h.0 in
        record { gives = ended_late e o k; frozen = spared_late e h.1 o k }

    well_by : (b : Bool) → b ≡ freezes → (wrapped : Bool) → wrapped ≡ is_saved mid.saved
        → saved_after ss p ≡ (p.so_far).saved → CloseGives b mid new LaterThree (Ok tt)
        → RunGives (result_after freezes limits ss p) (ending_by (status_at new) (Ok wrapped)) WholeThree
    well_by true t wrapped e s h =
        let k : Closed freezes mid new V = subst (λ b. Closed b mid new V) t h.0 in
        record { gives = closed_well wrapped e s k; frozen = frozen_well (sym t) k.ended h.1 }
    well_by false t wrapped e s h =
        let k : Closed freezes mid new V = subst (λ b. Closed b mid new V) t h.0 in
        record {
          gives = closed_well wrapped e s k;
          frozen = subst (λ (x : Option (List ℕ)). HasFrozen x WholeThree) (sym (none_frozen (sym t) (result_after freezes limits ss p) refl)) h.1;
        }

    -- the state that was frozen is sized
    sized_by : (b : Bool) → CloseGives b mid new LaterThree (Ok tt) → b ≡ true → IsSized ((after_wraps limits p).so_far).state
    sized_by true h t = subst (λ (q : Progress). IsSized (q.so_far).state) (sym after_is) (h.1).1
    sized_by false h t = cc

-- the same with answers of their own
spared_early : (c : RunResult) (status : ℕ) (e : Stop) (w : Three (Option (List ℕ))) (new : SessionState)
    → IsLeft {A = Unit} new (Err e) → IsSpared w → FrozenBy (ending_by status (Err e)).cause c w
spared_early c status stops.Finished w new l h = absurd l
spared_early c status (stops.Ended causes.Done) w new l h = absurd l
spared_early c status (stops.Ended causes.Write) w new l h = inl h
spared_early c status (stops.Ended cause) w new l h = h

pub early_so : (freezes : Bool) (ss : List Source) (p : Progress) (old new : SessionState)
    (w : Three (Option (List ℕ))) (e : Stop) (q : Result Unit Stop) (r : Result Bool Stop) → q ≡ Err e → r ≡ Err e
    → IsLeft new q → IsSpared w → GoesTo p old new w.two q
    → RunGives (result_after freezes old.limits ss p) (ending_by (status_at new) r) w
early_so freezes ss p old new w e q r f g l k h =
    subst (λ (x : Result Bool Stop). RunGives (result_after freezes old.limits ss p) (ending_by (status_at new) x) w) (sym g)
    (record {
      gives = ended_early freezes ss p old new w.two e (subst (GoesTo p old new w.two) f h);
      frozen = spared_early (result_after freezes old.limits ss p) (status_at new) e w new (subst (IsLeft new) f l) k;
    })

pub late_so : (freezes : Bool) (limits : Limits) (ss : List Source) (p : Progress) (old mid new : SessionState)
    (out0 out1 out2 reported0 reported1 reported2 frozen frozen' : Option (List ℕ)) → old.limits ≡ limits
    → GoesTo p old mid (writers out0 out1 reported0 reported1) (Ok tt)
    → (e : Stop) (q : Result Unit Stop) (r : Result Bool Stop) → q ≡ Err e → r ≡ Err e → IsOpen mid
    → CloseGives freezes mid new
    (record { two = writers out1 out2 reported1 reported2; frozen_old = frozen; frozen_new = frozen' }) q
    → RunGives (result_after freezes limits ss p) (ending_by (status_at new) r)
    (record { two = writers out0 out2 reported0 reported2; frozen_old = frozen; frozen_new = frozen' })
late_so freezes limits ss p old mid new out0 out1 out2 reported0 reported1 reported2 frozen frozen' l f e q r i j o h =
    let v : Three (Option (List ℕ)) = record { two = writers out1 out2 reported1 reported2; frozen_old = frozen; frozen_new = frozen' } in
    subst (λ (x : Result Bool Stop). RunGives (result_after freezes limits ss p) (ending_by (status_at new) x)
    (record { two = writers out0 out2 reported0 reported2; frozen_old = frozen; frozen_new = frozen' })) (sym j)
    (late_by freezes limits ss p old mid new out0 out1 out2 reported0 reported1 reported2 l f.0 f.1 frozen frozen'
    freezes refl e o (subst (CloseGives freezes mid new v) i h))

-- a run that its end breaks off
pub last_so : {Z : Type 0} → (z z' : Z) (freezes : Bool) (limits : Limits) (ss : List Source) (p : Progress) (old mid new : SessionState)
    (out0 out1 out2 reported0 reported1 reported2 frozen frozen' : Option (List ℕ)) → old.limits ≡ limits
    → GoesTo p old mid (writers out0 out1 reported0 reported1) (Ok tt)
    → (e : Stop) (q : Result Unit Stop) (r : Result Bool Stop) → q ≡ Err e → r ≡ Err e → (freezes ≡ false → z' ≡ z)
    → FreezeUses mid z z'
    (record { two = writers out1 out2 reported1 reported2; frozen_old = frozen; frozen_new = frozen' }) q
    → FrozenLast (ending_by 0 r).cause (result_after freezes limits ss p) z z'
    (record { two = writers out0 out2 reported0 reported2; frozen_old = frozen; frozen_new = frozen' })
last_so z z' freezes limits ss p old mid new out0 out1 out2 reported0 reported1 reported2 frozen frozen' l f e q r i j u h =
    let v : Three (Option (List ℕ)) = record { two = writers out1 out2 reported1 reported2; frozen_old = frozen; frozen_new = frozen' } in
    subst (λ (x : Result Bool Stop). FrozenLast (ending_by 0 x).cause (result_after freezes limits ss p) z z'
    (record { two = writers out0 out2 reported0 reported2; frozen_old = frozen; frozen_new = frozen' })) (sym j)
    (last_end freezes limits ss p old mid new out0 out1 out2 reported0 reported1 reported2 l f.0 f.1 frozen frozen' z z'
    e u (subst (FreezeUses mid z z' v) i h))

-- the cause is that of the answer, whatever the status
pub cause_same : (m n : ℕ) (r : Result Bool Stop) → (ending_by m r).cause ≡ (ending_by n r).cause
cause_same m n (Ok wrapped) = refl
cause_same m n (Err stops.Finished) = refl
cause_same m n (Err (stops.Ended cause)) = refl

-- the writer of the frozen text was not used
pub last_unused : {Z : Type 0} → (cause : Cause) (r : RunResult) (z z' : Z) (w : Three (Option (List ℕ))) → z' ≡ z → FrozenLast cause r z z' w
last_unused causes.Write r z z' w h = inl h
last_unused cause r z z' w h = tt

pub well_so : (freezes : Bool) (limits : Limits) (ss : List Source) (old mid new : SessionState)
    (out0 out1 out2 reported0 reported1 reported2 frozen frozen' : Option (List ℕ)) → old.limits ≡ limits
    → GoesTo (after_sources limits ss (progress_of old)) old mid (writers out0 out1 reported0 reported1) (Ok tt)
    → old.saved ≡ [] → (wrapped : Bool) → wrapped ≡ is_saved mid.saved
    → CloseGives freezes mid new
    (record { two = writers out1 out2 reported1 reported2; frozen_old = frozen; frozen_new = frozen' }) (Ok tt)
    → RunGives (result_after freezes limits ss (after_sources limits ss (progress_of old)))
    (ending_by (status_at new) (Ok wrapped))
    (record { two = writers out0 out2 reported0 reported2; frozen_old = frozen; frozen_new = frozen' })
well_so freezes limits ss old mid new out0 out1 out2 reported0 reported1 reported2 frozen frozen' l f e wrapped v c =
    let p : Progress = after_sources limits ss (progress_of old) in
    let o : p.over ≡ None = ap (λ (x : Progress). x.over) (sym (f.0).progress) ∙ ap how_over f.1 in
    well_by freezes limits ss p old mid new out0 out1 out2 reported0 reported1 reported2 l f.0 f.1 frozen frozen'
    freezes refl wrapped v (saved_there limits ss (progress_of old) e o) c

pub sized_so : (freezes : Bool) (limits : Limits) (ss : List Source) (p : Progress) (old mid new : SessionState)
    (out0 out1 out2 reported0 reported1 reported2 frozen frozen' : Option (List ℕ)) → old.limits ≡ limits
    → GoesTo p old mid (writers out0 out1 reported0 reported1) (Ok tt)
    → CloseGives freezes mid new
    (record { two = writers out1 out2 reported1 reported2; frozen_old = frozen; frozen_new = frozen' }) (Ok tt)
    → freezes ≡ true → IsSized ((after_wraps limits p).so_far).state
sized_so freezes limits ss p old mid new out0 out1 out2 reported0 reported1 reported2 frozen frozen' l f c t =
    sized_by freezes limits ss p old mid new out0 out1 out2 reported0 reported1 reported2 l f.0 f.1 frozen frozen' freezes c t

-- a session that is over isn't at its end
not_done : (new : SessionState) (cause : Cause) → IsLeft {A = Bool} new (Err (stops.Ended cause)) → cause ≡ causes.Done → ⊥
not_done new causes.Done l h = l
not_done new (causes.Frozen f) l h = l
not_done new cause l h = cc

pub left_over : (new : SessionState) (cause : Cause) → IsLeft {A = Bool} new (Err (stops.Ended cause)) → new.over ≡ Some cause
left_over new causes.Done l = absurd l
left_over new (causes.Frozen f) l = absurd l
left_over new cause l = l

-- the status by the cause, and by the sources where all was read
abbrev pub StatusIs : Bool → Ending → Type 0
StatusIs unopened e = (any_missing : Bool) × (e.status ≡ status_of (Ends e.cause) any_missing) × (e.cause ≡ causes.Done → any_missing ≡ unopened)

pub left_status : (new : SessionState) (r : Result Bool Stop) (e : Ending) (unopened : Bool) → IsLeft new r
    → OnOk r (new.any_missing ≡ (unopened || false)) → e ≡ ending_by (status_at new) r → StatusIs unopened e
left_status new (Ok wrapped) e unopened l m i =
    subst (StatusIs unopened) (sym i)
    (new.any_missing, ap (λ (o : Option Cause). status_of (how_by o) new.any_missing) l, λ h. m ∙ or_false unopened)
  where
    or_false : (b : Bool) → (b || false) ≡ b
    or_false true = refl
    or_false false = refl
left_status new (Err stops.Finished) e unopened l m i = absurd l
left_status new (Err (stops.Ended cause)) e unopened l m i =
    subst (StatusIs unopened) (sym i)
    (new.any_missing, over_status new cause new.any_missing (left_over new cause l) refl, λ h. absurd (not_done new cause l h))
