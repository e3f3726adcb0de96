-- Wrapping: saved texts that are read round by round are the definitions' rounds; and the end of a run
-- after them.
use Rattle.std.proofs.Common.{◌≡◌, ◌⊎◌, inl, inr, ⊎_elim, ◌<◌, ℕ, suc, ◌-◌, Bool, true, false, List, [], ◌∷◌, ◌++◌}
use Rattle.std.proofs.Common.{Option, Some, None, refl, sym, ap, ◌∙◌, subst, arith, append-nil}
use Rattle.std.proofs.Common.{append_assoc}
use Rattle.std.specs.Prelude.{Result, Ok, Err}
use Rattle.m4_state.proofs.CallerLaws.{with_bytes-append, with_bytes-nil}
use Rattle.m4_state.specs.State.{State, IsSized}
use Rattle.m4_state.specs.Device.{with_bytes, HasBegun}
use Rattle.m4_frozen.specs.Freeze.{freeze}
use Rattle.m4_engine.specs.declared.ending.Cause.{Cause}
use Rattle.m4_engine.specs.declared.ending.Cause.TheVariants as causes
use Rattle.m4_engine.specs.declared.stop.Stop.{Stop}
use Rattle.m4_engine.specs.declared.stop.Stop.TheVariants as stops
use Rattle.m4_engine.specs.Expansion.{RunSoFar, Limits, EndReason}
use Rattle.m4_engine.specs.File.{Progress}
use Rattle.m4_engine.specs.Run.{closed_output, result_of}
use Rattle.m4_engine.specs.Session.{SessionState, progress_of, how_over, written, IsOpen, Completed}
use Rattle.m4_engine.specs.Session.{session_after_wraps, last_state, is_saved, Closed}
use Rattle.m4_engine.specs.Session.{Unfinished, EndGives, FinishGives, FreezeBegan, FrozenGives, FreezeGives, FreezeUses}
use Rattle.m4_engine.specs.Wraps.{next_round, read_saved, after_wraps, close}
use Rattle.m4_engine.specs.Order.{IsTurnOfRound, InRounds, InSomeRound, Breaks, BreaksBy}
use Rattle.m4_engine.specs.Writers.{Contents, Three, writers}
use Rattle.m4_engine.proofs.Begins.{begun_after}
use Rattle.m4_engine.proofs.Growth.{Extends}
use Rattle.m4_engine.proofs.OnePass.{rounds_keep, over_wraps}
use Rattle.m4_engine.proofs.Rounds.{round_saves, wraps_rules}
use Rattle.m4_engine.proofs.Sessions.{after_is}
use Rattle.m4_engine.proofs.GoingOn.{after, after_twice, written_after, round_after, wraps_after, Within, step_stops}
use Rattle.m4_engine.proofs.GoingOn.{all_made}
use Rattle.m4_engine.proofs.Ordering.{same_breaks, some_saved}
use Rattle.m4_engine.proofs.Cases.{result_by}
use Rattle.m4_engine.specs.SessionSteps.{BrokeOff, GoesTo, WrapsGive, round_of}

-- ---- the rounds

-- so much of the saved texts was read, and the rest of them is the rest of the rounds
pub record Rounding (s0 s : SessionState) (w : Contents) : Type 0 where
  pub o : List ℕ
  pub m : List ℕ
  pub output : w.out_new ≡ with_bytes w.out_old o
  pub messages : w.messages_new ≡ with_bytes w.messages_old m
  pub limits : s.limits ≡ s0.limits
  pub rest : session_after_wraps s0 ≡ after o m (session_after_wraps s)
  pub steps : (a b : List ℕ) (before later : RunSoFar)
      → InSomeRound s0.limits (after (a ++ o) (b ++ m) (progress_of s)) before later
      → InSomeRound s0.limits (after a b (progress_of s0)) before later

pub none_yet : (s : SessionState) (out reported : Option (List ℕ)) → Rounding s s (writers out out reported reported)
none_yet s out reported = record {
  o = [];
  m = [];
  output = with_bytes-nil out;
  messages = with_bytes-nil reported;
  limits = refl;
  rest = refl;
  steps = λ a b before later h.
      subst (λ (x : List ℕ). InSomeRound s.limits (after x b (progress_of s)) before later) (append-nil a)
      (subst (λ (x : List ℕ). InSomeRound s.limits (after (a ++ []) x (progress_of s)) before later) (append-nil b) h);
}

-- the next round of a run that goes on and has saved texts
by_saved : (go : Progress → Progress) (limits : Limits) (saved : List (List ℕ)) (s : SessionState) → s.limits ≡ limits
    → s.saved ≡ saved → is_saved saved ≡ true → next_round go s.limits None s.saved (progress_of s) ≡ go (round_of s)
by_saved go limits [] s e f h = cc
by_saved go limits (x ∷ xs) s e f h =
    ap (λ (saved : List (List ℕ)). next_round go s.limits None saved (progress_of s)) f
    ∙ ap (λ (saved : List (List ℕ)). go (round_of (record s { saved = saved }))) (sym f)

next_is : (s : SessionState) → IsOpen s → is_saved s.saved ≡ true → session_after_wraps s ≡ after_wraps s.limits (round_of s)
next_is s l e =
    (wraps_rules s.limits).0 (progress_of s)
    ∙ ap (λ (o : Option Cause). next_round (after_wraps s.limits) s.limits (how_over o) s.saved (progress_of s)) l.over
    ∙ by_saved (after_wraps s.limits) s.limits s.saved s refl refl e

-- after a round the run goes on from what was written of it
went_round : (s s' : SessionState) (w : Contents) → IsOpen s → is_saved s.saved ≡ true → Completed s s' (round_of s) w
    → session_after_wraps s ≡ after ((round_of s).so_far).output ((round_of s).so_far).messages (session_after_wraps s')
went_round s s' w l e f =
    let q : Progress = round_of s in
    next_is s l e
    ∙ ap (after_wraps s.limits) (written_after [] [] q (progress_of s') f.progress)
    ∙ wraps_after (q.so_far).output (q.so_far).messages s.limits (progress_of s')
    ∙ ap (λ (x : Limits). after (q.so_far).output (q.so_far).messages (after_wraps x (progress_of s'))) (sym f.limits)

pub one_round : (s0 s s' : SessionState) (out0 out out' reported0 reported reported' : Option (List ℕ))
    → Rounding s0 s (writers out0 out reported0 reported) → IsOpen s → is_saved s.saved ≡ true
    → Completed s s' (round_of s) (writers out out' reported reported')
    → Rounding s0 s' (writers out0 out' reported0 reported')
one_round s0 s s' out0 out out' reported0 reported reported' b l e f =
    let q : Progress = round_of s in
    record {
      o = b.o ++ (q.so_far).output;
      m = b.m ++ (q.so_far).messages;
      output = f.output ∙ ap (λ x. with_bytes x (q.so_far).output) b.output ∙ with_bytes-append out0 b.o (q.so_far).output;
      messages = f.messages ∙ ap (λ x. with_bytes x (q.so_far).messages) b.messages ∙ with_bytes-append reported0 b.m (q.so_far).messages;
      limits = f.limits ∙ b.limits;
      rest = b.rest
          ∙ ap (after b.o b.m) (went_round s s' (writers out out' reported reported') l e f)
          ∙ after_twice b.o b.m (q.so_far).output (q.so_far).messages (session_after_wraps s');
      steps = λ x y before later h.
          let o : List ℕ = x ++ b.o in
          let m : List ℕ = y ++ b.m in
          let there : after (x ++ (b.o ++ (q.so_far).output)) (y ++ (b.m ++ (q.so_far).messages)) (progress_of s')
          ≡ read_saved s0.limits s.saved (after o m (progress_of s)) =
          ap (λ (n : List ℕ). after n (y ++ (b.m ++ (q.so_far).messages)) (progress_of s')) (sym (append_assoc x b.o (q.so_far).output))
          ∙ ap (λ (n : List ℕ). after (o ++ (q.so_far).output) n (progress_of s')) (sym (append_assoc y b.m (q.so_far).messages))
          ∙ sym (written_after o m q (progress_of s') f.progress)
          ∙ sym (round_after o m s.limits s.saved (progress_of s))
          ∙ ap (λ (n : Limits). read_saved n s.saved (after o m (progress_of s))) b.limits in
          b.steps x y before later
          (suc h.0, (ap how_over l.over, some_saved s.saved e, subst (λ (p : Progress). InRounds h.0 s0.limits p before later) there h.1));
    }

pub none_is : (saved : List (List ℕ)) → is_saved saved ≡ false → saved ≡ []
none_is [] e = refl
none_is (x ∷ xs) e = cc

-- a round broke off: its step is one of the rounds
pub round_step : (s0 s : SessionState) (out0 out out' reported0 reported reported' : Option (List ℕ)) (e : Stop)
    (q r : Result Unit Stop) → q ≡ Err e → r ≡ Err e → Rounding s0 s (writers out0 out reported0 reported)
    → BreaksBy q (Breaks (IsTurnOfRound s.limits) (progress_of s) (writers out out' reported reported'))
    → BreaksBy r (Breaks (InSomeRound s0.limits) (progress_of s0) (writers out0 out' reported0 reported'))
round_step s0 s out0 out out' reported0 reported reported' e q r i j b h = same_breaks Unit Unit e q r _ _ i j all h
  where
    all : Breaks (IsTurnOfRound s.limits) (progress_of s) (writers out out' reported reported')
        → Breaks (InSomeRound s0.limits) (progress_of s0) (writers out0 out' reported0 reported')
    all h = λ x y out1 reported1 f g.
        let k = h (x ++ b.o) (y ++ b.m) out1 reported1
        (b.output ∙ ap (λ (v : Option (List ℕ)). with_bytes v b.o) f ∙ with_bytes-append out1 x b.o)
        (b.messages ∙ ap (λ (v : Option (List ℕ)). with_bytes v b.m) g ∙ with_bytes-append reported1 y b.m) in
        (k.0, k.1, b.steps x y k.0 k.1 (0, subst (λ (l : Limits). IsTurnOfRound l (after (x ++ b.o) (y ++ b.m) (progress_of s)) k.0 k.1) b.limits k.2), k.3)

-- no text is saved any more
pub all_rounds : (s0 s : SessionState) (w : Contents) → IsOpen s0 → IsOpen s → Rounding s0 s w
    → is_saved s.saved ≡ false → WrapsGive (session_after_wraps s0) s0 s w (Ok tt)
all_rounds s0 s w l0 l b e = (
  all_made b.o b.m s0 s w (session_after_wraps s0) l0 l b.limits b.output b.messages (ap (after b.o b.m) (sym (after_is s l (none_is s.saved e))) ∙ sym b.rest),
  tt,
)

-- a round that ends the run, or breaks off
round_within : (s0 s : SessionState) (w : Contents) (b : Rounding s0 s w) → IsOpen s → is_saved s.saved ≡ true
    → Within b.o b.m (round_of s) (session_after_wraps s0)
round_within s0 s w b l e =
    let q : Progress = round_of s in
    let is : session_after_wraps s0 ≡ after b.o b.m (after_wraps s.limits q) = b.rest ∙ ap (after b.o b.m) (next_is s l e) in
    record {
      keeps = subst (λ (p : Progress). Extends (after b.o b.m q).so_far p.so_far)
          (wraps_after b.o b.m s.limits q ∙ sym is) (rounds_keep (suc (s.limits).calls) s.limits (after b.o b.m q));
      over = λ h v. is ∙ ap (after b.o b.m) (over_wraps s.limits q h v);
    }

pub round_stops : (s0 s s' : SessionState) (out0 out out' reported0 reported reported' : Option (List ℕ)) (e : Stop)
    (q r : Result Unit Stop) → q ≡ Err e → r ≡ Err e → IsOpen s0 → Rounding s0 s (writers out0 out reported0 reported)
    → IsOpen s → is_saved s.saved ≡ true → WrapsGive (round_of s) s s' (writers out out' reported reported') q
    → WrapsGive (session_after_wraps s0) s0 s' (writers out0 out' reported0 reported') r
round_stops s0 s s' out0 out out' reported0 reported reported' e q r f g l0 b l v h =
    let k : WrapsGive (round_of s) s s' (writers out out' reported reported') (Err e) =
    subst (WrapsGive (round_of s) s s' (writers out out' reported reported')) f h in
    subst (WrapsGive (session_after_wraps s0) s0 s' (writers out0 out' reported0 reported')) (sym g) (
      step_stops b.o b.m (round_of s) (session_after_wraps s0) (round_within s0 s _ b l v) s0 s s' out0 out out'
          reported0 reported reported' b.output b.messages l0 b.limits e k.0,
      k.1,
    )

-- how many rounds there may be: a round that saves text makes a call
abbrev left_by : List (List ℕ) → ℕ → ℕ
left_by [] n = 0
left_by (x ∷ xs) n = suc n

abbrev pub rounds_left : SessionState → ℕ
rounds_left s = left_by s.saved ((s.limits).calls - s.calls)

fewer : (saved saved' : List (List ℕ)) (n n' : ℕ) → is_saved saved ≡ true → (saved' ≡ []) ⊎ (n' < n) → left_by saved' n' < left_by saved n
fewer [] saved' n n' e h = cc
fewer (x ∷ xs) saved' n n' e (inl h) = subst (λ (z : List (List ℕ)). left_by z n' < suc n) (sym h) (omega arith)
fewer (x ∷ xs) [] n n' e (inr h) = omega arith
fewer (x ∷ xs) (y ∷ ys) n n' e (inr h) = omega arith

fewer_after : (s s' : SessionState) (q : Progress) → is_saved s.saved ≡ true → s'.limits ≡ s.limits
    → progress_of s' ≡ written q → ((q.so_far).saved ≡ [])
    ⊎ ((s.limits).calls - (q.so_far).calls < (s.limits).calls - s.calls) → rounds_left s' < rounds_left s
fewer_after s s' q e l f h =
    let c : s'.calls ≡ (q.so_far).calls = ap (λ (p : Progress). (p.so_far).calls) f in
    let v : s'.saved ≡ (q.so_far).saved = ap (λ (p : Progress). (p.so_far).saved) f in
    let n : (s'.limits).calls - s'.calls ≡ (s.limits).calls - (q.so_far).calls =
    ap (λ (l : Limits). l.calls - s'.calls) l ∙ ap (λ (k : ℕ). (s.limits).calls - k) c in
    fewer s.saved s'.saved ((s.limits).calls - s.calls) ((s'.limits).calls - s'.calls) e
    (⊎_elim (λ k. inl (v ∙ k))
    (λ (k : (s.limits).calls - (q.so_far).calls < (s.limits).calls - s.calls). inr (subst (λ (z : ℕ). z < (s.limits).calls - s.calls) (sym n) k)) h)

pub fewer_rounds : (s s' : SessionState) (w : Contents) → is_saved s.saved ≡ true → Completed s s' (round_of s) w → rounds_left s' < rounds_left s
fewer_rounds s s' w e f = fewer_after s s' (round_of s) e f.limits f.progress (round_saves s.limits s.saved (progress_of s))

-- ---- the end after them

-- the output of a run's end, in its parts
closed_parts : (freezes : Bool) (p : Progress) → (p.so_far).output ++ closed_output freezes (written p).so_far ≡ closed_output freezes p.so_far
closed_parts true p = append-nil (p.so_far).output
closed_parts false p = refl

result_open : (freezes : Bool) (p : Progress) → p.over ≡ None → (result_of freezes [] p).output ≡ closed_output freezes p.so_far
result_open freezes p e = ap (λ (v : Option EndReason). (result_by v freezes [] p.so_far p.any_missing).output) e

-- the run came to its last saved text
module _ (freezes : Bool) (old mid new : SessionState)
    (out0 out1 out2 reported0 reported1 reported2 : Option (List ℕ))
    (f : Completed old mid (session_after_wraps old) (writers out0 out1 reported0 reported1)) (v : mid.over ≡ None)
    (none : mid.saved ≡ []) (any_missing : mid.any_missing ≡ old.any_missing) where
  abbrev P : Progress
  P = session_after_wraps old

  abbrev Whole : Contents
  Whole = writers out0 out2 reported0 reported2

  mid_open : IsOpen mid
  mid_open = record { over = v; unfinished = f.unfinished }

  mid_is : session_after_wraps mid ≡ written P
  mid_is = after_is mid mid_open none ∙ f.progress

  goes_on : P.over ≡ None
  goes_on = ap (λ (p : Progress). p.over) (sym f.progress) ∙ ap how_over v

  -- the rest of the output and of the messages
  out_parts : (x y : List ℕ) → out2 ≡ with_bytes out1 x → (P.so_far).output ++ x ≡ y → out2 ≡ with_bytes out0 y
  out_parts x y e h = e ∙ ap (λ o. with_bytes o x) f.output ∙ with_bytes-append out0 (P.so_far).output x ∙ ap (with_bytes out0) h

  reported_parts : reported2 ≡ with_bytes reported1 [] → reported2 ≡ with_bytes reported0 (P.so_far).messages
  reported_parts e = e ∙ ap (λ o. with_bytes o []) f.messages ∙ with_bytes-append reported0 (P.so_far).messages []
      ∙ ap (with_bytes reported0) (append-nil (P.so_far).messages)

  closed_then : Closed freezes mid new (writers out1 out2 reported1 reported2) → Closed freezes old new Whole
  closed_then k = record {
    live = f.live;
    limits = k.limits ∙ f.limits;
    finished = k.finished;
    over = k.over;
    any_missing = k.any_missing ∙ any_missing;
    saved = k.saved;
    calls = k.calls ∙ ap (λ (p : Progress). (p.so_far).calls) mid_is;
    ended = goes_on;
    output = out_parts (closed_output freezes (written P).so_far) _
        (k.output ∙ ap (λ (p : Progress). with_bytes out1 (closed_output freezes p.so_far)) mid_is) (closed_parts freezes P);
    messages = reported_parts (k.messages ∙ ap (λ (p : Progress). with_bytes reported1 (p.so_far).messages) mid_is);
  }

  unfinished_then : (cause : Cause) → Unfinished freezes mid new (writers out1 out2 reported1 reported2) cause → Unfinished freezes old new Whole cause
  unfinished_then cause k = record {
    live = f.live;
    over = k.over;
    output = begun_after out0 out1 out2 (P.so_far).output (closed_output freezes (written P).so_far) [] _ f.output
        (subst (HasBegun out1 out2) (ap (λ (p : Progress). (result_of freezes [] p).output) mid_is ∙ result_open freezes (written P) goes_on) k.output)
        (result_open freezes P goes_on ∙ sym (closed_parts freezes P) ∙ sym (append-nil ((P.so_far).output ++ closed_output freezes (written P).so_far)));
    messages = begun_after reported0 reported1 reported2 (P.so_far).messages [] [] _ f.messages
        (subst (λ (p : Progress). HasBegun reported1 reported2 (p.so_far).messages) mid_is k.messages)
        (sym (append-nil (P.so_far).messages) ∙ sym (append-nil ((P.so_far).messages ++ [])));
  }

  filed_then : Completed mid new (session_after_wraps mid) (writers out1 out2 reported1 reported2) → Completed old new P Whole
  filed_then k = record {
    live = f.live;
    limits = k.limits ∙ f.limits;
    unfinished = k.unfinished;
    progress = k.progress ∙ ap written mid_is;
    output = out_parts [] _ (k.output ∙ ap (λ (p : Progress). with_bytes out1 (p.so_far).output) mid_is) (append-nil (P.so_far).output);
    messages = reported_parts (k.messages ∙ ap (λ (p : Progress). with_bytes reported1 (p.so_far).messages) mid_is);
  }

  pub end_then : (r : Result Unit Stop) → EndGives freezes mid new (writers out1 out2 reported1 reported2) r → EndGives freezes old new Whole r
  end_then (Ok done) k = closed_then k
  end_then (Err stops.Finished) k = absurd ((k.closed) mid_open)
  end_then (Err (stops.Ended causes.Done)) k = k
  end_then (Err (stops.Ended (causes.Frozen x))) k = k
  end_then (Err (stops.Ended causes.Read)) k = k
  end_then (Err (stops.Ended causes.Write)) k = unfinished_then causes.Write k
  end_then (Err (stops.Ended causes.OutOfMemory)) k = unfinished_then causes.OutOfMemory k
  end_then (Err (stops.Ended cause)) k = (filed_then k.0, k.1)

  -- what the writer of the frozen text has
  state_is : last_state mid ≡ last_state old
  state_is = ap (λ (p : Progress). (p.so_far).state) mid_is

  abbrev later : Option (List ℕ) → Option (List ℕ) → Three (Option (List ℕ))
  later frozen frozen' = record { two = writers out1 out2 reported1 reported2; frozen_old = frozen; frozen_new = frozen' }

  abbrev all_of : Option (List ℕ) → Option (List ℕ) → Three (Option (List ℕ))
  all_of frozen frozen' = record { two = Whole; frozen_old = frozen; frozen_new = frozen' }

  began_then : (frozen frozen' : Option (List ℕ)) → FreezeBegan mid (later frozen frozen') → FreezeBegan old (all_of frozen frozen')
  began_then frozen frozen' k = record {
    ended = goes_on;
    begun = subst (λ s. HasBegun frozen frozen' (freeze s)) state_is k.begun;
    output = out_parts [] _ (k.output ∙ ap (λ (p : Progress). with_bytes out1 (p.so_far).output) mid_is) (append-nil (P.so_far).output);
    messages = reported_parts (k.messages ∙ ap (λ (p : Progress). with_bytes reported1 (p.so_far).messages) mid_is);
  }

  frozen_then : (frozen frozen' : Option (List ℕ)) (r : Result Unit Stop) → FrozenGives mid (later frozen frozen') r → FrozenGives old (all_of frozen frozen') r
  frozen_then frozen frozen' (Ok done) k = (k.0 ∙ ap (λ s. with_bytes frozen (freeze s)) state_is, subst IsSized state_is k.1)
  frozen_then frozen frozen' (Err (stops.Ended causes.Write)) (inl k) = inl k
  frozen_then frozen frozen' (Err (stops.Ended causes.Write)) (inr k) = inr (began_then frozen frozen' k)
  frozen_then frozen frozen' (Err stop) k = k

-- a run's end that freezes, after the saved texts
pub freeze_then : (old mid new : SessionState)
    (out0 out1 out2 reported0 reported1 reported2 frozen frozen' : Option (List ℕ))
    → GoesTo (session_after_wraps old) old mid (writers out0 out1 reported0 reported1) (Ok tt) → mid.saved ≡ []
    → mid.any_missing ≡ old.any_missing → (r : Result Unit Stop)
    → FreezeGives mid new
    (record { two = writers out1 out2 reported1 reported2; frozen_old = frozen; frozen_new = frozen' }) r
    → FreezeGives old new
    (record { two = writers out0 out2 reported0 reported2; frozen_old = frozen; frozen_new = frozen' }) r
freeze_then old mid new out0 out1 out2 reported0 reported1 reported2 frozen frozen' g none any_missing r k = (
  end_then true old mid new out0 out1 out2 reported0 reported1 reported2 g.0 g.1 none any_missing r k.0,
  frozen_then true old mid new out0 out1 out2 reported0 reported1 reported2 g.0 g.1 none any_missing frozen frozen' r k.1,
)

-- the frozen text was begun, after the saved texts
pub uses_then : (old mid new : SessionState) (out0 out1 out2 reported0 reported1 reported2 frozen frozen' : Option (List ℕ))
    → GoesTo (session_after_wraps old) old mid (writers out0 out1 reported0 reported1) (Ok tt) → mid.saved ≡ []
    → mid.any_missing ≡ old.any_missing → {Z : Type 0} → (z z' : Z) (r : Result Unit Stop) → r ≡ Err (stops.Ended causes.Write)
    → FreezeBegan mid (record { two = writers out1 out2 reported1 reported2; frozen_old = frozen; frozen_new = frozen' })
    → FreezeUses old z z' (record { two = writers out0 out2 reported0 reported2; frozen_old = frozen; frozen_new = frozen' }) r
uses_then old mid new out0 out1 out2 reported0 reported1 reported2 frozen frozen' g none any_missing z z' r e h =
    subst (λ (x : Result Unit Stop). FreezeUses old z z'
    (record { two = writers out0 out2 reported0 reported2; frozen_old = frozen; frozen_new = frozen' }) x) (sym e)
    (inr (began_then true old mid new out0 out1 out2 reported0 reported1 reported2 g.0 g.1 none any_missing frozen frozen' h))

-- it was not begun
pub uses_none : {Z : Type 0} → (old : SessionState) (z z' : Z) (w : Three (Option (List ℕ))) (r : Result Unit Stop) → z' ≡ z → FreezeUses old z z' w r
uses_none old z z' w (Err (stops.Ended causes.Write)) h = inl h
uses_none old z z' w r h = tt

pub uses_without_memory : {Z : Type 0} → (old : SessionState) (z z' : Z) (w : Three (Option (List ℕ)))
    (r : Result Unit Stop) → r ≡ Err (stops.Ended causes.OutOfMemory) → FreezeUses old z z' w r
uses_without_memory old z z' w r e = subst (λ (x : Result Unit Stop). FreezeUses old z z' w x) (sym e) tt

pub finish_then : (old mid new : SessionState) (out0 out1 out2 reported0 reported1 reported2 : Option (List ℕ))
    → GoesTo (session_after_wraps old) old mid (writers out0 out1 reported0 reported1) (Ok tt) → mid.saved ≡ []
    → mid.any_missing ≡ old.any_missing → (r : Result Unit Stop)
    → FinishGives mid new (writers out1 out2 reported1 reported2) r
    → FinishGives old new (writers out0 out2 reported0 reported2) r
finish_then old mid new out0 out1 out2 reported0 reported1 reported2 g none any_missing r k =
    end_then false old mid new out0 out1 out2 reported0 reported1 reported2 g.0 g.1 none any_missing r k

-- the run still goes on
pub gone_on : (p : Progress) (old mid : SessionState) (w : Contents) → GoesTo p old mid w (Ok tt) → IsOpen mid
gone_on p old mid w g = record { over = g.1; unfinished = (g.0).unfinished }

-- a run that ended in its saved texts, or broke off there

-- what its end would add
abbrev more_by : Option EndReason → Bool → State → List ℕ
more_by (Some reason) freezes s = []
more_by None true s = []
more_by None false s = close s

result_more : (v : Option EndReason) (freezes any_missing : Bool) (r : RunSoFar)
    → (result_by v freezes [] r any_missing).output ≡ ([] ++ r.output) ++ more_by v freezes r.state
result_more (Some reason) freezes any_missing r = sym (append-nil r.output)
result_more None true any_missing r = sym (append-nil r.output)
result_more None false any_missing r = refl

saved_broke : (freezes : Bool) (old new : SessionState) (w : Contents) (cause : Cause) → IsOpen old
    → BrokeOff new (session_after_wraps old) w cause → Unfinished freezes old new w cause
saved_broke freezes old new w cause l h =
    let p : Progress = session_after_wraps old in
    record {
      live = l;
      over = h.over;
      output = begun_after w.out_old w.out_old w.out_new [] (p.so_far).output (more_by p.over freezes (p.so_far).state)
          _ (with_bytes-nil w.out_old) h.output (result_more p.over freezes p.any_missing p.so_far);
      messages = h.messages;
    }

pub saved_ends : (freezes : Bool) (old new : SessionState) (w : Contents) (e : Stop) → IsOpen old
    → WrapsGive (session_after_wraps old) old new w (Err e) → EndGives freezes old new w (Err e)
saved_ends freezes old new w stops.Finished l h = absurd h.0
saved_ends freezes old new w (stops.Ended causes.Read) l h = h.1
saved_ends freezes old new w (stops.Ended causes.Write) l h = saved_broke freezes old new w causes.Write l h.0
saved_ends freezes old new w (stops.Ended causes.OutOfMemory) l h = saved_broke freezes old new w causes.OutOfMemory l h.0
saved_ends freezes old new w (stops.Ended cause) l h = h.0

-- then nothing is frozen
spared : (s : SessionState) (two : Contents) (frozen : Option (List ℕ)) (e : Stop)
    → FrozenGives s (record { two = two; frozen_old = frozen; frozen_new = frozen }) (Err e)
spared s two frozen stops.Finished = refl
spared s two frozen (stops.Ended causes.Write) = inl refl
spared s two frozen (stops.Ended cause) = refl

pub finish_stops : (old new : SessionState) (w : Contents) (e : Stop) (q r : Result Unit Stop) → q ≡ Err e → r ≡ Err e
    → IsOpen old → WrapsGive (session_after_wraps old) old new w q → FinishGives old new w r
finish_stops old new w e q r f g l h =
    subst (FinishGives old new w) (sym g) (saved_ends false old new w e l (subst (WrapsGive (session_after_wraps old) old new w) f h))

pub freeze_stops : (old new : SessionState) (two : Contents) (frozen : Option (List ℕ)) (e : Stop)
    (q r : Result Unit Stop) → q ≡ Err e → r ≡ Err e → IsOpen old → WrapsGive (session_after_wraps old) old new two q
    → FreezeGives old new (record { two = two; frozen_old = frozen; frozen_new = frozen }) r
freeze_stops old new two frozen e q r f g l h =
    subst (FreezeGives old new (record { two = two; frozen_old = frozen; frozen_new = frozen })) (sym g)
    (saved_ends true old new two e l (subst (WrapsGive (session_after_wraps old) old new two) f h), spared old two frozen e)
