-- Ordering: the step that shows what a call of a session wrote, if it was broken off.
use Rattle.std.proofs.Common.{◌≡◌, ◌≢◌, inl, inr, Bool, true, false, ℕ, List, [], ◌∷◌, ◌++◌, Option, None}
use Rattle.std.proofs.Common.{refl, sym, ap, ◌∙◌, subst, append-nil, append_assoc}
use Rattle.std.specs.Prelude.{Result, Ok, Err}
use Rattle.m4_state.proofs.CallerLaws.{with_bytes-append, with_bytes-nil}
use Rattle.m4_state.specs.Device.{Script, with_bytes, HasBegun}
use Rattle.m4_input.specs.Pending.{Pending}
use Rattle.m4_input.specs.Input.{Held, unread_file, wrapped_text}
use Rattle.m4_engine.specs.declared.ending.Cause.{Cause}
use Rattle.m4_engine.specs.declared.ending.Cause.TheVariants as causes
use Rattle.m4_engine.specs.declared.ending.Ending.{Ending}
use Rattle.m4_engine.specs.declared.options.Options.{Options}
use Rattle.m4_engine.specs.declared.source.Source.{Source as RunSource}
use Rattle.m4_engine.specs.declared.source.Source.TheVariants as sources
use Rattle.m4_engine.specs.declared.stop.Stop.{Stop}
use Rattle.m4_engine.specs.declared.stop.Stop.TheVariants as stops
use Rattle.m4_engine.specs.Expansion.{Limits, Expansion, RunSoFar}
use Rattle.m4_engine.specs.Expand.{expansion_of}
use Rattle.m4_engine.specs.Engine.{Engine}
use Rattle.m4_engine.specs.Turns.{MayFollow}
use Rattle.m4_engine.specs.Moments.{moved, made_by, first_moment, IsTurnOf}
use Rattle.m4_engine.specs.Order.{IsBetween, IsStepOf, InSources, IsTurnOfRound, InEnd, IsStepOfRun, InOrder}
use Rattle.m4_engine.specs.Order.{InOrderBy, InSomeRound, preceded, Breaks, BreaksBy, FileBreaks}
use Rattle.m4_engine.specs.File.{Source, Opened, Unopened, Progress, file_pending, cannot_open}
use Rattle.m4_engine.specs.File.{after_sources}
use Rattle.m4_engine.specs.Wraps.{wrapped_pending, joined_back, after_wraps, close}
use Rattle.m4_engine.specs.Start.{Start, begun}
use Rattle.m4_engine.specs.Run.{limits_of}
use Rattle.m4_engine.specs.Session.{SessionState, progress_of, how_over, IsOpen}
use Rattle.m4_engine.specs.Session.{session_after_wraps, MissingGives, is_saved}
use Rattle.m4_engine.specs.RunSteps.{BeginGives}
use Rattle.m4_engine.specs.Writers.{Contents, writers}
use Rattle.m4_engine.specs.Expands.{StepBreaks, StepBreaksBy, progress_before}
use Rattle.m4_engine.proofs.Begins.{nothing_begun}
use Rattle.m4_engine.proofs.BrokenOff.{if_broken, broken_map}
use Rattle.m4_engine.proofs.GoingOn.{written_after, sources_after, wraps_after}
use Rattle.m4_engine.proofs.Sessions.{closed_rest, taken_file, may_end, session_of}
use Rattle.m4_engine.proofs.Sources.{described_suit, Suits, so_of, unopened_is, none_taken}
use Rattle.m4_engine.proofs.Starts.{begun_is}
use Rattle.m4_engine.specs.SessionSteps.{answer_by, GoesTo, ending_by}
use Rattle.m4_engine.proofs.Cases.{DescribesSource}

-- ---- by the answer

-- so of each answer
pub any_breaks : {A : Type 0} (r : Result A Stop) (P : Type 0) → P → BreaksBy r P
any_breaks (Err (stops.Ended cause)) P h = if_broken cause P h
any_breaks r P h = tt

-- the same stop of another call
stop_breaks : (A B : Type 0) (e : Stop) (P Q : Type 0) → (P → Q) → BreaksBy {A = A} (Err e) P → BreaksBy {A = B} (Err e) Q
stop_breaks A B (stops.Ended cause) P Q f h = broken_map cause P Q f h
stop_breaks A B stops.Finished P Q f h = tt

pub same_breaks : (A B : Type 0) (e : Stop) (q : Result A Stop) (r : Result B Stop) (P Q : Type 0) → q ≡ Err e
    → r ≡ Err e → (P → Q) → BreaksBy q P → BreaksBy r Q
same_breaks A B e q r P Q i j f h =
    subst (λ (x : Result B Stop). BreaksBy x Q) (sym j) (stop_breaks A B e P Q f (subst (λ (x : Result A Stop). BreaksBy x P) i h))

told_answer : (e : Engine) (p : Pending) (before after : Option Script) (w : Contents) (P : Type 0) (cause : Cause)
    → (StepBreaks e p before after w → P) → StepBreaksBy e p before after w cause → BreaksBy (answer_by cause) P
told_answer e p before after w P causes.Done f h = tt
told_answer e p before after w P cause f h = broken_map cause (StepBreaks e p before after w) P f h

-- ---- a call in which nothing was written

-- the first turn of an expansion shows that
pub nothing_told : (start : Expansion) (o m : List ℕ) (out0 out reported0 reported : Option (List ℕ))
    → (start.so_far).output ≡ o ++ [] → (start.so_far).messages ≡ m ++ [] → out ≡ with_bytes out0 o
    → reported ≡ with_bytes reported0 m
    → IsBetween start.so_far (made_by (moved (first_moment start))) (writers out0 out reported0 reported)
nothing_told start o m out0 out reported0 reported e f g h =
    record {
      o = o;
      m = m;
      written = record { output = g; messages = h };
      shown = inl (([], e), sym (f ∙ append-nil m));
    }

first_turn : (start : Expansion) → IsTurnOf start start.so_far (made_by (moved (first_moment start)))
first_turn start = record { way = []; at = first_moment start; comes = refl; made = refl; makes = refl }

silent_source : (old : SessionState) (name bytes : List ℕ) (w : Contents) → IsOpen old → w.out_new ≡ w.out_old
    → w.messages_new ≡ w.messages_old → Breaks (IsStepOf old.limits (Opened name bytes)) (progress_of old) w
silent_source old name bytes w l h i = λ o m out messages f g.
    let start : Expansion = expansion_of old.limits (preceded o m (progress_of old)).so_far (file_pending name bytes false) in (
      start.so_far,
      made_by (moved (first_moment start)),
      (ap how_over l.over, first_turn start),
      nothing_told start o m out w.out_new messages w.messages_new refl refl (h ∙ f) (i ∙ g),
    )

pub silent_round : (old : SessionState) (w : Contents) → IsOpen old → old.saved ≢ [] → w.out_new ≡ w.out_old
    → w.messages_new ≡ w.messages_old → Breaks (IsTurnOfRound old.limits) (progress_of old) w
silent_round old w l n h i = λ o m out messages f g.
    let start : Expansion = expansion_of old.limits (record (preceded o m (progress_of old)).so_far { saved = [] })
    (wrapped_pending (joined_back old.saved)) in (
      start.so_far,
      made_by (moved (first_moment start)),
      record { goes_on = ap how_over l.over; saved = n; turn = first_turn start },
      nothing_told start o m out w.out_new messages w.messages_new refl refl (h ∙ f) (i ∙ g),
    )

-- ---- a file and a round

file_breaks : (e : Engine) (any_missing : Bool) (name : List ℕ) (before after : Option Script) (w : Contents)
    → StepBreaks e (unread_file name).pending before after w
    → FileBreaks e.limits (progress_of (session_of e any_missing None false)) name before after w
file_breaks e any_missing name before after w r = record {
  x = r.x;
  may_follow = (r.q).may_follow;
  given = (r.reads).given;
  at_end = λ i. (r.reads).at_end refl i;
  asked = tt;
  so = λ z i o m out messages f g.
      let k = subst (λ (q : Pending). Breaks (λ t. IsTurnOf (expansion_of e.limits t.so_far q)) (progress_before e) w)
      (taken_file name r.x before after r.q z false r.reads) (r.so z false (may_end (r.q).may_follow z i)) o m out
      messages f g in
      (k.0, k.1, (refl, k.2), k.3);
}

-- an open session
open_over : (old : SessionState) (e : Engine) (any_missing : Bool) (over : Option Cause) (finished : Bool)
    → old ≡ session_of e any_missing over finished → IsOpen old → over ≡ None
open_over old e any_missing over finished o l = ap (λ (s : SessionState). s.over) (sym o) ∙ l.over

pub file_told : (old : SessionState) (e : Engine) (any_missing : Bool) (over : Option Cause) (finished : Bool)
    (name : List ℕ) (i : Held) (before after : Option Script) (w : Contents) (cause : Cause) (result : Result Unit Stop)
    → old ≡ session_of e any_missing over finished → IsOpen old → i ≡ unread_file name
    → StepBreaksBy e i.pending before after w cause → result ≡ answer_by cause
    → BreaksBy result (FileBreaks old.limits (progress_of old) name before after w)
file_told old e any_missing over finished name i before after w cause result o l n h r =
    let k : StepBreaksBy e (unread_file name).pending before after w cause = subst (λ (x : Held). StepBreaksBy e x.pending before after w cause) n h in
    subst (λ (s : SessionState). BreaksBy result (FileBreaks s.limits (progress_of s) name before after w)) (sym o)
    (subst (λ (v : Option Cause). BreaksBy result
    (FileBreaks e.limits (progress_of (session_of e any_missing v finished)) name before after w))
    (sym (open_over old e any_missing over finished o l))
    (subst (λ (x : Result Unit Stop). BreaksBy x (FileBreaks e.limits (progress_of (session_of e any_missing None finished)) name before after w)) (sym r)
    (told_answer e (unread_file name).pending before after w _ cause (file_breaks e any_missing name before after w) k)))

round_breaks : (e ea : Engine) (any_missing : Bool) (before after : Option Script) (w : Contents) → e.saved ≢ [] → ea ≡ record e { saved = [] }
    → StepBreaks ea (wrapped_pending (joined_back e.saved)) before after w
    → Breaks (IsTurnOfRound e.limits) (progress_of (session_of e any_missing None false)) w
round_breaks e ea any_missing before after w n a r = λ o m out messages f g.
    let p : Pending = wrapped_pending (joined_back e.saved) in
    let c = closed_rest p r.q before after r.x refl r.reads in
    let k = subst (λ (d : Engine). Breaks (λ t. IsTurnOf (expansion_of d.limits t.so_far p)) (progress_before d) w) a
    (subst (λ (q : Pending). Breaks (λ t. IsTurnOf (expansion_of ea.limits t.so_far q)) (progress_before ea) w) c.1
    (r.so [] false (subst (λ (b : Bool). MayFollow b [] false) (sym c.0) (refl, refl)))) o m out messages f g in
    (k.0, k.1, record { goes_on = refl; saved = n; turn = k.2 }, k.3)

pub round_told : (old : SessionState) (e ea : Engine) (any_missing : Bool) (over : Option Cause) (finished : Bool)
    (x : List ℕ) (i : Held) (before after : Option Script) (w : Contents) (cause : Cause) (result : Result Unit Stop)
    → old ≡ session_of e any_missing over finished → IsOpen old → old.saved ≢ [] → ea ≡ record e { saved = [] }
    → x ≡ joined_back e.saved → i ≡ wrapped_text x → StepBreaksBy ea i.pending before after w cause
    → result ≡ answer_by cause → BreaksBy result (Breaks (IsTurnOfRound old.limits) (progress_of old) w)
round_told old e ea any_missing over finished x i before after w cause result o l s a j n h r =
    let p : Pending = wrapped_pending (joined_back e.saved) in
    let k : StepBreaksBy ea p before after w cause =
    subst (λ (y : Pending). StepBreaksBy ea y before after w cause)
    (ap (λ (h : Held). h.pending) n ∙ ap wrapped_pending j) h in
    let there : e.saved ≢ [] = subst (λ (v : List (List ℕ)). v ≢ []) (ap (λ (t : SessionState). t.saved) o) s in
    subst (λ (t : SessionState). BreaksBy result (Breaks (IsTurnOfRound t.limits) (progress_of t) w)) (sym o)
    (subst (λ (v : Option Cause). BreaksBy result
    (Breaks (IsTurnOfRound e.limits) (progress_of (session_of e any_missing v finished)) w))
    (sym (open_over old e any_missing over finished o l))
    (subst (λ (y : Result Unit Stop). BreaksBy y (Breaks (IsTurnOfRound e.limits) (progress_of (session_of e any_missing None finished)) w)) (sym r)
    (told_answer ea p before after w _ cause (round_breaks e ea any_missing before after w there a) k)))

pub some_saved : (saved : List (List ℕ)) → is_saved saved ≡ true → saved ≢ []
some_saved [] h e = cc
some_saved (x ∷ xs) h e = cc

-- ---- the end of a run

-- a step of the rounds is a step of the end
pub rounds_end : (limits : Limits) (p : Progress) (w : Contents) → Breaks (InSomeRound limits) p w → Breaks (InEnd limits) p w
rounds_end limits p w h = λ o m out messages f g.
    let k = h o m out messages f g in
    (k.0, k.1, inl k.2, k.3)

-- after the rounds the texts of the diversions are written
pub end_breaks : (old mid : SessionState) (out0 out1 out2 reported0 reported1 : Option (List ℕ))
    → GoesTo (session_after_wraps old) old mid (writers out0 out1 reported0 reported1) (Ok tt)
    → HasBegun out1 out2 (close mid.state)
    → Breaks (InEnd old.limits) (progress_of old) (writers out0 out2 reported0 reported1)
end_breaks old mid out0 out1 out2 reported0 reported1 f h = λ o m out messages a b.
    let p : Progress = session_after_wraps old in
    let all : after_wraps old.limits (preceded o m (progress_of old)) ≡ preceded o m p = wraps_after o m old.limits (progress_of old) in
    let goes_on : p.over ≡ None = ap (λ (q : Progress). q.over) (sym (f.0).progress) ∙ ap how_over f.1 in
    let before : RunSoFar = (preceded o m p).so_far in
    let same : close mid.state ≡ close before.state = ap (λ (q : Progress). close (q.so_far).state) (f.0).progress in (
      before,
      record before { output = before.output ++ close before.state },
      inr (
        ap (λ (q : Progress). q.over) all ∙ goes_on,
        sym (ap (λ (q : Progress). q.so_far) all),
        refl,
      ),
      record {
        o = before.output ++ (h.1).front;
        m = before.messages;
        written = record {
          output = (h.1).holds
              ∙ ap (λ (v : Option (List ℕ)). with_bytes v (h.1).front)
              ((f.0).output ∙ ap (λ (v : Option (List ℕ)). with_bytes v (p.so_far).output) a
              ∙ with_bytes-append out o (p.so_far).output)
              ∙ with_bytes-append out (o ++ (p.so_far).output) (h.1).front;
          messages = (f.0).messages ∙ ap (λ (v : Option (List ℕ)). with_bytes v (p.so_far).messages) b ∙ with_bytes-append messages m (p.so_far).messages;
        };
        shown = inr (inr (
          ((h.1).front, refl),
          (
            h.0,
            ap (λ (v : List ℕ). before.output ++ v) (sym same ∙ (h.1).parts) ∙ sym (append_assoc before.output (h.1).front h.0),
          ),
          refl,
        ));
      },
    )

-- ---- a source

-- one that could not be opened
missing_breaks : (old new : SessionState) (name : List ℕ) (w : Contents) → IsOpen old → w.out_new ≡ w.out_old
    → HasBegun w.messages_old w.messages_new (cannot_open name) → Breaks (IsStepOf old.limits (Unopened name)) (progress_of old) w
missing_breaks old new name w l e h = λ o m out messages f g.
    let p : Progress = preceded o m (progress_of old) in (
      p.so_far,
      record p.so_far { messages = (p.so_far).messages ++ cannot_open name },
      (ap how_over l.over, refl, refl),
      record {
        o = o;
        m = m ++ (h.1).front;
        written = record {
          output = e ∙ f;
          messages = (h.1).holds ∙ ap (λ (v : Option (List ℕ)). with_bytes v (h.1).front) g ∙ with_bytes-append messages m (h.1).front;
        };
        shown = inr (inl (
          sym (append-nil o),
          ((h.1).front, ap (λ (v : List ℕ). v ++ (h.1).front) (sym (append-nil m))),
          (
            h.0,
            ap (λ (v : List ℕ). v ++ cannot_open name) (append-nil m)
                ∙ ap (λ (v : List ℕ). m ++ v) (h.1).parts
                ∙ sym (append_assoc m (h.1).front h.0),
          ),
        ));
      },
    )

missing_told : (old new : SessionState) (name : List ℕ) (w : Contents) (r : Result Unit Stop) → IsOpen old
    → w.out_new ≡ w.out_old → MissingGives name old new w.messages_old w.messages_new r
    → BreaksBy r (Breaks (IsStepOf old.limits (Unopened name)) (progress_of old) w)
missing_told old new name w (Err (stops.Ended causes.Write)) l e h = missing_breaks old new name w l e h.1
missing_told old new name w (Err (stops.Ended causes.OutOfMemory)) l e h = absurd h
missing_told old new name w r l e h = tt

module _ {R : Type 0} (script : R → Option Script) where
  pub unopened_told : (old new : SessionState) (name : List ℕ)
      (first after : RunSource R) (w : Contents) (r : Result Unit Stop) (s : Source) → first ≡ sources.Unopened name
      → IsOpen old → DescribesSource script first after s → w.out_new ≡ w.out_old
      → MissingGives name old new w.messages_old w.messages_new r
      → BreaksBy r (Breaks (IsStepOf old.limits s) (progress_of old) w)
  unopened_told old new name first after w r s f l t o h =
      let k : DescribesSource script (sources.Unopened name) after s = subst (λ x. DescribesSource script x after s) f t in
      subst (λ (s : Source). BreaksBy r (Breaks (IsStepOf old.limits s) (progress_of old) w))
      (unopened_is script name after s k) (missing_told old new name w r l o h)

  -- one that was opened
  pub opened_told : (old : SessionState) (name : List ℕ) (before later : R)
      (first after : RunSource R) (w : Contents) (r : Result Unit Stop) (s : Source)
      → first ≡ sources.Opened name before → after ≡ sources.Opened name later → DescribesSource script first after s
      → BreaksBy r (FileBreaks old.limits (progress_of old) name (script before) (script later) w)
      → BreaksBy r (Breaks (IsStepOf old.limits s) (progress_of old) w)
  opened_told old name before later first after w r s f b t h =
      let k : DescribesSource script (sources.Opened name before) (sources.Opened name later) s =
      subst (λ x. DescribesSource script x (sources.Opened name later) s) f
      (subst (λ x. DescribesSource script first x s) b t) in
      let u : Suits name (script before) (script later) s = described_suit script name before (sources.Opened name later) s k in
      by_answer r (so_of name (script before) (script later) s (λ x. Unit) (λ s. Breaks (IsStepOf old.limits s) (progress_of old) w) u) h
    where
      by_answer : {P Q : Type 0} (r : Result Unit Stop) → (P → Q) → BreaksBy r P → BreaksBy r Q
      by_answer (Ok done) f h = tt
      by_answer (Err e) f h = stop_breaks Unit Unit e _ _ f h

  -- one whose name could not be held
  pub unread_told : (old : SessionState) (name : List ℕ) (reader : R)
      (first : RunSource R) (w : Contents) (r : Result Unit Stop) (s : Source) → first ≡ sources.Opened name reader
      → IsOpen old → DescribesSource script first (sources.Opened name reader) s → w.out_new ≡ w.out_old
      → w.messages_new ≡ w.messages_old → BreaksBy r (Breaks (IsStepOf old.limits s) (progress_of old) w)
  unread_told old name reader first w r s f l t h i =
      let k : DescribesSource script (sources.Opened name reader) (sources.Opened name reader) s =
      subst (λ x. DescribesSource script x (sources.Opened name reader) s) f t in
      let u = described_suit script name reader (sources.Opened name reader) s k [] true (none_taken (script reader)) (λ e. absurd (not_so e)) in
      any_breaks r _ (subst (λ (s : Source). Breaks (IsStepOf old.limits s) (progress_of old) w) (sym u.2) (silent_source old name u.0 w l h i))
    where
      not_so : true ≡ false → ⊥
      not_so e = cc

-- ---- the sources and the end of a run

pub sources_step : (limits : Limits) (ss : List Source) (p : Progress) (w : Contents) → Breaks (InSources limits ss) p w → Breaks (IsStepOfRun limits ss) p w
sources_step limits ss p w h = λ o m out messages f g.
    let k = h o m out messages f g in
    (k.0, k.1, inl k.2, k.3)

-- the sources were read, and then the run broke off
pub end_step : (ss : List Source) (old mid : SessionState) (out0 out1 out2 reported0 reported1 reported2 : Option (List ℕ))
    → GoesTo (after_sources old.limits ss (progress_of old)) old mid (writers out0 out1 reported0 reported1) (Ok tt)
    → Breaks (InEnd mid.limits) (progress_of mid) (writers out1 out2 reported1 reported2)
    → Breaks (IsStepOfRun old.limits ss) (progress_of old) (writers out0 out2 reported0 reported2)
end_step ss old mid out0 out1 out2 reported0 reported1 reported2 f h = λ o m out messages a b.
    let p : Progress = after_sources old.limits ss (progress_of old) in
    let x : List ℕ = o ++ (p.so_far).output in
    let y : List ℕ = m ++ (p.so_far).messages in
    let k = h x y out messages
    ((f.0).output ∙ ap (λ (v : Option (List ℕ)). with_bytes v (p.so_far).output) a ∙ with_bytes-append out o (p.so_far).output)
    ((f.0).messages ∙ ap (λ (v : Option (List ℕ)). with_bytes v (p.so_far).messages) b ∙ with_bytes-append messages m (p.so_far).messages) in
    let same : preceded x y (progress_of mid) ≡ after_sources old.limits ss (preceded o m (progress_of old)) =
    sym (written_after o m p (progress_of mid) (f.0).progress) ∙ sym (sources_after o m old.limits ss (progress_of old)) in (
      k.0,
      k.1,
      inr (subst (λ (l : Limits). InEnd l (after_sources old.limits ss (preceded o m (progress_of old))) k.0
          k.1) (f.0).limits (subst (λ (q : Progress). InEnd mid.limits q k.0 k.1) same k.2)),
      k.3,
    )

-- ---- a whole run

-- it did not begin
never_by : (o : Options) (start : Start) (ss : List Source) (e : Stop) (status : ℕ) (out out' reported : Option (List ℕ))
    → BeginGives start o out out' (Err e)
    → InOrderBy (ending_by status (Err e)).cause o start ss (writers out out' reported reported)
never_by o start ss (stops.Ended causes.Write) status out out' reported h =
    inl (subst (λ (x : Start). HasBegun out out' ((begun x).so_far).output) (sym h.2) h.3, refl)
never_by o start ss (stops.Ended causes.OutOfMemory) status out out' reported h =
    inl (subst (λ (x : Option (List ℕ)). HasBegun out x ((begun start).so_far).output) (sym h) (nothing_begun out ((begun start).so_far).output), refl)
never_by o start ss (stops.Ended (causes.Frozen fault)) status out out' reported h = tt
never_by o start ss e status out out' reported h = absurd h

pub never_told : (o : Options) (start : Start) (ss : List Source) (st : Result SessionState Stop) (e : Stop) (status : ℕ)
    (d : Ending) (out out' reported : Option (List ℕ)) → st ≡ Err e → d ≡ ending_by status (Err e)
    → BeginGives start o out out' st → InOrderBy d.cause o start ss (writers out out' reported reported)
never_told o start ss st e status d out out' reported i j h =
    subst (λ (y : Ending). InOrderBy y.cause o start ss (writers out out' reported reported)) (sym j)
    (never_by o start ss e status out out' reported (subst (BeginGives start o out out') i h))

-- from its start
start_told : (o : Options) (start : Start) (ss : List Source) (s : SessionState) (out0 out1 out2 reported0 reported1 : Option (List ℕ))
    → BeginGives start o out0 out1 (Ok s)
    → Breaks (IsStepOfRun s.limits ss) (progress_of s) (writers out1 out2 reported0 reported1)
    → InOrder (limits_of o) ss (begun start) (writers out0 out2 reported0 reported1)
start_told o start ss s out0 out1 out2 reported0 reported1 b h =
    let k = subst (λ (y : SessionState). Breaks (IsStepOfRun y.limits ss) (progress_of y)
    (writers out1 out2 reported0 reported1)) b.3 h b.1 [] out0 reported0 b.4 (with_bytes-nil reported0) in
    inr (
      k.0,
      k.1,
      subst (λ (y : Start). IsStepOfRun (limits_of o) ss (begun y) k.0 k.1) (sym b.2)
          (subst (λ (q : Progress). IsStepOfRun (limits_of o) ss q k.0 k.1) (sym (begun_is o b.0 b.1)) k.2),
      k.3,
    )

ended_told : (o : Options) (start : Start) (ss : List Source) (w : Contents) (P : Type 0) (status : ℕ)
    (r : Result Bool Stop) → (P → InOrder (limits_of o) ss (begun start) w) → BreaksBy r P
    → InOrderBy (ending_by status r).cause o start ss w
ended_told o start ss w P status (Err (stops.Ended cause)) f h = broken_map cause P (InOrder (limits_of o) ss (begun start) w) f h
ended_told o start ss w P status r f h = tt

pub run_told : (o : Options) (start : Start) (ss : List Source) (s : SessionState) (st : Result SessionState Stop)
    (out0 out1 out2 reported0 reported1 : Option (List ℕ)) (status : ℕ) (r : Result Bool Stop) (e : Ending)
    → st ≡ Ok s → BeginGives start o out0 out1 st → e ≡ ending_by status r
    → BreaksBy r (Breaks (IsStepOfRun s.limits ss) (progress_of s) (writers out1 out2 reported0 reported1))
    → InOrderBy e.cause o start ss (writers out0 out2 reported0 reported1)
run_told o start ss s st out0 out1 out2 reported0 reported1 status r e i b j h =
    subst (λ (x : Ending). InOrderBy x.cause o start ss (writers out0 out2 reported0 reported1)) (sym j)
    (ended_told o start ss (writers out0 out2 reported0 reported1) _ status r
    (start_told o start ss s out0 out1 out2 reported0 reported1 (subst (BeginGives start o out0 out1) i b)) h)
