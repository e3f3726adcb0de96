-- GoingOn: a run that goes on from what was written of it, step by step.
use Rattle.std.proofs.Common.{◌≡◌, inl, inr, ◌<◌, ℕ, suc, ◌+◌, List, ◌++◌, Option, Some, refl, sym, ap, ◌∙◌, subst}
use Rattle.std.proofs.Common.{arith, append-nil, append_assoc}
use Rattle.std.specs.Prelude.{Ok, Err}
use Rattle.m4_state.proofs.CallerLaws.{with_bytes-append}
use Rattle.m4_state.specs.Device.{with_bytes}
use Rattle.m4_engine.specs.declared.ending.Cause.{Cause}
use Rattle.m4_engine.specs.declared.ending.Cause.TheVariants as causes
use Rattle.m4_engine.specs.declared.stop.Stop.{Stop}
use Rattle.m4_engine.specs.declared.stop.Stop.TheVariants as stops
use Rattle.m4_engine.specs.Expansion.{Limits, EndReason, Ends}
use Rattle.m4_engine.specs.File.{Source, Progress, after_sources}
use Rattle.m4_engine.specs.Wraps.{read_saved, after_wraps}
use Rattle.m4_engine.specs.Order.{preceded}
use Rattle.m4_engine.specs.Session.{SessionState, progress_of, how_over, written, IsOpen, Completed}
use Rattle.m4_engine.specs.Writers.{Contents, writers}
use Rattle.m4_engine.proofs.Begins.{begun_after}
use Rattle.m4_engine.proofs.Growth.{Extends}
use Rattle.m4_engine.proofs.RunsAfter.{Bp, Prefixed, sources_follow, round_follows, rounds_after}
use Rattle.m4_engine.specs.SessionSteps.{BrokeOff, GoesTo}

-- a progress after the bytes that were written before
abbrev pub after : List ℕ → List ℕ → Progress → Progress
after o m p = preceded o m p

-- the law of runs after others, if nothing but output and messages was made before
module _ (o m : List ℕ) (limits : Limits) where
  room : (k : ℕ) → 0 + k < limits.calls → k < limits.calls
  room k h = omega arith

  abbrev B : Progress → Progress
  B = Bp o m 0 limits.calls limits.calls limits.nesting limits.nesting room (λ k h. h) (λ h. ⊥) (inr (refl, refl)) (inr refl) (λ h x. absurd x)

  B_is : (q : Progress) → B q ≡ after o m q
  B_is q =
      let n : 0 + (q.so_far).calls ≡ (q.so_far).calls = omega arith in
      ap (λ (k : ℕ). record (after o m q) { so_far = record (after o m q).so_far { calls = k } }) n

  abbrev Prefixed' : Progress → Progress → Type 0
  Prefixed' = Prefixed o m 0 limits.calls limits.calls limits.nesting limits.nesting room (λ k h. h) (λ h. ⊥) (inr (refl, refl)) (inr refl) (λ h x. absurd x)

  same : (p q : Progress) → Prefixed' p q → p ≡ after o m q
  same p q (inl h) = absurd h.2
  same p q (inr e) = e ∙ B_is q

  pub sources_after : (ss : List Source) (q : Progress) → after_sources limits ss (after o m q) ≡ after o m (after_sources limits ss q)
  sources_after ss q =
      ap (after_sources limits ss) (sym (B_is q))
      ∙ same (after_sources limits ss (B q)) (after_sources limits ss q)
      (sources_follow o m 0 limits.calls limits.calls limits.nesting limits.nesting room (λ k h. h) (λ h. ⊥)
      (inr (refl, refl)) (inr refl) (λ h x. absurd x) ss (B q) q (inr refl))

  pub round_after : (saved : List (List ℕ)) (q : Progress) → read_saved limits saved (after o m q) ≡ after o m (read_saved limits saved q)
  round_after saved q =
      ap (read_saved limits saved) (sym (B_is q))
      ∙ same (read_saved limits saved (B q)) (read_saved limits saved q)
      (round_follows o m 0 limits.calls limits.calls limits.nesting limits.nesting room (λ k h. h) (λ h. ⊥)
      (inr (refl, refl)) (inr refl) (λ h x. absurd x) saved q)

  pub wraps_after : (q : Progress) → after_wraps limits (after o m q) ≡ after o m (after_wraps limits q)
  wraps_after q =
      ap (after_wraps limits) (sym (B_is q))
      ∙ same (after_wraps limits (B q)) (after_wraps limits q)
      (rounds_after o m 0 limits.calls limits.calls limits.nesting limits.nesting room (λ k h. h) (λ h. ⊥)
      (inr (refl, refl)) (inr refl) (λ h x. absurd x) (suc limits.calls) (B q) q (inr refl))

-- what was written of a progress
pub written_after : (o m : List ℕ) (p q : Progress) → q ≡ written p → after o m p ≡ after (o ++ (p.so_far).output) (m ++ (p.so_far).messages) q
written_after o m p q e =
    (rw (append-nil (o ++ (p.so_far).output), append-nil (m ++ (p.so_far).messages)) refl)
    ∙ ap (after (o ++ (p.so_far).output) (m ++ (p.so_far).messages)) (sym e)

-- after more bytes that were written
pub after_twice : (o m a b : List ℕ) (p : Progress) → after o m (after a b p) ≡ after (o ++ a) (m ++ b) p
after_twice o m a b p = rw (append_assoc o a (p.so_far).output, append_assoc m b (p.so_far).messages) refl

-- the results of a step, after the bytes that were written before, are a prefix of all results; if the step
-- ends the run, they are all of them
pub record Within (o m : List ℕ) (p whole : Progress) : Type 0 where
  pub keeps : Extends (after o m p).so_far whole.so_far
  pub over : (h : EndReason) → p.over ≡ Some h → whole ≡ after o m p

-- a step that ended the run
pub over_after_it : (s' : SessionState) (p : Progress) (cause : Cause) → progress_of s' ≡ written p → s'.over ≡ Some cause → p.over ≡ Some (Ends cause)
over_after_it s' p cause e f = ap (λ (q : Progress). q.over) (sym e) ∙ ap how_over f

-- a step from where o and m were written, within the whole
module _ (o m : List ℕ) (p whole : Progress) (t : Within o m p whole) (s0 s s' : SessionState)
    (out0 out out' reported0 reported reported' : Option (List ℕ)) (a : out ≡ with_bytes out0 o)
    (b : reported ≡ with_bytes reported0 m) (l0 : IsOpen s0) (l : s.limits ≡ s0.limits) where
  -- it broke off
  broke : (cause : Cause) → BrokeOff s' p (writers out out' reported reported') cause → BrokeOff s' whole (writers out0 out' reported0 reported') cause
  broke cause f = record {
    over = f.over;
    output = begun_after out0 out out' o (p.so_far).output (t.keeps).more (whole.so_far).output a f.output (t.keeps).output;
    messages = begun_after reported0 reported reported' m (p.so_far).messages (t.keeps).reported (whole.so_far).messages b f.messages (t.keeps).messages;
  }

  -- it ended the run
  ended : (cause : Cause) → Completed s s' p (writers out out' reported reported') → s'.over ≡ Some cause
      → Completed s0 s' whole (writers out0 out' reported0 reported')
  ended cause f v =
      subst (λ (q : Progress). Completed s0 s' q (writers out0 out' reported0 reported'))
      (sym (t.over (Ends cause) (over_after_it s' p cause f.progress v))) (record {
        live = l0;
        limits = f.limits ∙ l;
        unfinished = f.unfinished;
        progress = f.progress;
        output = f.output ∙ ap (λ x. with_bytes x (p.so_far).output) a ∙ with_bytes-append out0 o (p.so_far).output;
        messages = f.messages ∙ ap (λ x. with_bytes x (p.so_far).messages) b ∙ with_bytes-append reported0 m (p.so_far).messages;
      })

  -- by the answer
  pub step_stops : (e : Stop) → GoesTo p s s' (writers out out' reported reported') (Err e) → GoesTo whole s0 s' (writers out0 out' reported0 reported') (Err e)
  step_stops stops.Finished h = h
  step_stops (stops.Ended causes.Read) h = broke causes.Read h
  step_stops (stops.Ended causes.Write) h = broke causes.Write h
  step_stops (stops.Ended causes.OutOfMemory) h = broke causes.OutOfMemory h
  step_stops (stops.Ended causes.Done) h = h
  step_stops (stops.Ended (causes.Frozen x)) h = h
  step_stops (stops.Ended cause) h = (ended cause h.0 h.1, h.1)

-- all was made
pub all_made : (o m : List ℕ) (s0 s : SessionState) (w : Contents) (whole : Progress) → IsOpen s0 → IsOpen s
    → s.limits ≡ s0.limits → w.out_new ≡ with_bytes w.out_old o → w.messages_new ≡ with_bytes w.messages_old m
    → after o m (progress_of s) ≡ whole → GoesTo whole s0 s w (Ok tt)
all_made o m s0 s w whole l0 l limits a b e = (
  subst (λ (p : Progress). Completed s0 s p w) e (record {
    live = l0;
    limits = limits;
    unfinished = l.unfinished;
    progress = refl;
    output = a ∙ ap (with_bytes w.out_old) (sym (append-nil o));
    messages = b ∙ ap (with_bytes w.messages_old) (sym (append-nil m));
  }),
  l.over,
)
