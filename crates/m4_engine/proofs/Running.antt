-- Running: the state of the loop over the turns of the bytes in hand, and what its ends say.
use Rattle.std.proofs.Common.{◌≡◌, ◌<◌, ◌≤◌, ℕ, Bool, true, false, List, [], ◌∷◌, ◌++◌, Option, Some, None, refl}
use Rattle.std.proofs.Common.{sym, ap, ◌∙◌, subst, append-nil, append_assoc, arith, length, take, drop, inl, inr}
use Rattle.std.proofs.Transfers.{drop-appended}
use Rattle.std.proofs.lemmas.List.{take_at}
use Rattle.m4_state.proofs.CallerLaws.{with_bytes-append, with_bytes-nil}
use Rattle.m4_state.specs.Device.{with_bytes, HasBegun, one_more}
use Rattle.m4_input.specs.Pending.{Pending, text_of, line_length}
use Rattle.m4_input.specs.Input.{Held, longer, all_read, after_line}
use Rattle.m4_input.specs.Blocks.{LineGives}
use Rattle.m4_input.proofs.Decided.{line_open}
use Rattle.m4_engine.specs.declared.ending.Cause.{Cause}
use Rattle.m4_engine.specs.declared.ending.Cause.TheVariants as causes
use Rattle.m4_engine.specs.declared.machine.driver.Wanted.{Wanted}
use Rattle.m4_engine.specs.declared.machine.driver.Wanted.TheVariants as wanted
use Rattle.m4_engine.specs.declared.turned.Turned.{Turned}
use Rattle.m4_engine.specs.declared.turned.Turned.TheVariants as turns
use Rattle.m4_engine.specs.declared.turned.TurnEnd.{TurnEnd}
use Rattle.m4_engine.specs.declared.turned.TurnEnd.TheVariants as turn_ends
use Rattle.m4_engine.specs.Nesting.{Outcome, Halted, then_on}
use Rattle.m4_engine.specs.OpenCalls.{pop, resume, moved_meaning}
use Rattle.m4_engine.specs.Moments.{moved}
use Rattle.m4_engine.specs.Expansion.{RunSoFar, Expansion, Kept, Ended, Ends, NeedsInput}
use Rattle.m4_engine.specs.Expand.{turn, join, expand, skip_line, skip_all, out_of_bound_at, size_of, calls_left}
use Rattle.m4_engine.specs.Engine.{Engine, so_far_of, outer_of, here_of, configuration, after_flush, IsReady}
use Rattle.m4_engine.specs.Engine.{HasFront, KeepsOutput}
use Rattle.m4_engine.specs.Turns.{MayFollow, Moving, Moves, Needs, IsTurned, StaysBy, cause_of_end}
use Rattle.m4_engine.specs.Passes.{Passes, IsFull}
use Rattle.m4_engine.specs.Expands.{IsInOrder, FlushesPrefix, FlushesDue}
use Rattle.m4_engine.specs.declared.machine.driver.Paused.TheVariants as pauses
use Rattle.m4_engine.specs.Continued.{BreaksInOrder, OrderBy, skipped_first, comes_to, Leads, Marked, IsMarked}
use Rattle.m4_engine.specs.Continued.{IsFlushed, HandNeeds, HandEnds, HandBreaks, HandGives, HasMade, so_far_in}
use Rattle.m4_engine.specs.Continued.{GivesOut}
use Rattle.m4_engine.specs.Writers.{Contents, writers, HasWritten, ByCause, FailsBy}
use Rattle.m4_engine.proofs.Begins.{all_begun}
use Rattle.m4_engine.proofs.BrokenOff.{if_broken}
use Rattle.m4_engine.proofs.CallsFall.{falls}
use Rattle.m4_engine.proofs.Growth.{Extends}
use Rattle.m4_engine.proofs.Inputs.{none_is_front}
use Rattle.m4_engine.proofs.LoopKeeps.{turns_of, same_left, move_falls, meaning_of, moved_on, end_means}
use Rattle.m4_engine.proofs.MachineIsNesting.{resume-halted, popped, move_keeps}
use Rattle.m4_engine.proofs.Passing.{passes_reaches, passes_ready, filled_fall}
use Rattle.m4_engine.proofs.Leading.{leads_then, leads_on, leads_nowhere, leads_past, leads_turn, leads_to_line}
use Rattle.m4_engine.proofs.Leading.{leads_past_line, leads_along_line, leads_flushed, leads_same}
use Rattle.m4_engine.proofs.Marks.{due_some, mark_here, mark_front, mark_turn, mark_own, mark_flushed, mark_due}
use Rattle.m4_engine.proofs.OnlyGrows.{output_front, extends_same, extends_more, whole_keeps, then_keeps, list_keeps}
use Rattle.m4_engine.proofs.SkippedLines.{all_gone, line_done, line_keeps, line_drops}

-- ---- the loop over turns

-- so much was written since the loop began, and the expansion goes on from here
pub record Running (w : Wanted) (e0 : Engine) (p0 : Pending) (out0 reported0 : Option (List ℕ)) (e : Engine) (i : Held)
    (out reported : Option (List ℕ)) : Type 0 where
  pub o : List ℕ
  pub m : List ℕ
  pub written : HasWritten o m (writers out0 out reported0 reported)
  pub marked : Marked w e0 p0 o m
  pub leads : Leads w e0 p0 wanted.Token e i.pending o m
  pub ready : IsReady i

none_written : (out reported : Option (List ℕ)) → HasWritten [] [] (writers out out reported reported)
none_written out reported = record { output = with_bytes-nil out; messages = with_bytes-nil reported }

pub more_written : (o m x y : List ℕ) (out0 out out' reported0 reported reported' : Option (List ℕ))
    → HasWritten o m (writers out0 out reported0 reported) → out' ≡ with_bytes out x → reported' ≡ with_bytes reported y
    → HasWritten (o ++ x) (m ++ y) (writers out0 out' reported0 reported')
more_written o m x y out0 out out' reported0 reported reported' h f g = record {
  output = f ∙ ap (λ n. with_bytes n x) h.output ∙ with_bytes-append out0 o x;
  messages = g ∙ ap (λ n. with_bytes n y) h.messages ∙ with_bytes-append reported0 m y;
}

-- the loop begins at a token
begins_at_token : (e : Engine) (i : Held) (out reported : Option (List ℕ)) → IsReady i → IsFlushed e
    → Running wanted.Token e i.pending out reported e i out reported
begins_at_token e i out reported r f = record {
  o = [];
  m = [];
  written = none_written out reported;
  marked = mark_here wanted.Token e e i.pending i.pending [] [] (leads_nowhere wanted.Token e i.pending) f.messages;
  leads = leads_nowhere wanted.Token e i.pending;
  ready = r;
}

ready_after_line : (i j : Held) → IsReady i → LineGives i j true → IsReady j
ready_after_line i j r h = record { sound = h.1 ∙ r.sound; front = none_is_front (j.pending).definition (line_drops i.pending j.pending h.0) }

-- or after the rest of a line
begins_after_line : (e : Engine) (i j : Held) (out reported : Option (List ℕ)) → IsReady i → IsFlushed e
    → LineGives i j true → Running wanted.Line e i.pending out reported e j out reported
begins_after_line e i j out reported r f h = record {
  o = [];
  m = [];
  written = none_written out reported;
  marked = mark_here wanted.Line e e i.pending j.pending [] [] (leads_past_line e i.pending j.pending h.0) f.messages;
  leads = leads_past_line e i.pending j.pending h.0;
  ready = ready_after_line i j r h;
}

pub passed : (w : Wanted) (e0 e e1 : Engine) (p0 : Pending) (i i1 : Held)
    (out0 reported0 out reported : Option (List ℕ)) → Running w e0 p0 out0 reported0 e i out reported → Passes e e1 i i1
    → Running w e0 p0 out0 reported0 e1 i1 out reported
passed w e0 e e1 p0 i i1 out0 reported0 out reported r h = record {
  o = r.o;
  m = r.m;
  written = r.written;
  marked = r.marked;
  leads = leads_on w wanted.Token wanted.Token e0 e e1 p0 i.pending i1.pending r.o r.m r.leads (leads_past e e1 i i1 h);
  ready = passes_ready e e1 i i1 r.ready h;
}

-- a call that discards a line, and the line that was in hand, are one turn
line_goes : (may : Bool) (e' : Engine) (p' q : Pending) (f : Moving) → may ≡ p'.may_follow → after_line p' ≡ Some q
    → Moves may e' p' turns.SkipsLine f → Moves may e' q turns.GoesOn f
line_goes may e' p' q f g h k = λ z more c o m.
    k z more c o m
    ∙ ap (pop Expansion Kept Ended turn join (outer_of e'.open_calls)) (line_done (here_of o m e' p') p' q z more (subst (λ v. MayFollow v z more) g c) h)

-- a turn after which it goes on, and a flush
goes_on : (w : Wanted) (e0 e e' e2 : Engine) (p0 p' : Pending) (i i' : Held)
    (out0 reported0 out reported out' reported' : Option (List ℕ)) → Running w e0 p0 out0 reported0 e i out reported
    → Moves (i.pending).may_follow e' p' turns.GoesOn
    (λ z more o m. moved (configuration o m e (longer z more i.pending))) → p'.may_follow ≡ (i.pending).may_follow
    → i'.pending ≡ p' → IsReady i' → e'.limits ≡ e.limits → FlushesDue e' e2 (writers out out' reported reported')
    → Running w e0 p0 out0 reported0 e2 i' out' reported'
goes_on w e0 e e' e2 p0 p' i i' out0 reported0 out reported out' reported' r h g s q l d =
    let f = due_some e' e2 out out' reported reported' d in
    let on : Leads w e0 p0 wanted.Token e2 p' (r.o ++ f.front) (r.m ++ f.reported) =
    leads_then w wanted.Token wanted.Token e0 e' e2 p0 p' p' r.o r.m f.front f.reported
    (leads_on w wanted.Token wanted.Token e0 e e' p0 i.pending p' r.o r.m r.leads (leads_turn e e' i.pending p' g l h))
    (leads_flushed wanted.Token e' e2 p' f.front f.reported f.held) in
    record {
      o = r.o ++ f.front;
      m = r.m ++ f.reported;
      written = more_written r.o r.m f.front f.reported out0 out out' reported0 reported reported' r.written f.output f.messages;
      marked = mark_due w e0 e' e2 p0 p' r.o r.m out out' reported reported' r.marked d on;
      leads = subst (λ (x : Pending). Leads w e0 p0 wanted.Token e2 x (r.o ++ f.front) (r.m ++ f.reported)) (sym s) on;
      ready = q;
    }

pub went_on : (w : Wanted) (e0 e e' e2 : Engine) (p0 : Pending) (i i' : Held)
    (out0 reported0 out reported out' reported' : Option (List ℕ)) (t : Turned)
    → Running w e0 p0 out0 reported0 e i out reported
    → Moves (i.pending).may_follow e' i'.pending t
    (λ z more o m. moved (configuration o m e (longer z more i.pending))) → StaysBy i i' t → t ≡ turns.GoesOn
    → e'.limits ≡ e.limits → FlushesDue e' e2 (writers out out' reported reported')
    → Running w e0 p0 out0 reported0 e2 i' out' reported'
went_on w e0 e e' e2 p0 i i' out0 reported0 out reported out' reported' t r h y k l f =
    let s = subst (StaysBy i i') k y in
    goes_on w e0 e e' e2 p0 i'.pending i i' out0 reported0 out reported out' reported' r
    (subst (λ (x : Turned). Moves (i.pending).may_follow e' i'.pending x
    (λ z more o m. moved (configuration o m e (longer z more i.pending)))) k h) s.follows refl s.ready l f

-- the same after a line that was in hand
pub went_past_line : (w : Wanted) (e0 e e' e2 : Engine) (p0 : Pending) (i k i' : Held)
    (out0 reported0 out reported out' reported' : Option (List ℕ)) (t : Turned)
    → Running w e0 p0 out0 reported0 e i out reported
    → Moves (i.pending).may_follow e' k.pending t
    (λ z more o m. moved (configuration o m e (longer z more i.pending))) → StaysBy i k t → t ≡ turns.SkipsLine
    → e'.limits ≡ e.limits → FlushesDue e' e2 (writers out out' reported reported') → LineGives k i' true
    → Running w e0 p0 out0 reported0 e2 i' out' reported'
went_past_line w e0 e e' e2 p0 i k i' out0 reported0 out reported out' reported' t r h y g l f d =
    let s = subst (StaysBy i k) g y in
    goes_on w e0 e e' e2 p0 i'.pending i i' out0 reported0 out reported out' reported' r
    (line_goes (i.pending).may_follow e' k.pending i'.pending _ (sym s.follows) d.0
    (subst (λ (x : Turned). Moves (i.pending).may_follow e' k.pending x
    (λ z more o m. moved (configuration o m e (longer z more i.pending)))) g h))
    (line_keeps k.pending i'.pending d.0 ∙ s.follows) refl (ready_after_line k i' s.ready d) l f

-- the measure falls at both
pub fell : (e e1 e' e2 : Engine) (i i1 i' : Held) (out out' reported reported' : Option (List ℕ)) (t : Turned)
    → Passes e e1 i i1
    → Moves (i1.pending).may_follow e' i'.pending t
    (λ z more o m. moved (configuration o m e1 (longer z more i1.pending))) → StaysBy i1 i' t → t ≡ turns.GoesOn
    → FlushesDue e' e2 (writers out out' reported reported') → turns_of e2 i'.pending < turns_of e i.pending
fell e e1 e' e2 i i1 i' out out' reported reported' t w h y k due =
    let f = due_some e' e2 out out' reported reported' due in
    let s = subst (StaysBy i1 i') k y in
    let a : turns_of e2 i'.pending < turns_of e1 i1.pending =
    move_falls e1 e' e2 i1.pending i'.pending f.front f.reported s.follows f.held
    (subst (λ (x : Turned). Moves (i1.pending).may_follow e' i'.pending x
    (λ z more o m. moved (configuration o m e1 (longer z more i1.pending)))) k h) in
    let b : turns_of e1 i1.pending ≤ turns_of e i.pending = (passes_reaches e e1 i i1 w).turns in
    omega arith

pub fell_past_line : (e e1 e' e2 : Engine) (i i1 k i' : Held) (out out' reported reported' : Option (List ℕ))
    (t : Turned) → Passes e e1 i i1
    → Moves (i1.pending).may_follow e' k.pending t
    (λ z more o m. moved (configuration o m e1 (longer z more i1.pending))) → StaysBy i1 k t → t ≡ turns.SkipsLine
    → FlushesDue e' e2 (writers out out' reported reported') → LineGives k i' true
    → turns_of e2 i'.pending < turns_of e i.pending
fell_past_line e e1 e' e2 i i1 k i' out out' reported reported' t w h y g due d =
    let f = due_some e' e2 out out' reported reported' due in
    let s = subst (StaysBy i1 k) g y in
    let a : turns_of e2 i'.pending < turns_of e1 i1.pending =
    move_falls e1 e' e2 i1.pending i'.pending f.front f.reported (line_keeps k.pending i'.pending d.0 ∙ s.follows) f.held
    (line_goes (i1.pending).may_follow e' k.pending i'.pending _ (sym s.follows) d.0
    (subst (λ (x : Turned). Moves (i1.pending).may_follow e' k.pending x
    (λ z more o m. moved (configuration o m e1 (longer z more i1.pending)))) g h)) in
    let b : turns_of e1 i1.pending ≤ turns_of e i.pending = (passes_reaches e e1 i i1 w).turns in
    omega arith

all_held : (e : Engine) → e ≡ record (after_flush e) { output = e.output ++ []; messages = e.messages ++ [] }
all_held e =
    ap (λ (x : List ℕ). let d : Engine = record e { output = x } in d) (sym (append-nil e.output))
    ∙ ap (λ (x : List ℕ). let d : Engine = record e { output = e.output ++ []; messages = x } in d) (sym (append-nil e.messages))

-- a block of output that passes filled is written, before any message
pub filled_on : (w : Wanted) (e0 e e2 : Engine) (p0 : Pending) (i : Held)
    (out0 reported0 out reported out' : Option (List ℕ)) → Running w e0 p0 out0 reported0 e i out reported
    → e.messages ≡ [] → e2 ≡ after_flush e → out' ≡ with_bytes out e.output
    → Running w e0 p0 out0 reported0 e2 i out' reported
filled_on w e0 e e2 p0 i out0 reported0 out reported out' r q j f =
    let on : Leads w e0 p0 wanted.Token (after_flush e) i.pending (r.o ++ e.output) (r.m ++ e.messages) =
    leads_then w wanted.Token wanted.Token e0 e (after_flush e) p0 i.pending i.pending r.o r.m e.output e.messages
    r.leads (leads_flushed wanted.Token e (after_flush e) i.pending e.output e.messages (all_held e)) in
    subst (λ (x : Engine). Running w e0 p0 out0 reported0 x i out' reported) (sym j)
    (record {
      o = r.o ++ e.output;
      m = r.m ++ e.messages;
      written = more_written r.o r.m e.output e.messages out0 out out' reported0 reported reported r.written f
          (with_bytes-nil reported ∙ ap (λ (x : List ℕ). with_bytes reported x) (sym q));
      marked = mark_here w e0 (after_flush e) p0 i.pending (r.o ++ e.output) (r.m ++ e.messages) on refl;
      leads = on;
      ready = r.ready;
    })

-- and the measure falls
pub filled : (e e1 e2 : Engine) (i i1 : Held) → Passes e e1 i i1 → length e.output < 65536 → IsFull e1 → e2 ≡ after_flush e1
    → turns_of e2 i1.pending < turns_of e i.pending
filled e e1 e2 i i1 h few full j =
    subst (λ n. n < turns_of e i.pending) (sym (ap (λ (d : Engine). turns_of d i1.pending) j ∙ same_left e1 i1.pending))
    (filled_fall e e1 i i1 h few full)

-- ---- the ends of the loop

flushed_is : (e : Engine) → IsFlushed (after_flush e)
flushed_is e = record { output = refl; messages = refl }

-- what is made after a flush is the same
same_so_far : (a b : List ℕ) (e : Engine) → so_far_of (a ++ e.output) (b ++ e.messages) (after_flush e) ≡ so_far_of a b e
same_so_far a b e = rw (append-nil (a ++ e.output), append-nil (b ++ e.messages)) refl

-- a turn after which the expansion ends
pub ended : (w : Wanted) (e0 e e' e2 : Engine) (p0 p' : Pending) (i : Held)
    (out0 reported0 out reported out' reported' : Option (List ℕ)) (t : Turned) (end : TurnEnd)
    → Running w e0 p0 out0 reported0 e i out reported
    → Moves (i.pending).may_follow e' p' t (λ z more o m. moved (configuration o m e (longer z more i.pending)))
    → t ≡ turns.Ends end → e2 ≡ after_flush e' → e'.limits ≡ e.limits → out' ≡ with_bytes out e'.output
    → reported' ≡ with_bytes reported e'.messages
    → HandEnds w e0 p0 (cause_of_end end) e2 (writers out0 out' reported0 reported')
ended w e0 e e' e2 p0 p' i out0 reported0 out reported out' reported' t end r h k j l f g =
    subst (λ (x : Engine). HandEnds w e0 p0 (cause_of_end end) x (writers out0 out' reported0 reported')) (sym j)
    (record {
      o = r.o ++ e'.output;
      m = r.m ++ e'.messages;
      written = more_written r.o r.m e'.output e'.messages out0 out out' reported0 reported reported' r.written f g;
      ends = λ z more c a b.
          sym (leads_same w wanted.Token e0 e p0 i.pending r.o r.m r.leads z more c a b)
          ∙ end_means e e' i.pending p' z more (a ++ r.o) (b ++ r.m) end (subst (λ v. MayFollow v z more) (sym (r.leads).follows) c)
          (subst (λ (x : Turned). Moves (i.pending).may_follow e' p' x (λ z more o m. moved (configuration o m e (longer z more i.pending)))) k h)
          ∙ ap (λ (s : RunSoFar). Halted (let d : Ended = record { so_far = s; reason = Ends (cause_of_end end) } in d))
          (sym (same_so_far (a ++ r.o) (b ++ r.m) e')
          ∙ ap (λ (n : List ℕ). so_far_of n ((b ++ r.m) ++ e'.messages) (after_flush e')) (append_assoc a r.o e'.output)
          ∙ ap (λ (n : List ℕ). so_far_of (a ++ (r.o ++ e'.output)) n (after_flush e')) (append_assoc b r.m e'.messages));
      flushed = flushed_is e';
      limits = l ∙ (r.leads).limits;
    })

-- the bytes in hand don't decide the next token
pub needed : (w : Wanted) (e0 e e' e2 : Engine) (p0 : Pending) (i0 i i' : Held)
    (out0 reported0 out reported out' reported' : Option (List ℕ)) (t : Turned) → p0 ≡ i0.pending
    → Running w e0 p0 out0 reported0 e i out reported → IsTurned e e' i i' t → t ≡ turns.NeedsMore
    → e2 ≡ after_flush e' → out' ≡ with_bytes out e'.output → reported' ≡ with_bytes reported e'.messages
    → HandNeeds w e0 i0 wanted.Token e2 i' (writers out0 out' reported0 reported')
needed w e0 e e' e2 p0 i0 i i' out0 reported0 out reported out' reported' t p r y k j f g =
    let n : Needs e e' i i' = subst (IsTurned e e' i i') k y in
    let flushed : e2 ≡ after_flush e = j ∙ ap after_flush n.engine in
    let here = subst (λ (q : Pending). Leads w e0 q wanted.Token (after_flush e) i.pending (r.o ++ e.output) (r.m ++ e.messages)) p
    (leads_then w wanted.Token wanted.Token e0 e (after_flush e) p0 i.pending i.pending r.o r.m e.output e.messages
    r.leads (leads_flushed wanted.Token e (after_flush e) i.pending e.output e.messages (all_held e))) in
    subst (λ (x : Engine). HandNeeds w e0 i0 wanted.Token x i' (writers out0 out' reported0 reported')) (sym flushed)
    (subst (λ (x : Held). HandNeeds w e0 i0 wanted.Token (after_flush e) x (writers out0 out' reported0 reported')) (sym n.input)
    (record {
      o = r.o ++ e.output;
      m = r.m ++ e.messages;
      written = more_written r.o r.m e.output e.messages out0 out out' reported0 reported reported' r.written
          (f ∙ ap (λ (d : Engine). with_bytes out d.output) n.engine)
          (g ∙ ap (λ (d : Engine). with_bytes reported d.messages) n.engine);
      marked = inr (mark_here w e0 (after_flush e) i0.pending i.pending (r.o ++ e.output) (r.m ++ e.messages) here refl);
      leads = here;
      ready = r.ready;
      opened = sym (ap (λ (q : Pending). q.may_follow) p) ∙ sym (r.leads).follows ∙ n.follows;
      flushed = flushed_is e;
      undecided = λ a b.
          (rw (append-nil ((a ++ (r.o ++ e.output))), append-nil ((b ++ (r.m ++ e.messages)))) refl)
          ∙ ap (λ (x : List ℕ). comes_to wanted.Token
          (record (configuration [] [] e i.pending) {
            here = record (here_of [] [] e i.pending)
                { so_far = record (so_far_of [] [] e) { output = x; messages = b ++ (r.m ++ e.messages) } };
          }))
          (sym (append_assoc a r.o e.output))
          ∙ ap (λ (x : List ℕ). comes_to wanted.Token
          (record (configuration [] [] e i.pending) {
            here = record (here_of [] [] e i.pending)
                { so_far = record (so_far_of [] [] e) { output = (a ++ r.o) ++ e.output; messages = x } };
          }))
          (sym (append_assoc b r.m e.messages))
          ∙ sym (move_keeps Expansion Kept Ended turn join out_of_bound_at size_of calls_left falls (configuration (a ++ r.o) (b ++ r.m) e i.pending))
          ∙ ap (moved_meaning Expansion Kept Ended turn join expand) (n.undecided (a ++ r.o) (b ++ r.m))
          ∙ ap (λ (s : RunSoFar). Halted (let d : Ended = record { so_far = s; reason = NeedsInput } in d))
          (sym (same_so_far (a ++ r.o) (b ++ r.m) e)
          ∙ ap (λ (n : List ℕ). so_far_of n ((b ++ r.m) ++ e.messages) (after_flush e)) (append_assoc a r.o e.output)
          ∙ ap (λ (n : List ℕ). so_far_of (a ++ (r.o ++ e.output)) n (after_flush e)) (append_assoc b r.m e.messages));
    }))

-- the rest of a line is not in hand
line_undecided : (e : Engine) (p : Pending) (a b : List ℕ) → p.may_follow ≡ true → text_of p ≡ []
    → comes_to wanted.Line (configuration a b e p) ≡ Halted (record { so_far = so_far_of a b e; reason = NeedsInput })
line_undecided e p a b f h =
    ap (λ (x : List ℕ). resume Expansion Kept Ended turn join expand (outer_of e.open_calls) (then_on (skip_line (line_length x) (here_of a b e p)) expand)) h
    ∙ ap (λ (v : Bool). resume Expansion Kept Ended turn join expand (outer_of e.open_calls) (then_on (skip_all v (here_of a b e p)) expand)) f
    ∙ resume-halted Expansion Kept Ended turn join expand (outer_of e.open_calls) (record { so_far = so_far_of a b e; reason = NeedsInput })

line_needs : (w : Wanted) (e0 e : Engine) (i0 k j : Held) (o m : List ℕ) (c : Contents) → HasWritten o m c
    → IsMarked w e0 i0.pending o m → Leads w e0 i0.pending wanted.Line e k.pending o m → IsReady k → IsFlushed e
    → LineGives k j false → HandNeeds w e0 i0 wanted.Line e j c
line_needs w e0 e i0 k j o m c h n l r f d =
    subst (λ (x : Held). HandNeeds w e0 i0 wanted.Line e x c) (sym d.1)
    (record {
      o = o;
      m = m;
      written = h;
      marked = n;
      leads = leads_on w wanted.Line wanted.Line e0 e e i0.pending k.pending (all_read k.pending) o m l (leads_along_line e k.pending d.0);
      ready = record { sound = r.sound; front = tt };
      opened = sym l.follows ∙ line_open k.pending d.0;
      flushed = f;
      undecided = λ a b. line_undecided e (all_read k.pending) (a ++ o) (b ++ m) (line_open k.pending d.0) (all_gone k.pending);
    })

-- at the start
pub needs_line : (e : Engine) (i j : Held) (w : Wanted) (out reported : Option (List ℕ)) → w ≡ wanted.Line → IsReady i
    → IsFlushed e → LineGives i j false → HandNeeds w e i wanted.Line e j (writers out out reported reported)
needs_line e i j w out reported g r f d =
    subst (λ (x : Wanted). HandNeeds x e i wanted.Line e j (writers out out reported reported)) (sym g)
    (line_needs wanted.Line e e i i j [] [] (writers out out reported reported) (none_written out reported)
    (inl (refl, refl)) (leads_nowhere wanted.Line e i.pending) r f d)

-- a turn that skips a line was made
skips_line : (e e' : Engine) (i k : Held) (t : Turned) → t ≡ turns.SkipsLine → IsTurned e e' i k t
skips_line e e' i k t g = subst (IsTurned e e' i k) (sym g) tt

-- after a turn
pub needs_line_after : (w : Wanted) (e0 e e' e2 : Engine) (p0 : Pending) (i0 i k j : Held)
    (out0 reported0 out reported out' reported' : Option (List ℕ)) (t : Turned) → p0 ≡ i0.pending
    → Running w e0 p0 out0 reported0 e i out reported
    → Moves (i.pending).may_follow e' k.pending t
    (λ z more o m. moved (configuration o m e (longer z more i.pending))) → StaysBy i k t → t ≡ turns.SkipsLine
    → e'.limits ≡ e.limits → e.messages ≡ [] → e2 ≡ after_flush e' → out' ≡ with_bytes out e'.output
    → reported' ≡ with_bytes reported e'.messages → LineGives k j false
    → HandNeeds w e0 i0 wanted.Line e2 j (writers out0 out' reported0 reported')
needs_line_after w e0 e e' e2 p0 i0 i k j out0 reported0 out reported out' reported' t p r h y g l z n f q d =
    let s = subst (StaysBy i k) g y in
    subst (λ (x : Engine). HandNeeds w e0 i0 wanted.Line x j (writers out0 out' reported0 reported')) (sym n)
    (line_needs w e0 (after_flush e') i0 k j (r.o ++ e'.output) (r.m ++ e'.messages) (writers out0 out' reported0 reported')
    (more_written r.o r.m e'.output e'.messages out0 out out' reported0 reported reported' r.written f q)
    (inr (subst (λ (x : Pending). Marked w e0 x (r.o ++ e'.output) (r.m ++ e'.messages)) p
    (mark_flushed w e0 e e' p0 i k t r.o r.m r.leads h (skips_line e e' i k t g) z)))
    (leads_then w wanted.Line wanted.Line e0 e' (after_flush e') i0.pending k.pending k.pending r.o r.m e'.output e'.messages
    (leads_on w wanted.Token wanted.Line e0 e e' i0.pending i.pending k.pending r.o r.m
    (subst (λ (x : Pending). Leads w e0 x wanted.Token e i.pending r.o r.m) p r.leads)
    (leads_to_line e e' i.pending k.pending s.follows l
    (subst (λ (x : Turned). Moves (i.pending).may_follow e' k.pending x
    (λ z more o m. moved (configuration o m e (longer z more i.pending)))) g h)))
    (leads_flushed wanted.Line e' (after_flush e') k.pending e'.output e'.messages (all_held e')))
    s.ready (flushed_is e') d)

-- ---- where it breaks off

-- what a machine comes to continues what it has made
resume_keeps : (fs : List Kept) (v : Outcome Expansion Ended) → Extends (so_far_in v) (so_far_in (resume Expansion Kept Ended turn join expand fs v))
resume_keeps [] v = extends_same (so_far_in v)
resume_keeps (f ∷ fs) v = extends_more _ _ _ (list_keeps f v) (resume_keeps fs (then_on (then_on v (join f)) expand))

meaning_keeps : (o m : List ℕ) (e : Engine) (p : Pending) → Extends (so_far_of o m e) (so_far_in (meaning_of o m e p))
meaning_keeps o m e p = extends_more _ _ _ (whole_keeps (here_of o m e p)) (resume_keeps (outer_of e.open_calls) (expand (here_of o m e p)))

skip_makes : (o : Option ℕ) (s : Expansion) → Extends s.so_far (so_far_in (skip_line o s))
skip_makes (Some n) s = extends_same s.so_far
skip_makes None s = by_end (s.pending).may_follow
  where
    by_end : (b : Bool) → Extends s.so_far (so_far_in (skip_all b s))
    by_end true = extends_same s.so_far
    by_end false = extends_same s.so_far

line_makes : (o m : List ℕ) (e : Engine) (p : Pending) → Extends (so_far_of o m e) (so_far_in (comes_to wanted.Line (configuration o m e p)))
line_makes o m e p =
    let v : Outcome Expansion Ended = skip_line (line_length (text_of p)) (here_of o m e p) in
    extends_more _ _ _ (skip_makes (line_length (text_of p)) (here_of o m e p))
    (extends_more _ _ _ (then_keeps v expand whole_keeps) (resume_keeps (outer_of e.open_calls) (then_on v expand)))

-- what was written is a part of what is made
has_made : (a b o m x y : List ℕ) (e : Engine) (r : RunSoFar) (x' y' : List ℕ) → e.output ≡ x ++ x'
    → e.messages ≡ y ++ y' → Extends (so_far_of (a ++ o) (b ++ m) e) r → HasMade (a ++ (o ++ x)) (b ++ (m ++ y)) r
has_made a b o m x y e r x' y' f g k = record {
  x = x' ++ k.more;
  y = y' ++ k.reported;
  output = k.output ∙ ap (λ (n : List ℕ). ((a ++ o) ++ n) ++ k.more) f ∙ regroup a o x x' k.more;
  messages = k.messages ∙ ap (λ (n : List ℕ). ((b ++ m) ++ n) ++ k.reported) g ∙ regroup b m y y' k.reported;
}
  where
    regroup : (a o x y more : List ℕ) → ((a ++ o) ++ (x ++ y)) ++ more ≡ (a ++ (o ++ x)) ++ (y ++ more)
    regroup a o x y more =
        ap (λ n. n ++ more) (sym (append_assoc (a ++ o) x y))
        ∙ append_assoc ((a ++ o) ++ x) y more
        ∙ ap (λ n. n ++ (y ++ more)) (append_assoc a o x)

-- a turn is not made, and a beginning of what was buffered before it was written
pub breaks : (w : Wanted) (e0 e : Engine) (p0 : Pending) (i : Held) (out0 reported0 out reported out' : Option (List ℕ))
    → Running w e0 p0 out0 reported0 e i out reported → HasBegun out out' e.output
    → HandBreaks w e0 p0 (writers out0 out' reported0 reported)
breaks w e0 e p0 i out0 reported0 out reported out' r b = record {
  o = r.o ++ (b.1).front;
  m = r.m ++ [];
  written = more_written r.o r.m (b.1).front [] out0 out out' reported0 reported reported r.written (b.1).holds (with_bytes-nil reported);
  made = λ z more c x y.
      subst (λ (v : RunSoFar). HasMade (x ++ (r.o ++ (b.1).front)) (y ++ (r.m ++ [])) v)
      (ap so_far_in (leads_same w wanted.Token e0 e p0 i.pending r.o r.m r.leads z more c x y))
      (has_made x y r.o r.m (b.1).front [] e _ b.0 e.messages (b.1).parts refl (meaning_keeps (x ++ r.o) (y ++ r.m) e (longer z more i.pending)));
}

-- what a turn has made is a part of what the expansion comes to
turn_made : (e e' : Engine) (i j : Held) (z : List ℕ) (more : Bool) (o m : List ℕ) (t : Turned)
    → MayFollow (i.pending).may_follow z more
    → Moves (i.pending).may_follow e' j.pending t
    (λ z more o m. moved (configuration o m e (longer z more i.pending))) → IsTurned e e' i j t
    → Extends (so_far_of o m e') (so_far_in (meaning_of o m e (longer z more i.pending)))
turn_made e e' i j z more o m turns.GoesOn c h k =
    subst (λ v. Extends (so_far_of o m e') (so_far_in v)) (moved_on e e' i.pending j.pending z more o m c h) (meaning_keeps o m e' (longer z more j.pending))
turn_made e e' i j z more o m turns.SkipsLine c h k =
    subst (λ v. Extends (so_far_of o m e') (so_far_in v))
    (sym (popped Expansion Kept Ended turn join out_of_bound_at size_of calls_left falls (outer_of e'.open_calls)
    (skipped_first wanted.Line (here_of o m e' (longer z more j.pending))))
    ∙ ap (moved_meaning Expansion Kept Ended turn join expand) (sym (h z more c o m))
    ∙ move_keeps Expansion Kept Ended turn join out_of_bound_at size_of calls_left falls (configuration o m e (longer z more i.pending)))
    (line_makes o m e' (longer z more j.pending))
turn_made e e' i j z more o m turns.NeedsMore c h k =
    subst (λ (d : Engine). Extends (so_far_of o m d) (so_far_in (meaning_of o m e (longer z more i.pending))))
    (sym k.engine) (meaning_keeps o m e (longer z more i.pending))
turn_made e e' i j z more o m (turns.Ends cause) c h k =
    subst (λ v. Extends (so_far_of o m e') (so_far_in v)) (sym (end_means e e' i.pending j.pending z more o m cause c h)) (extends_same (so_far_of o m e'))

-- it can't be flushed: a part of it was
pub write_breaks : (w : Wanted) (e0 e e' : Engine) (p0 : Pending) (i j : Held) (t : Turned)
    (out0 reported0 out reported out' reported' : Option (List ℕ)) → Running w e0 p0 out0 reported0 e i out reported
    → Moves (i.pending).may_follow e' j.pending t
    (λ z more o m. moved (configuration o m e (longer z more i.pending))) → IsTurned e e' i j t
    → FlushesPrefix e'.output e'.messages (writers out out' reported reported')
    → HandBreaks w e0 p0 (writers out0 out' reported0 reported')
write_breaks w e0 e e' p0 i j t out0 reported0 out reported out' reported' r h k b = record {
  o = r.o ++ ((b.0).1).front;
  m = r.m ++ ((b.1).1).front;
  written = more_written r.o r.m ((b.0).1).front ((b.1).1).front out0 out out' reported0 reported reported' r.written ((b.0).1).holds ((b.1).1).holds;
  made = λ z more c x y.
      let c' : MayFollow (i.pending).may_follow z more = subst (λ v. MayFollow v z more) (sym (r.leads).follows) c in
      subst (λ (v : RunSoFar). HasMade (x ++ (r.o ++ ((b.0).1).front)) (y ++ (r.m ++ ((b.1).1).front)) v)
      (ap so_far_in (leads_same w wanted.Token e0 e p0 i.pending r.o r.m r.leads z more c x y))
      (has_made x y r.o r.m ((b.0).1).front ((b.1).1).front e' _ (b.0).0 (b.1).0 ((b.0).1).parts ((b.1).1).parts
      (turn_made e e' i j z more (x ++ r.o) (y ++ r.m) t c' h k));
}

-- the front of a turn's output is what was buffered before it, and the rest is its own
front_taken : (n : ℕ) (a b x : List ℕ) → n ≡ length a → b ≡ a ++ x → take n b ≡ a
front_taken n a b x l e = ap (take n) e ∙ take_at a x n (sym l)

front_dropped : (n : ℕ) (a b x : List ℕ) → n ≡ length a → b ≡ a ++ x → drop n b ≡ x
front_dropped n a b x l e = ap (λ v. drop v b) l ∙ drop-appended a b x e

-- a writer failed in the flush after a turn
pub write_breaks_in_order : (w : Wanted) (e0 e e' : Engine) (p0 : Pending) (i j : Held) (t : Turned) (earlier : ℕ)
    (out0 reported0 out reported out' reported' : Option (List ℕ)) → Running w e0 p0 out0 reported0 e i out reported
    → Moves (i.pending).may_follow e' j.pending t
    (λ z more o m. moved (configuration o m e (longer z more i.pending))) → IsTurned e e' i j t → e.messages ≡ []
    → earlier ≡ length e.output
    → IsInOrder (take earlier e'.output) (drop earlier e'.output) e'.messages (writers out out' reported reported')
    → BreaksInOrder w e0 p0 (writers out0 out' reported0 reported')
write_breaks_in_order w e0 e e' p0 i j t earlier out0 reported0 out reported out' reported' r h k q is order =
    let f = output_front e e' i j t h k in
    by f.0 f.1
    (subst (λ (n : List ℕ). IsInOrder e.output n e'.messages (writers out out' reported reported'))
    (front_dropped earlier e.output e'.output f.0 is f.1)
    (subst (λ (n : List ℕ). IsInOrder n (drop earlier e'.output) e'.messages (writers out out' reported reported'))
    (front_taken earlier e.output e'.output f.0 is f.1) order))
  where
    by : (own : List ℕ) → e'.output ≡ e.output ++ own
        → IsInOrder e.output own e'.messages (writers out out' reported reported')
        → BreaksInOrder w e0 p0 (writers out0 out' reported0 reported')
    by own g (inl b) = record {
      o = r.o ++ ((b.0).1).front;
      m = r.m;
      written = record {
        output = (more_written r.o r.m ((b.0).1).front [] out0 out out' reported0 reported reported r.written ((b.0).1).holds (with_bytes-nil reported)).output;
        messages = b.1 ∙ (r.written).messages;
      };
      marked = mark_front w e0 e p0 i.pending r.o r.m ((b.0).1).front (b.0).0 r.leads q ((b.0).1).parts;
    }
    by own g (inr (inl b)) = record {
      o = r.o ++ e.output;
      m = r.m ++ ((b.1).1).front;
      written = more_written r.o r.m e.output ((b.1).1).front out0 out out' reported0 reported reported' r.written b.0 ((b.1).1).holds;
      marked = mark_turn w e0 e e' p0 i j t r.o r.m ((b.1).1).front (b.1).0 r.leads h k q ((b.1).1).parts;
    }
    by own g (inr (inr b)) = record {
      o = r.o ++ (e.output ++ b.0);
      m = r.m ++ e'.messages;
      written = more_written r.o r.m (e.output ++ b.0) e'.messages out0 out out' reported0 reported reported' r.written b.2 b.3;
      marked = mark_own w e0 e e' p0 i j t r.o r.m b.0 (b.1).0 r.leads h k q
          (g ∙ ap (λ (v : List ℕ). e.output ++ v) (b.1).1 ∙ sym (append_assoc e.output b.0 (b.1).0));
    }

-- an allocation failed in a turn, and a beginning of what was buffered before it was written
pub lack_breaks_in_order : (w : Wanted) (e0 e : Engine) (p0 : Pending) (i : Held)
    (out0 reported0 out reported out' : Option (List ℕ)) → Running w e0 p0 out0 reported0 e i out reported
    → e.messages ≡ [] → HasBegun out out' e.output → BreaksInOrder w e0 p0 (writers out0 out' reported0 reported)
lack_breaks_in_order w e0 e p0 i out0 reported0 out reported out' r q b = record {
  o = r.o ++ (b.1).front;
  m = r.m;
  written = record {
    output = (more_written r.o r.m (b.1).front [] out0 out out' reported0 reported reported r.written (b.1).holds (with_bytes-nil reported)).output;
    messages = (r.written).messages;
  };
  marked = mark_front w e0 e p0 i.pending r.o r.m (b.1).front b.0 r.leads q (b.1).parts;
}

-- by the cause that giving it out ends with
begun_by : (x : List ℕ) (out out' : Option (List ℕ)) (cause : Cause) → GivesOut x out out' cause → HasBegun out out' x
begun_by x out out' causes.OutOfMemory g = all_begun out out' x g
begun_by x out out' causes.Write g = g
begun_by x out out' cause g = absurd g

-- what was kept of the buffer is what was buffered before
kept_front : (n : ℕ) (x all : List ℕ) (out out' : Option (List ℕ)) (cause : Cause) → n ≡ length x → HasFront x all
    → GivesOut (take n all) out out' cause → GivesOut x out out' cause
kept_front n x all out out' cause l h g = subst (λ (v : List ℕ). GivesOut v out out' cause) (front_taken n x all h.more l h.parts) g

-- an allocation failed in a turn, and what was buffered before it was given out
pub lack_gives : (w : Wanted) (e0 e e' new : Engine) (i0 i j : Held) (n : ℕ) (out0 reported0 out reported out' : Option (List ℕ)) (cause : Cause)
    → Running w e0 i0.pending out0 reported0 e i out reported → n ≡ length e.output → KeepsOutput e e'
    → GivesOut (take n e'.output) out out' cause
    → HandGives w e0 new i0 j (writers out0 out' reported0 reported) (pauses.Over cause)
lack_gives w e0 e e' new i0 i j n out0 reported0 out reported out' cause r l k g = by cause g
  where
    broken : HandBreaks w e0 i0.pending (writers out0 out' reported0 reported)
    broken = breaks w e0 e i0.pending i out0 reported0 out reported out' r
        (begun_by e.output out out' cause (kept_front n e.output e'.output out out' cause l k g))

    by : (c : Cause) → GivesOut (take n e'.output) out out' c → HandGives w e0 new i0 j (writers out0 out' reported0 reported) (pauses.Over c)
    by causes.OutOfMemory h = broken
    by causes.Write h = broken
    by c h = absurd h

pub lack_gives_in_order : (w : Wanted) (e0 e e' : Engine) (p0 : Pending) (i : Held) (n : ℕ) (out0 reported0 out reported out' : Option (List ℕ)) (cause : Cause)
    → Running w e0 p0 out0 reported0 e i out reported → e.messages ≡ [] → n ≡ length e.output → KeepsOutput e e'
    → GivesOut (take n e'.output) out out' cause
    → OrderBy w e0 p0 (writers out0 out' reported0 reported) (pauses.Over cause)
lack_gives_in_order w e0 e e' p0 i n out0 reported0 out reported out' cause r q l k g =
    if_broken cause (BreaksInOrder w e0 p0 (writers out0 out' reported0 reported))
    (lack_breaks_in_order w e0 e p0 i out0 reported0 out reported out' r q
    (begun_by e.output out out' cause (kept_front n e.output e'.output out out' cause l k g)))

-- it failed as often as its cause says
pub lack_counted : (x : List ℕ) (before after : Option (List ℕ)) (cause : Cause) (out0 out out' reported0 reported : ℕ)
    → GivesOut x before after cause → ByCause cause (out' ≡ out) (out' ≡ one_more out)
    → out ≡ out0 → reported ≡ reported0 → FailsBy cause (writers out0 out' reported0 reported)
lack_counted x before after causes.OutOfMemory out0 out out' reported0 reported g k f h = (k ∙ f, h)
lack_counted x before after causes.Write out0 out out' reported0 reported g k f h = inl (k ∙ ap one_more f, h)
lack_counted x before after cause out0 out out' reported0 reported g k f h = absurd g

pub in_order_end : (w : Wanted) (e : Engine) (p : Pending) (c : Contents) (end : TurnEnd) → OrderBy w e p c (pauses.Over (cause_of_end end))
in_order_end w e p c turn_ends.Done = tt
in_order_end w e p c end = tt

-- ---- by the answers of calls

pub line_done_by : (i j : Held) (v w : Bool) → v ≡ w → LineGives i j v → LineGives i j w
line_done_by i j v w e h = subst (LineGives i j) e h

-- a turn ends an expansion by no fault of a device or of an allocation
hand_ends_so : (w : Wanted) (old new : Engine) (i j : Held) (c : Contents) (end : TurnEnd)
    → HandEnds w old i.pending (cause_of_end end) new c → HandGives w old new i j c (pauses.Over (cause_of_end end))
hand_ends_so w old new i j c turn_ends.Done h = h
hand_ends_so w old new i j c end h = h

pub hand_ends : (w : Wanted) (old new : Engine) (i j : Held) (c : Contents) (end : TurnEnd) (cause : Cause)
    → cause ≡ cause_of_end end → HandEnds w old i.pending (cause_of_end end) new c → HandGives w old new i j c (pauses.Over cause)
hand_ends w old new i j c end cause k h = subst (λ (x : Cause). HandGives w old new i j c (pauses.Over x)) (sym k) (hand_ends_so w old new i j c end h)

-- the loop begins, by what is wanted
pub begins_so : (e : Engine) (i k : Held) (w : Wanted) (out reported : Option (List ℕ)) → w ≡ wanted.Token → k ≡ i
    → IsReady i → IsFlushed e → Running w e i.pending out reported e k out reported
begins_so e i k w out reported h g r f =
    subst (λ (x : Wanted). Running x e i.pending out reported e k out reported) (sym h)
    (subst (λ (x : Held). Running wanted.Token e i.pending out reported e x out reported) (sym g) (begins_at_token e i out reported r f))

pub begins_past : (e : Engine) (i j k : Held) (w : Wanted) (out reported : Option (List ℕ)) → w ≡ wanted.Line → k ≡ j
    → IsReady i → IsFlushed e → LineGives i j true → Running w e i.pending out reported e k out reported
begins_past e i j k w out reported h g r f d =
    subst (λ (x : Wanted). Running x e i.pending out reported e k out reported) (sym h)
    (subst (λ (x : Held). Running wanted.Line e i.pending out reported e x out reported) (sym g) (begins_after_line e i j out reported r f d))

-- what is made from a place on continues what was made before it
pub comes_keeps : (w : Wanted) (o m : List ℕ) (e : Engine) (p : Pending) → Extends (so_far_of o m e) (so_far_in (comes_to w (configuration o m e p)))
comes_keeps wanted.Token o m e p = meaning_keeps o m e p
comes_keeps wanted.Line o m e p = line_makes o m e p
