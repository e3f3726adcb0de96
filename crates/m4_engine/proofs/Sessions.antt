-- Sessions: what a session's calls make of what the machine leaves.
use Rattle.std.proofs.Common.{◌≡◌, ◌⊎◌, arith, inl, inr, ℕ, Bool, true, false, List, [], ◌++◌, Option, Some, None}
use Rattle.std.proofs.Common.{refl, sym, ap, ◌∙◌, subst}
use Rattle.std.specs.Prelude.{Result, Ok, Err}
use Rattle.m4_state.proofs.CallerLaws.{with_bytes-nil}
use Rattle.m4_state.specs.State.{State, IsSized}
use Rattle.m4_state.specs.Device.{Script, with_bytes, HasBegun, one_more}
use Rattle.m4_input.specs.Pending.{Pending}
use Rattle.m4_input.specs.Input.{Held, unread_file, wrapped_pending, wrapped_text, longer, Reads}
use Rattle.m4_frozen.specs.Freeze.{freeze}
use Rattle.m4_engine.specs.declared.ending.Cause.{Cause}
use Rattle.m4_engine.specs.declared.ending.Cause.TheVariants as causes
use Rattle.m4_engine.specs.declared.stop.Stop.{Stop}
use Rattle.m4_engine.specs.declared.stop.Stop.TheVariants as stops
use Rattle.m4_engine.specs.Expansion.{Expansion, EndReason, Ends, NeedsInput, Ended}
use Rattle.m4_engine.specs.Expand.{expand, expansion_of, ended_of}
use Rattle.m4_engine.specs.Nesting.{Outcome, Halted, Closed}
use Rattle.m4_engine.proofs.Growth.{longer_level, Begins}
use Rattle.m4_engine.proofs.Continues.{law}
use Rattle.m4_engine.specs.File.{Progress, file_pending, over_of, over_by, after_input}
use Rattle.m4_engine.specs.Run.{closed_output, result_of}
use Rattle.m4_engine.specs.Wraps.{joined_back, after_wraps, close}
use Rattle.m4_engine.proofs.Begins.{nothing_begun}
use Rattle.m4_engine.specs.Engine.{Engine}
use Rattle.m4_engine.specs.Turns.{MayFollow}
use Rattle.m4_engine.proofs.Longer.{closed_same, nothing_more, nothing_follows}
use Rattle.m4_engine.specs.Expands.{made_before, input_expansion, Expanded, LastAsked, ReadSo, Fell, Expands, ReadsBy}
use Rattle.m4_engine.specs.Expands.{at_rest}
use Rattle.m4_engine.specs.Session.{SessionState, progress_of, written, how_over, IsOpen, Completed, FileDone}
use Rattle.m4_engine.specs.Session.{FileAsked, FileEnded, FileBroke, FileFell, FileGives}
use Rattle.m4_engine.specs.Session.{session_after_wraps, last_state, Unfinished}
use Rattle.m4_engine.specs.Session.{EndGives, FinishGives, FreezeBegan, FreezeGives}
use Rattle.m4_engine.specs.SessionFailures.{ReadFails}
use Rattle.m4_engine.specs.Writers.{Contents, Three, Broken, writers, HasWritten}
use Rattle.m4_engine.specs.SessionSteps.{BrokeOff, WrapsGive, round_of, answer_by, over_after, CloseGives}

-- the session as the machine and the rest of it give it
abbrev pub session_of : Engine → Bool → Option Cause → Bool → SessionState
session_of e any_missing over finished = record {
  limits = e.limits;
  state = e.state;
  saved = e.saved;
  calls = e.calls;
  any_missing = any_missing;
  over = over;
  finished = finished;
}

-- the progress after a file that ended by a cause
abbrev progress_with : State → List (List ℕ) → ℕ → Option EndReason → Bool → Progress
progress_with s saved calls over any_missing = record {
  so_far = record { state = s; output = []; messages = []; saved = saved; calls = calls };
  over = over;
  any_missing = any_missing;
}

progress_after : (new : Engine) (any_missing : Bool) (over : Option Cause) (cause : Cause) (d : Ended)
    → d.reason ≡ Ends cause → new.state ≡ (d.so_far).state → new.saved ≡ (d.so_far).saved
    → new.calls ≡ (d.so_far).calls → how_over over ≡ over_by cause
    → progress_of (session_of new any_missing over false) ≡ written (after_input d any_missing)
progress_after new any_missing over cause d h s v n o =
    ap (λ (x : State). progress_with x new.saved new.calls (how_over over) any_missing) s
    ∙ ap (λ (x : List (List ℕ)). progress_with (d.so_far).state x new.calls (how_over over) any_missing) v
    ∙ ap (λ (x : ℕ). progress_with (d.so_far).state (d.so_far).saved x (how_over over) any_missing) n
    ∙ ap (λ (x : Option EndReason). progress_with (d.so_far).state (d.so_far).saved (d.so_far).calls x any_missing) (o ∙ sym (ap over_of h))

-- an input was read to an end
input_done : (old : SessionState) (e0 e1 : Engine) (any_missing : Bool) (over : Option Cause) (cause : Cause)
    (d : Ended) (w : Contents) → IsOpen old → e0.limits ≡ old.limits → Expanded e0 e1 d cause w
    → how_over over ≡ over_by cause
    → Completed old (session_of (at_rest e1) any_missing over false) (after_input d any_missing) w
input_done old e0 e1 any_missing over cause d w l e k o = record {
  live = l;
  limits = k.limits ∙ e;
  unfinished = refl;
  progress = progress_after (at_rest e1) any_missing over cause d k.reason k.state k.saved k.calls o;
  output = k.output;
  messages = k.messages;
}

-- the expansion of an input that was read to its end, by the cause
abbrev ClosedExpands : Engine → Engine → Pending → Contents → Cause → Type 0
ClosedExpands old new p w (causes.Frozen fault) = ⊥
ClosedExpands old new p w causes.Read = ⊥
ClosedExpands old new p w causes.Write = Broken (input_expansion old p) w
ClosedExpands old new p w causes.OutOfMemory = Broken (input_expansion old p) w
ClosedExpands old new p w cause = Expanded old new (input_expansion old p) cause w

not_open : (b c : Bool) → (b ≡ true → c ≡ true) → c ≡ false → b ≡ false
not_open true c h e = let f : c ≡ true = h refl in cc
not_open false c h e = refl

-- all of it is in hand
pub closed_rest : (p q : Pending) (before after : Option Script) (x : List ℕ) → p.may_follow ≡ false
    → Reads before after p x q → (q.may_follow ≡ false) × (longer [] false q ≡ p)
closed_rest p q before after x c r =
    let still : q.may_follow ≡ false = not_open q.may_follow p.may_follow r.still c in
    (still, closed_same q still ∙ r.in_hand ∙ ap (λ (b : Bool). longer x b p) still ∙ ap (λ (y : List ℕ). longer y false p) (r.closed c).0 ∙ closed_same p c)

-- nothing follows it, and its reader is not asked
closed_so : (old : Engine) (p : Pending) (before after : Option Script) (w : Contents) (P : Ended → Type 0)
    → p.may_follow ≡ false → ReadSo old p before after w P → (after ≡ before) × P (input_expansion old p)
closed_so old p before after w P c r =
    let k = closed_rest p r.q before after r.x c r.reads in (
      ((r.reads).closed c).1,
      subst (λ (q : Pending). P (input_expansion old q)) k.1
          (r.so [] false (subst (λ (b : Bool). MayFollow b [] false) (sym k.0) (refl, refl))),
    )

closed_fell : (old : Engine) (p : Pending) (before after : Option Script) (w : Contents) → p.may_follow ≡ false → Fell old p before after w → ⊥
closed_fell old p before after w c f =
    let still : p.may_follow ≡ true = (f.reads).still refl in
    let both : true ≡ false = sym still ∙ c in
    cc

pub closed_expands : (old new : Engine) (p : Pending) (before after : Option Script) (w : Contents) (cause : Cause)
    → p.may_follow ≡ false → Expands old new p before after w cause → (after ≡ before) × ClosedExpands old new p w cause
closed_expands old new p before after w (causes.Frozen f) c h = absurd h
closed_expands old new p before after w causes.Read c h = absurd (closed_fell old p before after w c h)
closed_expands old new p before after w cause c h = closed_so old p before after w _ c h

-- a file's reader failed where the expansion says so
pub expand_reads : (cause : Cause) (old mid new : ℕ) → mid ≡ old → ReadsBy cause mid new → ReadFails (answer_by cause) old new
expand_reads causes.Read old mid new e h = h ∙ ap one_more e
expand_reads cause old mid new e h = h ∙ e

pub file_reads : (cause : Cause) (result : Result Unit Stop) (old mid new : ℕ) → result ≡ answer_by cause → mid ≡ old
    → ReadsBy cause mid new → ReadFails result old new
file_reads cause result old mid new r e h = subst (λ (x : Result Unit Stop). ReadFails x old new) (sym r) (expand_reads cause old mid new e h)

-- ---- a file

-- an expansion with an open end does not come to the end of its input
open_goes_on : (o v : Outcome Expansion Ended) → Begins [] true o v → (ended_of o).reason ≡ Ends causes.Done → ⊥
open_goes_on (Halted d) v (inl h) e = let k : NeedsInput ≡ Ends causes.Done = sym h.0 ∙ e in cc
open_goes_on (Halted d) v (inr h) e = h.1 e
open_goes_on (Closed s) v h e = cc

never_done : (e0 : Engine) (q : Pending) → q.may_follow ≡ true → (input_expansion e0 q).reason ≡ Ends causes.Done → ⊥
never_done e0 q f h =
    let s : Expansion = expansion_of e0.limits (made_before e0) q in
    open_goes_on (expand s) (expand (longer_level [] true s)) (law [] true s f) h

by_flag : (b : Bool) → (b ≡ true → ⊥) → b ≡ false
by_flag true h = absurd (h refl)
by_flag false h = refl

pub may_end : (b : Bool) (z : List ℕ) → (b ≡ false → z ≡ []) → MayFollow b z false
may_end true z h = tt
may_end false z h = (h refl, refl)

-- the input of a file, and what may follow it
pub taken_file : (name x : List ℕ) (before after : Option Script) (q : Pending) (z : List ℕ) (more : Bool)
    → Reads before after (unread_file name).pending x q → longer z more q ≡ file_pending name (x ++ z) more
taken_file name x before after q z more r = ap (longer z more) r.in_hand

-- the same where more may follow
open_file : (name x : List ℕ) (before after : Option Script) (q : Pending) → q.may_follow ≡ true
    → Reads before after (unread_file name).pending x q → longer [] q.may_follow q ≡ file_pending name x true
open_file name x before after q f r = nothing_more q ∙ r.in_hand ∙ ap (λ (b : Bool). longer x b (unread_file name).pending) f

-- a file was read to an end
file_done : (e0 e1 : Engine) (any_missing : Bool) (name : List ℕ) (before after : Option Script) (w : Contents)
    → ReadSo e0 (unread_file name).pending before after w (λ d. Expanded e0 e1 d causes.Done w)
    → FileDone name before after (session_of e0 any_missing None false)
    (session_of (at_rest e1) any_missing None false) w
file_done e0 e1 any_missing name before after w r =
    let still : (r.q).may_follow ≡ false = by_flag (r.q).may_follow (λ f. never_done e0 r.q f
    (ap (λ (q : Pending). (input_expansion e0 q).reason) (sym (nothing_more r.q)) ∙ (r.so [] (r.q).may_follow (nothing_follows (r.q).may_follow)).reason)) in
    let whole : r.q ≡ file_pending name r.x false = (r.reads).in_hand ∙ ap (λ (b : Bool). longer r.x b (unread_file name).pending) still in
    let k : Expanded e0 e1 (input_expansion e0 r.q) causes.Done w =
    subst (λ (q : Pending). Expanded e0 e1 (input_expansion e0 q) causes.Done w) (nothing_more r.q)
    (r.so [] (r.q).may_follow (nothing_follows (r.q).may_follow)) in (
      r.x,
      (r.reads).given,
      (r.reads).at_end refl still,
      input_done (session_of e0 any_missing None false) e0 e1 any_missing None causes.Done
          (input_expansion e0 (file_pending name r.x false)) w (record { over = refl; unfinished = refl }) refl
          (subst (λ (q : Pending). Expanded e0 e1 (input_expansion e0 q) causes.Done w) whole k) refl,
      refl,
    )

-- where its last bytes were asked for; where it gave none, all that was made before is settled
file_asked : (e0 : Engine) (any_missing : Bool) (name x o m : List ℕ) (w : Contents) → HasWritten o m w
    → (x ≡ []) ⊎ LastAsked e0 (unread_file name).pending x w → FileAsked (session_of e0 any_missing None false) name x w
file_asked e0 any_missing name x o m w h (inl n) = record {
  asked = [];
  last = [];
  parts = n;
  within = omega arith;
  undecided = refl;
  written = record { more = o; output = h.output; more_messages = m; messages = h.messages };
}
file_asked e0 any_missing name x o m w h (inr a) = record {
  asked = a.asked;
  last = a.last;
  parts = a.parts;
  within = a.within;
  undecided = a.undecided;
  written = record {
    more = (a.written).more;
    output = (a.written).output;
    more_messages = (a.written).more_messages;
    messages = (a.written).messages;
  };
}

-- what was read ended the run
file_ended : (e0 e1 : Engine) (any_missing : Bool) (name : List ℕ) (cause : Cause) (before after : Option Script)
    (w : Contents) → how_over (Some cause) ≡ over_by cause
    → ReadSo e0 (unread_file name).pending before after w (λ d. Expanded e0 e1 d cause w)
    → FileEnded name before after (session_of e0 any_missing None false)
    (session_of (at_rest e1) any_missing (Some cause) false) w cause
file_ended e0 e1 any_missing name cause before after w o r = (
  record {
    x = r.x;
    may_follow = (r.q).may_follow;
    given = (r.reads).given;
    at_end = λ e. (r.reads).at_end refl e;
    asked =
        let k = r.so [] (r.q).may_follow (nothing_follows (r.q).may_follow) in
        file_asked e0 any_missing name r.x _ _ w (record { output = k.output; messages = k.messages }) r.asked;
    so = λ z e. input_done (session_of e0 any_missing None false) e0 e1 any_missing (Some cause) cause
        (input_expansion e0 (file_pending name (r.x ++ z) false)) w (record { over = refl; unfinished = refl }) refl
        (subst (λ (q : Pending). Expanded e0 e1 (input_expansion e0 q) cause w)
        (taken_file name r.x before after r.q z false r.reads) (r.so z false (may_end (r.q).may_follow z e))) o;
  },
  refl,
  λ f. (subst (λ (q : Pending). Expanded e0 e1 (input_expansion e0 q) cause w)
      (open_file name r.x before after r.q f r.reads) (r.so [] (r.q).may_follow (nothing_follows (r.q).may_follow))).reason,
)

-- a file broke off
file_broke : (e0 e1 : Engine) (any_missing : Bool) (name : List ℕ) (cause : Cause) (before after : Option Script)
    (w : Contents) → ReadSo e0 (unread_file name).pending before after w (λ d. Broken d w)
    → FileBroke name before after (session_of e0 any_missing None false)
    (session_of (at_rest e1) any_missing (Some cause) false) w cause
file_broke e0 e1 any_missing name cause before after w r = (
  record {
    x = r.x;
    may_follow = (r.q).may_follow;
    given = (r.reads).given;
    at_end = λ e. (r.reads).at_end refl e;
    asked =
        let k = r.so [] (r.q).may_follow (nothing_follows (r.q).may_follow) in
        file_asked e0 any_missing name r.x _ _ w (record { output = ((k.output).1).holds; messages = ((k.messages).1).holds }) r.asked;
    so = λ z e. subst (λ (q : Pending). Broken (input_expansion e0 q) w)
        (taken_file name r.x before after r.q z false r.reads) (r.so z false (may_end (r.q).may_follow z e));
  },
  record { live = record { over = refl; unfinished = refl }; over = refl },
)

-- its reader failed
file_fell : (e0 e1 : Engine) (any_missing : Bool) (name : List ℕ) (before after : Option Script) (w : Contents)
    → Fell e0 (unread_file name).pending before after w
    → FileFell name before after (session_of e0 any_missing None false)
    (session_of (at_rest e1) any_missing (Some causes.Read) false) w
file_fell e0 e1 any_missing name before after w f = record {
  x = f.x;
  given = (f.reads).given;
  at_fault = f.at_fault;
  interrupted = record { live = record { over = refl; unfinished = refl }; over = refl };
  reason = f.reason;
  output = f.output;
  messages = f.messages;
}

by_cause : (e0 e1 : Engine) (any_missing : Bool) (name : List ℕ) (cause : Cause) (before after : Option Script)
    (w : Contents) → Expands e0 e1 (unread_file name).pending before after w cause
    → FileGives name before after (session_of e0 any_missing None false)
    (session_of (at_rest e1) any_missing (over_after cause None) false) w (answer_by cause)
by_cause e0 e1 any_missing name causes.Done before after w d = file_done e0 e1 any_missing name before after w d
by_cause e0 e1 any_missing name (causes.Frozen f) before after w d = absurd d
by_cause e0 e1 any_missing name causes.Read before after w d = file_fell e0 e1 any_missing name before after w d
by_cause e0 e1 any_missing name causes.Write before after w d = file_broke e0 e1 any_missing name causes.Write before after w d
by_cause e0 e1 any_missing name causes.OutOfMemory before after w d = file_broke e0 e1 any_missing name causes.OutOfMemory before after w d
by_cause e0 e1 any_missing name cause before after w d = file_ended e0 e1 any_missing name cause before after w refl d

-- a session that goes on
open_is : (old : SessionState) (e0 : Engine) (any_missing : Bool) (over : Option Cause) (finished : Bool)
    → old ≡ session_of e0 any_missing over finished → IsOpen old → (over ≡ None) × (finished ≡ false)
open_is old e0 any_missing over finished o l =
    (sym (ap (λ (s : SessionState). s.over) o) ∙ l.over, sym (ap (λ (s : SessionState). s.finished) o) ∙ l.unfinished)

-- a session before an input and after it, and the answer, as the clause of the call has them
module _ (To : SessionState → SessionState → Result Unit Stop → Type 0) (old new : SessionState) (e0 e1 e2 : Engine)
    (any_missing : Bool) (over : Option Cause) (finished : Bool) (cause : Cause) (result : Result Unit Stop) where
  unchanged_session : old ≡ session_of e0 any_missing over finished → IsOpen old → e2 ≡ at_rest e1
      → new ≡ session_of e2 any_missing (over_after cause over) finished → result ≡ answer_by cause
      → To (session_of e0 any_missing None false) (session_of (at_rest e1) any_missing (over_after cause None) false)
      (answer_by cause) → To old new result
  unchanged_session o l z v r g =
      let k = open_is old e0 any_missing over finished o l in
      let o' : old ≡ session_of e0 any_missing None false = o ∙ ap (λ x. session_of e0 any_missing x finished) k.0
      ∙ ap (λ x. session_of e0 any_missing None x) k.1 in
      let v' : new ≡ session_of (at_rest e1) any_missing (over_after cause None) false =
      v ∙ ap (λ (x : Engine). session_of x any_missing (over_after cause over) finished) z
      ∙ ap (λ x. session_of (at_rest e1) any_missing (over_after cause x) finished) k.0
      ∙ ap (λ x. session_of (at_rest e1) any_missing (over_after cause None) x) k.1 in
      subst (λ (x : SessionState). To x new result) (sym o')
      (subst (λ (x : SessionState). To (session_of e0 any_missing None false) x result) (sym v')
      (subst (To (session_of e0 any_missing None false) (session_of (at_rest e1) any_missing (over_after cause None) false)) (sym r) g))

pub file_gives : (old new : SessionState) (e0 e1 e2 : Engine) (any_missing : Bool) (over : Option Cause)
    (finished : Bool) (name : List ℕ) (i : Held) (before after : Option Script) (w : Contents) (cause : Cause)
    (result : Result Unit Stop) → old ≡ session_of e0 any_missing over finished → IsOpen old → i ≡ unread_file name
    → Expands e0 e1 i.pending before after w cause → e2 ≡ at_rest e1
    → new ≡ session_of e2 any_missing (over_after cause over) finished → result ≡ answer_by cause
    → FileGives name before after old new w result
file_gives old new e0 e1 e2 any_missing over finished name i before after w cause result o l n d z v r =
    unchanged_session (λ a b x. FileGives name before after a b w x) old new e0 e1 e2 any_missing over finished cause result o l z v r
    (by_cause e0 e1 any_missing name cause before after w (subst (λ (h : Held). Expands e0 e1 h.pending before after w cause) n d))

-- a round over saved texts
module _ (old : SessionState) (e0 e1 : Engine) (any_missing : Bool) (p : Pending) (w : Contents) (l : IsOpen old) (e : e0.limits ≡ old.limits) where
  abbrev d : Ended
  d = input_expansion e0 p

  abbrev To : Cause → Type 0
  To cause = WrapsGive (after_input d any_missing) old (session_of (at_rest e1) any_missing (over_after cause None) false) w (answer_by cause)

  ends_by : (cause : Cause) → Expanded e0 e1 d cause w → how_over (Some cause) ≡ over_by cause
      → Completed old (session_of (at_rest e1) any_missing (Some cause) false) (after_input d any_missing) w
      × (Some cause ≡ Some cause)
  ends_by cause k o = (input_done old e0 e1 any_missing (Some cause) cause d w l e k o, refl)

  breaks_by : (cause : Cause) → Broken d w → BrokeOff (session_of (at_rest e1) any_missing (Some cause) false) (after_input d any_missing) w cause
  breaks_by cause k = record { over = refl; output = k.output; messages = k.messages }

  round_by : (cause : Cause) → ClosedExpands e0 e1 p w cause → To cause
  round_by causes.Done k = ((input_done old e0 e1 any_missing None causes.Done d w l e k refl, refl), tt)
  round_by (causes.Frozen f) k = absurd k
  round_by causes.Read k = absurd k
  round_by causes.Write k = (breaks_by causes.Write k, tt)
  round_by causes.OutOfMemory k = (breaks_by causes.OutOfMemory k, tt)
  round_by cause k = (ends_by cause k refl, tt)

pub round_gives : (old new : SessionState) (e0 ea e1 e2 : Engine) (any_missing : Bool) (over : Option Cause)
    (finished : Bool) (x : List ℕ) (i : Held) (before after : Option Script) (w : Contents) (cause : Cause)
    (result : Result Unit Stop) → old ≡ session_of e0 any_missing over finished → IsOpen old
    → ea ≡ record e0 { saved = [] } → x ≡ joined_back e0.saved → i ≡ wrapped_text x
    → Expands ea e1 i.pending before after w cause → e2 ≡ at_rest e1
    → new ≡ session_of e2 any_missing (over_after cause over) finished → result ≡ answer_by cause
    → WrapsGive (round_of old) old new w result
round_gives old new e0 ea e1 e2 any_missing over finished x i before after w cause result o l a j n d z v r =
    let taken : Engine = record e0 { saved = [] } in
    let p : Pending = wrapped_pending (joined_back e0.saved) in
    let k : Expands taken e1 p before after w cause =
    subst (λ (y : Engine). Expands y e1 p before after w cause) a
    (subst (λ (y : Pending). Expands ea e1 y before after w cause)
    (ap (λ (h : Held). h.pending) n ∙ ap wrapped_pending j) d) in
    unchanged_session (λ a b y. WrapsGive (round_of a) a b w y) old new e0 e1 e2 any_missing over finished cause result o l z v r
    (round_by (session_of e0 any_missing None false) taken e1 any_missing p w
    (record { over = refl; unfinished = refl }) refl cause (closed_expands taken e1 p before after w cause refl k).1)

-- a round whose text could not be made
lacked_by : (new : SessionState) (p : Progress) (w : Contents) → new.over ≡ Some causes.OutOfMemory
    → w.out_new ≡ w.out_old → w.messages_new ≡ w.messages_old → BrokeOff new p w causes.OutOfMemory
lacked_by new p w v o m = record {
  over = v;
  output = subst (λ x. HasBegun w.out_old x (p.so_far).output) (sym o) (nothing_begun w.out_old (p.so_far).output);
  messages = subst (λ x. HasBegun w.messages_old x (p.so_far).messages) (sym m) (nothing_begun w.messages_old (p.so_far).messages);
}

pub round_lacked : (old new : SessionState) (w : Contents) (r : Result Unit Stop)
    → r ≡ Err (stops.Ended causes.OutOfMemory) → new.over ≡ Some causes.OutOfMemory → w.out_new ≡ w.out_old
    → w.messages_new ≡ w.messages_old → WrapsGive (round_of old) old new w r
round_lacked old new w r i v o m =
    subst (λ (x : Result Unit Stop). WrapsGive (round_of old) old new w x) (sym i) (lacked_by new (round_of old) w v o m, tt)

-- no text is saved: there is no round
pub after_is : (s : SessionState) → IsOpen s → s.saved ≡ [] → session_after_wraps s ≡ progress_of s
after_is s l e =
    ap (λ (o : Option Cause). after_wraps s.limits (progress_of (record s { over = o }))) l.over
    ∙ ap (λ (x : List (List ℕ)). after_wraps s.limits (progress_of (record s { over = None; saved = x }))) e
    ∙ sym (ap (λ (x : List (List ℕ)). progress_of (record s { over = None; saved = x })) e)
    ∙ sym (ap (λ (o : Option Cause). progress_of (record s { over = o })) l.over)

-- the output of a run after its saved texts, if none is saved
ended_output : (freezes : Bool) (s : SessionState) → s.over ≡ None
    → (result_of freezes [] (progress_of s)).output ≡ closed_output freezes (progress_of s).so_far
ended_output freezes s e = ap (λ (o : Option Cause). (result_of freezes [] (progress_of (record s { over = o }))).output) e

-- the end of a run broke off, with so much of the rest written
broke_off : (freezes : Bool) (old new : SessionState) (w : Contents) (cause : Cause) → IsOpen old → old.saved ≡ []
    → new.over ≡ Some cause → w.messages_new ≡ w.messages_old
    → HasBegun w.out_old w.out_new (closed_output freezes (progress_of old).so_far) → Unfinished freezes old new w cause
broke_off freezes old new w cause l e o m h =
    let p : progress_of old ≡ session_after_wraps old = sym (after_is old l e) in
    record {
      live = l;
      over = o;
      output = subst (HasBegun w.out_old w.out_new) (sym (ended_output freezes old l.over) ∙ ap (λ (x : Progress). (result_of freezes [] x).output) p) h;
      messages = subst (λ (x : Progress). HasBegun w.messages_old w.messages_new (x.so_far).messages) p
          (subst (λ x. HasBegun w.messages_old x []) (sym m) (nothing_begun w.messages_old []));
    }

-- the diversions could not be issued
pub finish_broke : (old new : SessionState) (w : Contents) (r : Result Unit Stop) → IsOpen old → old.saved ≡ []
    → r ≡ Err (stops.Ended causes.Write) → new.over ≡ Some causes.Write → w.messages_new ≡ w.messages_old
    → HasBegun w.out_old w.out_new (close old.state) → FinishGives old new w r
finish_broke old new w r l e i o m h = subst (λ (x : Result Unit Stop). FinishGives old new w x) (sym i) (broke_off false old new w causes.Write l e o m h)

-- the diversions were issued
pub issued_all : (old new : SessionState) (out out' reported : Option (List ℕ)) → IsOpen old → old.saved ≡ []
    → new.limits ≡ old.limits → new.finished ≡ true → new.over ≡ old.over → new.any_missing ≡ old.any_missing
    → new.saved ≡ old.saved → new.calls ≡ old.calls → out' ≡ with_bytes out (close old.state)
    → FinishGives old new (writers out out' reported reported) (Ok tt)
issued_all old new out out' reported l e d f v m s n o =
    let p : progress_of old ≡ session_after_wraps old = sym (after_is old l e) in
    record {
      live = l;
      limits = d;
      finished = f;
      over = v ∙ l.over;
      any_missing = m;
      saved = s ∙ e;
      calls = n ∙ ap (λ (x : Progress). (x.so_far).calls) p;
      ended = ap (λ (x : Progress). x.over) (sym p) ∙ ap how_over l.over;
      output = o ∙ ap (λ (x : Progress). with_bytes out (closed_output false x.so_far)) p;
      messages = with_bytes-nil reported ∙ ap (λ (x : Progress). with_bytes reported (x.so_far).messages) p;
    }

-- the state was frozen
pub froze : (old new : SessionState) (s : State) (out reported frozen frozen' : Option (List ℕ)) → IsOpen old
    → old.saved ≡ [] → s ≡ old.state → new ≡ record old { finished = true } → frozen' ≡ with_bytes frozen (freeze s)
    → IsSized s
    → FreezeGives old new
    (record { two = writers out out reported reported; frozen_old = frozen; frozen_new = frozen' }) (Ok tt)
froze old new s out reported frozen frozen' l e i n f z =
    let p : progress_of old ≡ session_after_wraps old = sym (after_is old l e) in
    let t : s ≡ last_state old = i ∙ ap (λ (x : Progress). (x.so_far).state) p in (
      record {
        live = l;
        limits = ap (λ (x : SessionState). x.limits) n;
        finished = ap (λ (x : SessionState). x.finished) n;
        over = ap (λ (x : SessionState). x.over) n ∙ l.over;
        any_missing = ap (λ (x : SessionState). x.any_missing) n;
        saved = ap (λ (x : SessionState). x.saved) n ∙ e;
        calls = ap (λ (x : SessionState). x.calls) n ∙ ap (λ (x : Progress). (x.so_far).calls) p;
        ended = ap (λ (x : Progress). x.over) (sym p) ∙ ap how_over l.over;
        output = with_bytes-nil out ∙ ap (λ (x : Progress). with_bytes out (closed_output true x.so_far)) p;
        messages = with_bytes-nil reported ∙ ap (λ (x : Progress). with_bytes reported (x.so_far).messages) p;
      },
      (f ∙ ap (λ x. with_bytes frozen (freeze x)) t, subst IsSized t z),
    )

-- the frozen text broke off
pub freeze_began : (old : SessionState) (s : State) (out reported frozen frozen' : Option (List ℕ))
    → IsOpen old → old.saved ≡ [] → s ≡ old.state → HasBegun frozen frozen' (freeze s)
    → FreezeBegan old (record { two = writers out out reported reported; frozen_old = frozen; frozen_new = frozen' })
freeze_began old s out reported frozen frozen' l v i f =
    let p : progress_of old ≡ session_after_wraps old = sym (after_is old l v) in
    let t : s ≡ last_state old = i ∙ ap (λ (x : Progress). (x.so_far).state) p in
    record {
      ended = ap (λ (x : Progress). x.over) (sym p) ∙ ap how_over l.over;
      begun = subst (λ x. HasBegun frozen frozen' (freeze x)) t f;
      output = with_bytes-nil out ∙ ap (λ (x : Progress). with_bytes out (x.so_far).output) p;
      messages = with_bytes-nil reported ∙ ap (λ (x : Progress). with_bytes reported (x.so_far).messages) p;
    }

pub freeze_broke : (old new : SessionState) (s : State) (r : Result Unit Stop) (out reported frozen frozen' : Option (List ℕ))
    → IsOpen old → old.saved ≡ [] → s ≡ old.state → r ≡ Err (stops.Ended causes.Write) → new.over ≡ Some causes.Write
    → HasBegun frozen frozen' (freeze s)
    → FreezeGives old new
    (record { two = writers out out reported reported; frozen_old = frozen; frozen_new = frozen' }) r
freeze_broke old new s r out reported frozen frozen' l v i k o f =
    subst (λ (x : Result Unit Stop). FreezeGives old new
    (record { two = writers out out reported reported; frozen_old = frozen; frozen_new = frozen' }) x) (sym k) (
      broke_off true old new (writers out out reported reported) causes.Write l v o refl (nothing_begun out _),
      inr (freeze_began old s out reported frozen frozen' l v i f),
    )

-- the end of a run, of the writers of output and messages
pub close_ends : (freezes : Bool) (old new : SessionState) (w : Three (Option (List ℕ))) (r : Result Unit Stop)
    → CloseGives freezes old new w r → EndGives freezes old new w.two r
close_ends true old new w r h = h.0
close_ends false old new w r h = h.0
