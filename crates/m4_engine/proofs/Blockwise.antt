-- Blockwise: an input that is expanded block by block is expanded as it is defined, whatever follows.
use Rattle.std.proofs.Common.{◌≡◌, ◌⊎◌, inl, inr, ◌≤◌, ℕ, Bool, true, false, List, [], ◌++◌, length, Option, None}
use Rattle.std.proofs.Common.{refl, sym, ap, ◌∙◌, subst, append-nil, append_assoc, arith}
use Rattle.std.specs.Prelude.{Err}
use Rattle.m4_state.proofs.CallerLaws.{after_bytes-append, with_bytes-append, with_bytes-nil}
use Rattle.m4_state.specs.Device.{Script, after_bytes, with_bytes, HasBegun, IsAtFault, one_more}
use Rattle.m4_input.specs.declared.fault.InputFault.{InputFault}
use Rattle.m4_input.specs.declared.fault.InputFault.TheVariants as faults
use Rattle.m4_input.specs.Pending.{Pending}
use Rattle.m4_input.specs.Input.{Held, IsLasting, longer, Reads, block, failures_after}
use Rattle.m4_input.proofs.Calls.{reads_nothing}
use Rattle.m4_engine.specs.declared.ending.Cause.{Cause}
use Rattle.m4_engine.specs.declared.ending.Cause.TheVariants as causes
use Rattle.m4_engine.specs.declared.machine.driver.Wanted.{Wanted}
use Rattle.m4_engine.specs.declared.machine.driver.Wanted.TheVariants as wanted
use Rattle.m4_engine.specs.Nesting.{Outcome, Halted, Closed}
use Rattle.m4_engine.specs.OpenCalls.{Goes, resume}
use Rattle.m4_engine.specs.Moments.{Moment, moved, made_by, Comes, first_moment}
use Rattle.m4_engine.specs.Order.{preceded, Shows}
use Rattle.m4_engine.specs.Expansion.{RunSoFar, Call, Expansion, Kept, Ended, Ends, NeedsInput}
use Rattle.m4_engine.specs.Expand.{turn, join, expand, ended_of, expansion_of}
use Rattle.m4_engine.specs.Engine.{Engine, so_far_of, outer_of, here_of, configuration, IsReady, IsFront}
use Rattle.m4_engine.specs.Turns.{MayFollow}
use Rattle.m4_engine.specs.Expands.{made_before, input_expansion, Expanded, LastAsked, ReadSo, Fell, Expands, ReadsBy}
use Rattle.m4_engine.specs.Expands.{IsIdle, StepBreaks, StepBreaksBy, progress_before}
use Rattle.m4_engine.specs.Continued.{comes_to, stands, Leads, Marked, IsMarked, IsFlushed, HandNeeds, HandEnds}
use Rattle.m4_engine.specs.declared.machine.driver.Paused.{Paused}
use Rattle.m4_engine.specs.declared.machine.driver.Paused.TheVariants as pauses
use Rattle.m4_engine.specs.Continued.{HandBreaks, HandGives, HasMade, BreaksInOrder, OrderBy, so_far_in, fault_cause}
use Rattle.m4_engine.specs.ReadsOn.{IsWantedAfter, HasReadOn, HasStopped, ReadsOn}
use Rattle.m4_engine.specs.Writers.{Contents, Failures, NoneFailed, FailsBy, writers, Broken, HasWritten}
use Rattle.m4_engine.proofs.BrokenOff.{broken_map}
use Rattle.m4_engine.proofs.ReadingOn.{stays_open}
use Rattle.m4_engine.proofs.Leading.{leads_then, leads_nowhere, leads_same}
use Rattle.m4_engine.proofs.Marks.{mark_here, mark_then}
use Rattle.m4_engine.proofs.Running.{more_written, comes_keeps}

-- the reader gave x of the file, and the expansion goes on from here; all that was made was written
pub record Taking (e0 : Engine) (p0 : Pending) (before after : Option Script) (out0 reported0 : Option (List ℕ))
    (w : Wanted) (e : Engine) (i : Held) (out reported : Option (List ℕ)) : Type 0 where
  pub x : List ℕ
  pub q : Pending
  pub reads : Reads before after p0 x q
  pub o : List ℕ
  pub m : List ℕ
  pub written : HasWritten o m (writers out0 out reported0 reported)
  pub leads : Leads wanted.Token e0 q w e i.pending o m
  pub marked : Marked wanted.Token e0 q o m
  pub asked : (x ≡ []) ⊎ LastAsked e0 p0 x (writers out0 out reported0 reported)
  pub ready : IsReady i
  pub flushed : IsFlushed e

-- what was written before, and more
pub more_after : (old mid new : Option (List ℕ)) (made x y : List ℕ) → mid ≡ with_bytes old (made ++ x)
    → new ≡ with_bytes mid y → new ≡ with_bytes old (made ++ (x ++ y))
more_after old mid new made x y e f =
    f ∙ ap (λ (o : Option (List ℕ)). with_bytes o y) e ∙ with_bytes-append old (made ++ x) y ∙ ap (with_bytes old) (append_assoc made x y)

-- the same bytes were asked for, and more was written since
pub asked_since : (e0 : Engine) (p0 : Pending) (x o m : List ℕ)
    (out0 reported0 out reported out' reported' : Option (List ℕ))
    → (x ≡ []) ⊎ LastAsked e0 p0 x (writers out0 out reported0 reported)
    → HasWritten o m (writers out out' reported reported')
    → (x ≡ []) ⊎ LastAsked e0 p0 x (writers out0 out' reported0 reported')
asked_since e0 p0 x o m out0 reported0 out reported out' reported' (inl n) h = inl n
asked_since e0 p0 x o m out0 reported0 out reported out' reported' (inr a) h = inr (record {
  asked = a.asked;
  last = a.last;
  parts = a.parts;
  within = a.within;
  undecided = a.undecided;
  written = record {
    more = (a.written).more ++ o;
    output = more_after out0 out out' _ (a.written).more o (a.written).output h.output;
    more_messages = (a.written).more_messages ++ m;
    messages = more_after reported0 reported reported' _ (a.written).more_messages m (a.written).messages h.messages;
  };
})

pub takes_nothing : (e : Engine) (i : Held) (s : Option Script) (out reported : Option (List ℕ)) → IsIdle e → IsReady i
    → Taking e i.pending s s out reported wanted.Token e i out reported
takes_nothing e i s out reported d r = record {
  x = [];
  q = i.pending;
  reads = reads_nothing s i.pending;
  o = [];
  m = [];
  written = record { output = with_bytes-nil out; messages = with_bytes-nil reported };
  leads = leads_nowhere wanted.Token e i.pending;
  marked = mark_here wanted.Token e e i.pending i.pending [] [] (leads_nowhere wanted.Token e i.pending) d.messages;
  asked = inl refl;
  ready = r;
  flushed = record { output = d.output; messages = d.messages };
}

-- what was written since is shown by a later turn, if anything was
pub marked_since : (w : Wanted) (e0 e : Engine) (q p : Pending) (o m x y : List ℕ) → Marked wanted.Token e0 q o m
    → Leads wanted.Token e0 q w e p o m → IsMarked w e p x y → Marked wanted.Token e0 q (o ++ x) (m ++ y)
marked_since w e0 e q p o m x y k l (inr n) = mark_then wanted.Token w e0 e q p o m x y l n
marked_since w e0 e q p o m x y k l (inl n) =
    subst (λ (v : List ℕ). Marked wanted.Token e0 q v (m ++ y)) (sym (append-nil o) ∙ ap (λ (v : List ℕ). o ++ v) (sym n.0))
    (subst (λ (v : List ℕ). Marked wanted.Token e0 q o v) (sym (append-nil m) ∙ ap (λ (v : List ℕ). m ++ v) (sym n.1)) k)

-- the bytes in hand were expanded
abbrev pub needs_more : (e0 e e' : Engine) (p0 : Pending) (i j : Held) (before after : Option Script)
    (out0 reported0 out reported out' reported' : Option (List ℕ)) (w v : Wanted)
    → Taking e0 p0 before after out0 reported0 w e i out reported
    → HandNeeds w e i v e' j (writers out out' reported reported')
    → Taking e0 p0 before after out0 reported0 v e' j out' reported'
needs_more e0 e e' p0 i j before after out0 reported0 out reported out' reported' w v t h = record {
  x = t.x;
  q = t.q;
  reads = t.reads;
  o = t.o ++ h.o;
  m = t.m ++ h.m;
  written = more_written t.o t.m h.o h.m out0 out out' reported0 reported reported' t.written (h.written).output (h.written).messages;
  leads = leads_then wanted.Token w v e0 e e' t.q i.pending j.pending t.o t.m h.o h.m t.leads h.leads;
  marked = marked_since w e0 e t.q i.pending t.o t.m h.o h.m t.marked t.leads h.marked;
  asked = asked_since e0 p0 t.x h.o h.m out0 reported0 out reported out' reported' t.asked h.written;
  ready = h.ready;
  flushed = h.flushed;
}

is_open : (i j : Held) (e e' : Engine) (w v : Wanted) (c : Contents) → HandNeeds w e i v e' j c → (j.pending).may_follow ≡ true
is_open i j e e' w v c h = (h.leads).follows ∙ h.opened

-- bytes that follow the bytes in hand, and others after them
longer_twice : (y z : List ℕ) (b c : Bool) (p : Pending) → longer z c (longer y b p) ≡ longer (y ++ z) c p
longer_twice y z b c p = ap (λ (x : List ℕ). let r : Pending = record p { unread = x; may_follow = c } in r) (append_assoc p.unread y z)

not_open : (b : Bool) → b ≡ true → b ≡ false → ⊥
not_open true e f = cc
not_open false e f = cc

-- more of the file came, or the reader is at its end
reads_on : (before a b : Option Script) (p0 q j k : Pending) (x y : List ℕ) → Reads before a p0 x q
    → q.may_follow ≡ true → j.may_follow ≡ true → Reads a b j y k → Reads before b p0 (x ++ y) (longer y k.may_follow q)
reads_on before a b p0 q j k x y r f g s = record {
  given = r.given ∙ ap (after_bytes x) s.given ∙ after_bytes-append x y b;
  in_hand = ap (longer y k.may_follow) r.in_hand ∙ longer_twice x y q.may_follow k.may_follow p0;
  still = λ e. r.still f;
  at_end = λ e c. s.at_end g c;
  closed = λ c. absurd (not_open p0.may_follow (r.still f) c);
}

-- the same place, with more bytes after those in hand
leads_more : (w : Wanted) (e0 e : Engine) (q p : Pending) (o m y : List ℕ) (came : Bool) → q.may_follow ≡ true
    → Leads wanted.Token e0 q w e p o m → Leads wanted.Token e0 (longer y came q) w e (longer y came p) o m
leads_more w e0 e q p o m y came f l = record {
  comes = λ z more c a b.
      let k = l.comes (y ++ z) more (subst (λ v. MayFollow v (y ++ z) more) (sym f) tt) a b in (
        k.0,
        subst (λ (r : Pending). Comes k.0 (Goes (configuration a b e0 r))
            (stands w (configuration (a ++ o) (b ++ m) e (longer z more (longer y came p))))) (sym (longer_twice y z came more q))
            (subst (λ (r : Pending). Comes k.0 (Goes (configuration a b e0 (longer (y ++ z) more q)))
            (stands w (configuration (a ++ o) (b ++ m) e r))) (sym (longer_twice y z came more p)) k.1),
      );
  follows = refl;
  limits = l.limits;
}

-- the same turn shows what was written
mark_longer : (e0 : Engine) (q : Pending) (o m y : List ℕ) (came : Bool) → q.may_follow ≡ true
    → Marked wanted.Token e0 q o m → Marked wanted.Token e0 (longer y came q) o m
mark_longer e0 q o m y came f k = record {
  at = k.at;
  q = longer y came k.q;
  before = k.before;
  reported = k.reported;
  leads = leads_more wanted.Token e0 k.at q k.q k.before k.reported y came f k.leads;
  shown = λ z more c a b.
      subst (λ (r : Pending). Shows (so_far_of (a ++ k.before) (b ++ k.reported) k.at)
      (made_by (moved (configuration (a ++ k.before) (b ++ k.reported) k.at r))) (a ++ o) (b ++ m))
      (sym (longer_twice y z came more k.q))
      (k.shown (y ++ z) more (subst (λ v. MayFollow v (y ++ z) more) (sym f) tt) a b);
}

-- ---- what it all comes to

idle_here : (e : Engine) (p : Pending) → IsIdle e → here_of [] [] e p ≡ expansion_of e.limits (made_before e) p
idle_here e p d =
    ap (λ (x : List ℕ). here_of [] [] (record e { output = x }) p) d.output
    ∙ ap (λ (x : List ℕ). here_of [] [] (record e { output = []; messages = x }) p) d.messages
    ∙ ap (λ (x : List Call). here_of [] [] (record e { output = []; messages = []; open_calls = x }) p) d.open_calls

comes_is : (e : Engine) (p : Pending) → IsIdle e → comes_to wanted.Token (configuration [] [] e p) ≡ expand (expansion_of e.limits (made_before e) p)
comes_is e p d =
    ap (λ (cs : List Call). resume Expansion Kept Ended turn join expand (outer_of cs) (expand (here_of [] [] e p))) d.open_calls
    ∙ ap expand (idle_here e p d)

-- what follows the bytes in hand follows all that was taken
from_start : (e0 e : Engine) (p0 : Pending) (i : Held) (before after : Option Script)
    (out0 reported0 out reported : Option (List ℕ)) (w : Wanted) → IsIdle e0
    → (t : Taking e0 p0 before after out0 reported0 w e i out reported) → (z : List ℕ) (more : Bool)
    → MayFollow (t.q).may_follow z more
    → comes_to w (configuration t.o t.m e (longer z more i.pending))
    ≡ expand (expansion_of e0.limits (made_before e0) (longer z more t.q))
from_start e0 e p0 i before after out0 reported0 out reported w d t z more c =
    leads_same wanted.Token w e0 e t.q i.pending t.o t.m t.leads z more c [] [] ∙ comes_is e0 (longer z more t.q) d

so_far_is : (v : Outcome Expansion Ended) → so_far_in v ≡ (ended_of v).so_far
so_far_is (Halted d) = refl
so_far_is (Closed s) = refl

-- the expansion stops after these bytes: nothing was made since the last flush
pub stops_at : (e0 e e' : Engine) (p0 : Pending) (i j : Held) (before after : Option Script)
    (out0 reported0 out reported out' reported' : Option (List ℕ)) (w v : Wanted) → IsIdle e0
    → (t : Taking e0 p0 before after out0 reported0 w e i out reported)
    → (h : HandNeeds w e i v e' j (writers out out' reported reported')) → (y : List ℕ)
    → IsWantedAfter v e' j.pending y
    → input_expansion e0 (longer (t.x ++ y) true p0)
    ≡ record { so_far = so_far_of (t.o ++ h.o) (t.m ++ h.m) e'; reason = NeedsInput }
stops_at e0 e e' p0 i j before after out0 reported0 out reported out' reported' w v d t h y u =
    let still : (t.q).may_follow ≡ true = sym (t.leads).follows ∙ h.opened in
    let opened : (j.pending).may_follow ≡ true = is_open i j e e' w v _ h in
    let s : Taking e0 p0 before after out0 reported0 v e' j out' reported' =
    needs_more e0 e e' p0 i j before after out0 reported0 out reported out' reported' w v t h in
    ap (input_expansion e0) (sym (ap (longer y true) (t.reads).in_hand ∙ longer_twice t.x y (t.q).may_follow true p0))
    ∙ ap ended_of (
    sym (from_start e0 e' p0 j before after out0 reported0 out' reported' v d s y true (subst (λ v. MayFollow v y true) (sym still) tt))
    ∙ stays_open w v e e' i j (writers out out' reported reported') h opened y u t.o t.m)

-- what was written is what the bytes decide
written_all : (old new : Option (List ℕ)) (made held all : List ℕ) → new ≡ with_bytes old made → held ≡ [] → all ≡ made ++ held → new ≡ with_bytes old all
written_all old new made held all e f g = e ∙ ap (with_bytes old) (sym (g ∙ ap (λ (n : List ℕ). made ++ n) f ∙ append-nil made))

-- there the reader was asked for the bytes that follow
pub asked_here : (e0 e e' : Engine) (p0 : Pending) (i j : Held) (before after : Option Script)
    (out0 reported0 out reported out' reported' : Option (List ℕ)) (w v : Wanted) → IsIdle e0
    → (t : Taking e0 p0 before after out0 reported0 w e i out reported)
    → HandNeeds w e i v e' j (writers out out' reported reported') → (x y last : List ℕ)
    → IsWantedAfter v e' j.pending y → x ≡ y ++ last → length last ≤ block
    → LastAsked e0 p0 (t.x ++ x) (writers out0 out' reported0 reported')
asked_here e0 e e' p0 i j before after out0 reported0 out reported out' reported' w v d t h x y last u p l =
    let all = more_written t.o t.m h.o h.m out0 out out' reported0 reported reported' t.written (h.written).output (h.written).messages in
    let end : Ended = record { so_far = so_far_of (t.o ++ h.o) (t.m ++ h.m) e'; reason = NeedsInput } in
    let same : input_expansion e0 (longer (t.x ++ y) true p0) ≡ end =
    stops_at e0 e e' p0 i j before after out0 reported0 out reported out' reported' w v d t h y u in
    record {
      asked = t.x ++ y;
      last = last;
      parts = ap (λ (n : List ℕ). t.x ++ n) p ∙ sym (append_assoc t.x y last);
      within = l;
      undecided = ap (λ (r : Ended). r.reason) same;
      written = record {
        more = [];
        output = written_all out0 out' (t.o ++ h.o) e'.output _ all.output (h.flushed).output
            (ap (λ (r : Ended). (r.so_far).output) same) ∙ ap (with_bytes out0) (sym (append-nil _));
        more_messages = [];
        messages = written_all reported0 reported' (t.m ++ h.m) e'.messages _ all.messages (h.flushed).messages
            (ap (λ (r : Ended). (r.so_far).messages) same) ∙ ap (with_bytes reported0) (sym (append-nil _));
      };
    }

-- more came
pub blocks_came : (e0 e e' : Engine) (p0 : Pending) (i j k : Held) (before a b : Option Script)
    (out0 reported0 out reported out' reported' : Option (List ℕ)) (w v : Wanted) → IsIdle e0
    → Taking e0 p0 before a out0 reported0 w e i out reported
    → HandNeeds w e i v e' j (writers out out' reported reported') → HasReadOn v e' a b j k
    → Taking e0 p0 before b out0 reported0 v e' k out' reported'
blocks_came e0 e e' p0 i j k before a b out0 reported0 out reported out' reported' w v d t h g =
    let s : Taking e0 p0 before a out0 reported0 v e' j out' reported' =
    needs_more e0 e e' p0 i j before a out0 reported0 out reported out' reported' w v t h in
    let opened : (j.pending).may_follow ≡ true = is_open i j e e' w v _ h in
    let still : (t.q).may_follow ≡ true = sym (t.leads).follows ∙ h.opened in
    record {
      x = t.x ++ g.x;
      q = longer g.x (k.pending).may_follow t.q;
      reads = reads_on before a b p0 t.q j.pending k.pending t.x g.x t.reads still opened g.reads;
      o = s.o;
      m = s.m;
      written = s.written;
      leads = subst (λ (p : Pending). Leads wanted.Token e0 (longer g.x (k.pending).may_follow t.q) v e' p s.o s.m) (sym (g.reads).in_hand)
          (leads_more v e0 e' t.q j.pending s.o s.m g.x (k.pending).may_follow still s.leads);
      marked = mark_longer e0 t.q s.o s.m g.x (k.pending).may_follow still s.marked;
      asked = inr (asked_here e0 e e' p0 i j before a out0 reported0 out reported out' reported' w v d t h g.x g.front g.last g.undecided g.parts g.within);
      ready = record { sound = g.sound; front = subst (λ (p : Pending). IsFront p.definition) (sym (g.reads).in_hand) (h.ready).front };
      flushed = h.flushed;
    }

-- an expansion that ended
pub ended_all : (e0 e e' : Engine) (p0 : Pending) (i : Held) (before after : Option Script)
    (out0 reported0 out reported out' reported' : Option (List ℕ)) (w : Wanted) (cause : Cause) → IsIdle e0
    → Taking e0 p0 before after out0 reported0 w e i out reported
    → HandEnds w e i.pending cause e' (writers out out' reported reported')
    → ReadSo e0 p0 before after (writers out0 out' reported0 reported')
    (λ d. Expanded e0 e' d cause (writers out0 out' reported0 reported'))
ended_all e0 e e' p0 i before after out0 reported0 out reported out' reported' w cause d t h = record {
  x = t.x;
  q = t.q;
  reads = t.reads;
  asked = asked_since e0 p0 t.x h.o h.m out0 reported0 out reported out' reported' t.asked h.written;
  so = λ z more c.
      let end : Ended = record { so_far = so_far_of (t.o ++ h.o) (t.m ++ h.m) e'; reason = Ends cause } in
      let k : MayFollow (i.pending).may_follow z more = subst (λ v. MayFollow v z more) (sym (t.leads).follows) c in
      let same : input_expansion e0 (longer z more t.q) ≡ end =
      ap ended_of (sym (from_start e0 e p0 i before after out0 reported0 out reported w d t z more c) ∙ h.ends z more k t.o t.m) in
      let all = more_written t.o t.m h.o h.m out0 out out' reported0 reported reported' t.written (h.written).output (h.written).messages in
      let x : Expanded e0 e' end cause (writers out0 out' reported0 reported') = record {
        reason = refl;
        limits = h.limits ∙ (t.leads).limits;
        state = refl;
        saved = refl;
        calls = refl;
        output = all.output ∙ ap (λ (n : List ℕ). with_bytes out0 n)
            (sym (append-nil (t.o ++ h.o)) ∙ ap (λ (n : List ℕ). (t.o ++ h.o) ++ n) (sym (h.flushed).output));
        messages = all.messages ∙ ap (λ (n : List ℕ). with_bytes reported0 n)
            (sym (append-nil (t.m ++ h.m)) ∙ ap (λ (n : List ℕ). (t.m ++ h.m) ++ n) (sym (h.flushed).messages));
      } in
      subst (λ (y : Ended). Expanded e0 e' y cause (writers out0 out' reported0 reported')) (sym same) x;
}

-- ---- a turn that shows what was written

-- the machine before its first turn
idle_start : (e : Engine) (p : Pending) (a b : List ℕ) → IsIdle e
    → configuration a b e p ≡ first_moment (expansion_of e.limits (preceded a b (progress_before e)).so_far p)
idle_start e p a b d =
    ap (λ (cs : List Call). configuration a b (record e { open_calls = cs }) p) d.open_calls
    ∙ ap (λ (x : List ℕ). configuration a b (record e { open_calls = []; output = x }) p) d.output
    ∙ ap (λ (x : List ℕ). configuration a b (record e { open_calls = []; output = []; messages = x }) p) d.messages

step_broken : (e0 : Engine) (p0 : Pending) (before after : Option Script) (x : List ℕ) (q : Pending) (o m : List ℕ)
    (out0 out reported0 reported : Option (List ℕ)) → IsIdle e0 → Reads before after p0 x q
    → HasWritten o m (writers out0 out reported0 reported) → Marked wanted.Token e0 q o m
    → StepBreaks e0 p0 before after (writers out0 out reported0 reported)
step_broken e0 p0 before after x q o m out0 out reported0 reported d r h k = record {
  x = x;
  q = q;
  reads = r;
  so = λ z more c a b o0 m0 f g.
      let way = (k.leads).comes z more c a b in
      let at : Moment = configuration (a ++ k.before) (b ++ k.reported) k.at (longer z more k.q) in (
        (at.here).so_far,
        made_by (moved at),
        record {
          way = way.0;
          at = at;
          comes = subst (λ (n : Moment). Comes way.0 (Goes n) (Goes at)) (idle_start e0 (longer z more q) a b d) way.1;
          made = refl;
          makes = refl;
        },
        record {
          o = a ++ o;
          m = b ++ m;
          written = record {
            output = h.output ∙ ap (λ (v : Option (List ℕ)). with_bytes v o) f ∙ with_bytes-append o0 a o;
            messages = h.messages ∙ ap (λ (v : Option (List ℕ)). with_bytes v m) g ∙ with_bytes-append m0 b m;
          };
          shown = k.shown z more c a b;
        },
      );
}

-- one that was interrupted
told_in_hand : (e0 e : Engine) (p0 : Pending) (i : Held) (before after : Option Script)
    (out0 reported0 out reported out' reported' : Option (List ℕ)) (w : Wanted) → IsIdle e0
    → Taking e0 p0 before after out0 reported0 w e i out reported
    → BreaksInOrder w e i.pending (writers out out' reported reported')
    → StepBreaks e0 p0 before after (writers out0 out' reported0 reported')
told_in_hand e0 e p0 i before after out0 reported0 out reported out' reported' w d t h =
    step_broken e0 p0 before after t.x t.q (t.o ++ h.o) (t.m ++ h.m) out0 out' reported0 reported' d t.reads
    (more_written t.o t.m h.o h.m out0 out out' reported0 reported reported' t.written (h.written).output (h.written).messages)
    (mark_then wanted.Token w e0 e t.q i.pending t.o t.m h.o h.m t.leads h.marked)

begun : (out0 out : Option (List ℕ)) (o x all : List ℕ) → out ≡ with_bytes out0 o → all ≡ o ++ x → HasBegun out0 out all
begun out0 out o x all e f = (x, record { front = o; parts = f; holds = e })

broken_by : (o m : List ℕ) (d : Ended) (out0 out reported0 reported : Option (List ℕ))
    → HasWritten o m (writers out0 out reported0 reported) → HasMade o m d.so_far → Broken d (writers out0 out reported0 reported)
broken_by o m d out0 out reported0 reported w h = record {
  output = begun out0 out o h.x (d.so_far).output w.output h.output;
  messages = begun reported0 reported m h.y (d.so_far).messages w.messages h.messages;
}

-- one that was interrupted
pub broke_all : (e0 e : Engine) (p0 : Pending) (i : Held) (before after : Option Script)
    (out0 reported0 out reported out' reported' : Option (List ℕ)) (w : Wanted) → IsIdle e0
    → Taking e0 p0 before after out0 reported0 w e i out reported
    → HandBreaks w e i.pending (writers out out' reported reported')
    → ReadSo e0 p0 before after (writers out0 out' reported0 reported')
    (λ d. Broken d (writers out0 out' reported0 reported'))
broke_all e0 e p0 i before after out0 reported0 out reported out' reported' w d t h = record {
  x = t.x;
  q = t.q;
  reads = t.reads;
  asked = asked_since e0 p0 t.x h.o h.m out0 reported0 out reported out' reported' t.asked h.written;
  so = λ z more c.
      let k : MayFollow (i.pending).may_follow z more = subst (λ v. MayFollow v z more) (sym (t.leads).follows) c in
      broken_by (t.o ++ h.o) (t.m ++ h.m) (input_expansion e0 (longer z more t.q)) out0 out' reported0 reported'
      (more_written t.o t.m h.o h.m out0 out out' reported0 reported reported' t.written (h.written).output (h.written).messages)
      (subst (λ (r : RunSoFar). HasMade (t.o ++ h.o) (t.m ++ h.m) r)
      (ap so_far_in (from_start e0 e p0 i before after out0 reported0 out reported w d t z more c)
      ∙ so_far_is (expand (expansion_of e0.limits (made_before e0) (longer z more t.q))))
      (h.made z more k t.o t.m));
}

-- the questions for more stopped by a fault, after some blocks came: these are in hand
module _ (e0 e e' : Engine) (p0 : Pending) (i j k : Held) (before a b : Option Script)
    (out0 reported0 out reported out' reported' : Option (List ℕ)) (w v : Wanted) (f : InputFault) (d : IsIdle e0)
    (t : Taking e0 p0 before a out0 reported0 w e i out reported)
    (h : HandNeeds w e i v e' j (writers out out' reported reported')) (g : HasStopped v e' a b j k f) where
  abbrev made : Ended
  made = record { so_far = so_far_of (t.o ++ h.o) (t.m ++ h.m) e'; reason = NeedsInput }

  stops : input_expansion e0 (longer (t.x ++ g.x) true p0) ≡ made
  stops = stops_at e0 e e' p0 i j before a out0 reported0 out reported out' reported' w v d t h g.x g.undecided

  both_written : HasWritten (t.o ++ h.o) (t.m ++ h.m) (writers out0 out' reported0 reported')
  both_written = more_written t.o t.m h.o h.m out0 out out' reported0 reported reported' t.written (h.written).output (h.written).messages

  still_open : (t.q).may_follow ≡ true
  still_open = sym (t.leads).follows ∙ h.opened

  read_before : Reads before b p0 (t.x ++ g.x) (longer (t.x ++ g.x) true p0)
  read_before = record {
    given = (t.reads).given ∙ ap (after_bytes t.x) g.given ∙ after_bytes-append t.x g.x b;
    in_hand = refl;
    still = λ n. (t.reads).still still_open;
    at_end = λ n c. absurd (not_open true refl c);
    closed = λ c. absurd (not_open p0.may_follow ((t.reads).still still_open) c);
  }

  -- one whose reader failed: exactly what the bytes before the fault decide was written
  fell_all : IsAtFault b → Fell e0 p0 before b (writers out0 out' reported0 reported')
  fell_all n = record {
    x = t.x ++ g.x;
    reads = read_before;
    at_fault = n;
    output = written_all out0 out' (t.o ++ h.o) e'.output _ both_written.output (h.flushed).output (ap (λ (r : Ended). (r.so_far).output) stops);
    messages = written_all reported0 reported' (t.m ++ h.m) e'.messages _ both_written.messages (h.flushed).messages
        (ap (λ (r : Ended). (r.so_far).messages) stops);
    reason = ap (λ (r : Ended). r.reason) stops;
  }

  -- what is made is kept, whatever follows
  kept_after : (z : List ℕ) (more : Bool) → HasMade (t.o ++ h.o) (t.m ++ h.m) (input_expansion e0 (longer z more (longer (t.x ++ g.x) true p0))).so_far
  kept_after z more =
      let s : Taking e0 p0 before a out0 reported0 v e' j out' reported' =
      needs_more e0 e e' p0 i j before a out0 reported0 out reported out' reported' w v t h in
      let c = comes_keeps v s.o s.m e' (longer (g.x ++ z) more j.pending) in
      let from = from_start e0 e' p0 j before a out0 reported0 out' reported' v d s (g.x ++ z) more
      (subst (λ v. MayFollow v (g.x ++ z) more) (sym still_open) tt) in
      let same : longer (g.x ++ z) more t.q ≡ longer z more (longer (t.x ++ g.x) true p0) =
      ap (longer (g.x ++ z) more) (t.reads).in_hand ∙ longer_twice t.x (g.x ++ z) (t.q).may_follow more p0
      ∙ ap (λ (n : List ℕ). longer n more p0) (sym (append_assoc t.x g.x z)) ∙ sym (longer_twice (t.x ++ g.x) z true more p0) in
      subst (λ (p : Pending). HasMade (t.o ++ h.o) (t.m ++ h.m) (input_expansion e0 p).so_far) same
      (subst (λ (r : RunSoFar). HasMade (t.o ++ h.o) (t.m ++ h.m) r)
      (ap so_far_in from ∙ so_far_is (expand (expansion_of e0.limits (made_before e0) (longer (g.x ++ z) more t.q))))
      (record {
        x = e'.output ++ c.more;
        y = e'.messages ++ c.reported;
        output = c.output ∙ append_assoc s.o e'.output c.more;
        messages = c.messages ∙ append_assoc s.m e'.messages c.reported;
      }))

  -- one whose next block could not be held
  lacked_all : ReadSo e0 p0 before b (writers out0 out' reported0 reported') (λ d. Broken d (writers out0 out' reported0 reported'))
  lacked_all = record {
    x = t.x ++ g.x;
    q = longer (t.x ++ g.x) true p0;
    reads = read_before;
    asked = inr (asked_here e0 e e' p0 i j before a out0 reported0 out reported out' reported' w v d t h g.x g.x []
        g.undecided (sym (append-nil g.x)) (omega arith));
    so = λ z more c. broken_by (t.o ++ h.o) (t.m ++ h.m)
        (input_expansion e0 (longer z more (longer (t.x ++ g.x) true p0))) out0 out' reported0 reported' both_written
        (kept_after z more);
  }

  -- a turn of the expansion of all bytes shows what was written
  lacked_told : StepBreaks e0 p0 before b (writers out0 out' reported0 reported')
  lacked_told =
      let s : Taking e0 p0 before a out0 reported0 v e' j out' reported' =
      needs_more e0 e e' p0 i j before a out0 reported0 out reported out' reported' w v t h in
      let same : longer g.x true t.q ≡ longer (t.x ++ g.x) true p0 = ap (longer g.x true) (t.reads).in_hand ∙ longer_twice t.x g.x (t.q).may_follow true p0 in
      step_broken e0 p0 before b (t.x ++ g.x) (longer (t.x ++ g.x) true p0) (t.o ++ h.o) (t.m ++ h.m) out0 out' reported0 reported' d read_before both_written
      (subst (λ (q : Pending). Marked wanted.Token e0 q (t.o ++ h.o) (t.m ++ h.m)) same (mark_longer e0 t.q s.o s.m g.x true still_open s.marked))

-- by the cause
pub ends_by_cause : (e0 e e' : Engine) (p0 : Pending) (i j : Held) (before after : Option Script)
    (out0 reported0 out reported out' reported' : Option (List ℕ)) (w : Wanted) (cause : Cause) → IsIdle e0
    → Taking e0 p0 before after out0 reported0 w e i out reported
    → HandGives w e e' i j (writers out out' reported reported') (pauses.Over cause)
    → Expands e0 e' p0 before after (writers out0 out' reported0 reported') cause
ends_by_cause e0 e e' p0 i j before after out0 reported0 out reported out' reported' w (causes.Frozen f) d t h = absurd h
ends_by_cause e0 e e' p0 i j before after out0 reported0 out reported out' reported' w causes.Read d t h = absurd h
ends_by_cause e0 e e' p0 i j before after out0 reported0 out reported out' reported' w causes.Write d t h =
    broke_all e0 e p0 i before after out0 reported0 out reported out' reported' w d t h
ends_by_cause e0 e e' p0 i j before after out0 reported0 out reported out' reported' w causes.OutOfMemory d t h =
    broke_all e0 e p0 i before after out0 reported0 out reported out' reported' w d t h
ends_by_cause e0 e e' p0 i j before after out0 reported0 out reported out' reported' w cause d t h =
    ended_all e0 e e' p0 i before after out0 reported0 out reported out' reported' w cause d t h

pub ends_so : (e0 e e' : Engine) (p0 : Pending) (i j : Held) (before after : Option Script)
    (out0 reported0 out reported out' reported' : Option (List ℕ)) (w : Wanted) (cause : Cause) (r : Paused)
    → r ≡ pauses.Over cause → IsIdle e0 → Taking e0 p0 before after out0 reported0 w e i out reported
    → HandGives w e e' i j (writers out out' reported reported') r
    → Expands e0 e' p0 before after (writers out0 out' reported0 reported') cause
ends_so e0 e e' p0 i j before after out0 reported0 out reported out' reported' w cause r f d t h =
    ends_by_cause e0 e e' p0 i j before after out0 reported0 out reported out' reported' w cause d t
    (subst (HandGives w e e' i j (writers out out' reported reported')) f h)

told_by_cause : (e0 e : Engine) (p0 : Pending) (i : Held) (before after : Option Script)
    (out0 reported0 out reported out' reported' : Option (List ℕ)) (w : Wanted) (cause : Cause) → IsIdle e0
    → Taking e0 p0 before after out0 reported0 w e i out reported
    → OrderBy w e i.pending (writers out out' reported reported') (pauses.Over cause)
    → StepBreaksBy e0 p0 before after (writers out0 out' reported0 reported') cause
told_by_cause e0 e p0 i before after out0 reported0 out reported out' reported' w cause d t h =
    broken_map cause _ _ (told_in_hand e0 e p0 i before after out0 reported0 out reported out' reported' w d t) h

pub told_so : (e0 e : Engine) (p0 : Pending) (i : Held) (before after : Option Script)
    (out0 reported0 out reported out' reported' : Option (List ℕ)) (w : Wanted) (cause : Cause) (r : Paused)
    → r ≡ pauses.Over cause → IsIdle e0 → Taking e0 p0 before after out0 reported0 w e i out reported
    → OrderBy w e i.pending (writers out out' reported reported') r
    → StepBreaksBy e0 p0 before after (writers out0 out' reported0 reported') cause
told_so e0 e p0 i before after out0 reported0 out reported out' reported' w cause r f d t h =
    told_by_cause e0 e p0 i before after out0 reported0 out reported out' reported' w cause d t
    (subst (OrderBy w e i.pending (writers out out' reported reported')) f h)

pub needs_so : (w v : Wanted) (e e' : Engine) (i j : Held) (c : Contents) (r : Paused) → r ≡ pauses.For v
    → HandGives w e e' i j c r → HandNeeds w e i v e' j c
needs_so w v e e' i j c r f h = subst (HandGives w e e' i j c) f h

-- the next block is missing
pub stopped_by : (e0 e e' : Engine) (p0 : Pending) (i j k : Held) (before after later : Option Script)
    (out0 reported0 out reported out' reported' : Option (List ℕ)) (w v : Wanted) (f : InputFault) → IsIdle e0
    → Taking e0 p0 before after out0 reported0 w e i out reported
    → HandNeeds w e i v e' j (writers out out' reported reported') → ReadsOn v e' after later j k (Err f)
    → Expands e0 e' p0 before later (writers out0 out' reported0 reported') (fault_cause f)
stopped_by e0 e e' p0 i j k before after later out0 reported0 out reported out' reported' w v faults.Read d t h g =
    fell_all e0 e e' p0 i j k before after later out0 reported0 out reported out' reported' w v faults.Read d t h g.0 g.1
stopped_by e0 e e' p0 i j k before after later out0 reported0 out reported out' reported' w v faults.OutOfMemory d t h
    g = lacked_all e0 e e' p0 i j k before after later out0 reported0 out reported out' reported' w v faults.OutOfMemory d t h g
stopped_by e0 e e' p0 i j k before after later out0 reported0 out reported out' reported' w v (faults.EndInString n) d t h g = absurd g
stopped_by e0 e e' p0 i j k before after later out0 reported0 out reported out' reported' w v (faults.EndInComment n) d t h g = absurd g

pub stopped_so : (e0 e e' : Engine) (p0 : Pending) (i j k : Held) (before after later : Option Script)
    (out0 reported0 out reported out' reported' : Option (List ℕ)) (w v : Wanted) (f : InputFault) (cause : Cause)
    → cause ≡ fault_cause f → IsIdle e0 → Taking e0 p0 before after out0 reported0 w e i out reported
    → HandNeeds w e i v e' j (writers out out' reported reported') → ReadsOn v e' after later j k (Err f)
    → Expands e0 e' p0 before later (writers out0 out' reported0 reported') cause
stopped_so e0 e e' p0 i j k before after later out0 reported0 out reported out' reported' w v f cause c d t h g =
    subst (Expands e0 e' p0 before later (writers out0 out' reported0 reported')) (sym c)
    (stopped_by e0 e e' p0 i j k before after later out0 reported0 out reported out' reported' w v f d t h g)

-- what was written before the next block was asked for
told_by : (e0 e e' : Engine) (p0 : Pending) (i j k : Held) (before after later : Option Script)
    (out0 reported0 out reported out' reported' : Option (List ℕ)) (w v : Wanted) (f : InputFault) → IsIdle e0
    → Taking e0 p0 before after out0 reported0 w e i out reported
    → HandNeeds w e i v e' j (writers out out' reported reported') → ReadsOn v e' after later j k (Err f)
    → StepBreaksBy e0 p0 before later (writers out0 out' reported0 reported') (fault_cause f)
told_by e0 e e' p0 i j k before after later out0 reported0 out reported out' reported' w v faults.Read d t h g = tt
told_by e0 e e' p0 i j k before after later out0 reported0 out reported out' reported' w v faults.OutOfMemory d t h g =
    lacked_told e0 e e' p0 i j k before after later out0 reported0 out reported out' reported' w v faults.OutOfMemory d t h g
told_by e0 e e' p0 i j k before after later out0 reported0 out reported out' reported' w v (faults.EndInString n) d t h g = absurd g
told_by e0 e e' p0 i j k before after later out0 reported0 out reported out' reported' w v (faults.EndInComment n) d t h g = absurd g

pub told_at_fault : (e0 e e' : Engine) (p0 : Pending) (i j k : Held) (before after later : Option Script)
    (out0 reported0 out reported out' reported' : Option (List ℕ)) (w v : Wanted) (f : InputFault) (cause : Cause)
    → cause ≡ fault_cause f → IsIdle e0 → Taking e0 p0 before after out0 reported0 w e i out reported
    → HandNeeds w e i v e' j (writers out out' reported reported') → ReadsOn v e' after later j k (Err f)
    → StepBreaksBy e0 p0 before later (writers out0 out' reported0 reported') cause
told_at_fault e0 e e' p0 i j k before after later out0 reported0 out reported out' reported' w v f cause c d t h g =
    subst (StepBreaksBy e0 p0 before later (writers out0 out' reported0 reported')) (sym c)
    (told_by e0 e e' p0 i j k before after later out0 reported0 out reported out' reported' w v f d t h g)

-- a reader that failed, by the fault
pub fault_counted : (v : Wanted) (e : Engine) (a b : Option Script) (j k : Held) (f : InputFault) (old mid new : ℕ)
    → j.fault ≡ None → ReadsOn v e a b j k (Err f) → mid ≡ old → new ≡ failures_after j.fault k.fault mid
    → ReadsBy (fault_cause f) old new
fault_counted v e a b j k faults.Read old mid new n g i c = c ∙ ap (λ o. failures_after o k.fault mid) n
    ∙ ap (λ (h : Held). failures_after None h.fault mid) (g.0).stopped ∙ ap one_more i
fault_counted v e a b j k faults.OutOfMemory old mid new n g i c = c ∙ ap (λ o. failures_after o k.fault mid) n
    ∙ ap (λ (h : Held). failures_after None h.fault mid) g.stopped ∙ i
fault_counted v e a b j k (faults.EndInString l) old mid new n g i c = absurd g
fault_counted v e a b j k (faults.EndInComment l) old mid new n g i c = absurd g

pub fault_counted_so : (v : Wanted) (e : Engine) (a b : Option Script) (j k : Held) (f : InputFault) (cause : Cause)
    (old mid new : ℕ) → cause ≡ fault_cause f → j.fault ≡ None → ReadsOn v e a b j k (Err f) → mid ≡ old
    → new ≡ failures_after j.fault k.fault mid → ReadsBy cause old new
fault_counted_so v e a b j k f cause old mid new h n g i c = subst (λ (x : Cause). ReadsBy x old new) (sym h) (fault_counted v e a b j k f old mid new n g i c)

-- a reader or an allocation failed
pub lasting_so : (v : Wanted) (e : Engine) (a b : Option Script) (j k : Held) (f : InputFault) → ReadsOn v e a b j k (Err f) → IsLasting f
lasting_so v e a b j k faults.Read g = tt
lasting_so v e a b j k faults.OutOfMemory g = tt
lasting_so v e a b j k (faults.EndInString l) g = absurd g
lasting_so v e a b j k (faults.EndInComment l) g = absurd g

-- no writer failed
pub none_failed : (cause : Cause) (f : InputFault) (w : Failures) → cause ≡ fault_cause f → NoneFailed w → FailsBy cause w
none_failed cause f w h n = subst (λ (x : Cause). FailsBy x w) (sym h) (by_fault f)
  where
    by_fault : (f : InputFault) → FailsBy (fault_cause f) w
    by_fault faults.Read = n
    by_fault faults.OutOfMemory = n
    by_fault (faults.EndInString l) = n
    by_fault (faults.EndInComment l) = n

-- a block that came is no failure
pub came_counted : (v : Wanted) (e : Engine) (a b : Option Script) (j k : Held) (mid new : ℕ) → j.fault ≡ None
    → HasReadOn v e a b j k → new ≡ failures_after j.fault k.fault mid → new ≡ mid
came_counted v e a b j k mid new n g c = c ∙ ap (λ o. failures_after o k.fault mid) n ∙ ap (λ o. failures_after None o mid) g.sound
