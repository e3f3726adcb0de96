-- RunReached: after all sources the last one is the current one; and what a run says of its sources as it ends.
use Rattle.std.proofs.Common.{◌≡◌, ◌≢◌, inl, inr, ℕ, suc, ◌+◌, Bool, true, false, List, [], ◌∷◌, ◌++◌}
use Rattle.std.proofs.Common.{length, Option, Some, None, refl}
use Rattle.std.proofs.Common.{sym, ap, ◌∙◌, subst, arith, append-nil}
use Rattle.std.specs.Prelude.{Result, Ok, Err}
use Rattle.m4_state.proofs.CallerLaws.{with_bytes-nil}
use Rattle.m4_state.specs.Device.{Script, with_bytes, IsAtEnd}
use Rattle.m4_state.specs.State.{State}
use Rattle.m4_engine.specs.declared.options.Options.{Options}
use Rattle.m4_engine.specs.declared.ending.Cause.{Cause}
use Rattle.m4_engine.specs.declared.ending.Cause.TheVariants as causes
use Rattle.m4_engine.specs.declared.ending.Ending.{Ending}
use Rattle.m4_engine.specs.declared.stop.Stop.{Stop}
use Rattle.m4_engine.specs.declared.stop.Stop.TheVariants as stops
use Rattle.m4_engine.specs.declared.source.Source.{Source as RunSource}
use Rattle.m4_engine.specs.declared.source.Source.TheVariants as sources
use Rattle.m4_engine.specs.Nesting.{Outcome, Halted, Closed}
use Rattle.m4_engine.specs.Expansion.{RunSoFar, Limits, Expansion, EndReason, Ends, NeedsInput, OutOfBound, Ended}
use Rattle.m4_engine.specs.Expand.{expand, expansion_of, ended_of, expand_input}
use Rattle.m4_engine.specs.File.{Source, Opened, Unopened, Progress, read_file, file_pending, over_of, after_source}
use Rattle.m4_engine.specs.File.{after_sources, cannot_open}
use Rattle.m4_engine.specs.Start.{Start, From, begun}
use Rattle.m4_engine.specs.Run.{limits_of}
use Rattle.m4_engine.specs.Settled.{SettledSoFar, settled_in}
use Rattle.m4_engine.specs.Laws.{IsBeginning}
use Rattle.m4_engine.specs.Session.{SessionState, progress_of, how_over, session_from, IsOpen, EndGives}
use Rattle.m4_engine.specs.RunSteps.{BeginGives, IsBegun}
use Rattle.m4_engine.specs.Writers.{Contents, Three, writers, HasWritten}
use Rattle.m4_engine.specs.OnePass.{IsRead, Reaches, AreRead, settled_after, ExactAtFault, Reached, OnePassBy, OnePass}
use Rattle.m4_engine.specs.OnePass.{left_after, EndsOrIsLast, EndedBy}
use Rattle.m4_engine.specs.SourcesRead.{SourcesGive, RunReached}
use Rattle.m4_engine.proofs.Growth.{Extends, longer_level, Begins}
use Rattle.m4_engine.proofs.Continues.{law}
use Rattle.m4_engine.proofs.OnePass.{over_sources, made_ended}
use Rattle.m4_engine.proofs.Blockwise.{more_after}
use Rattle.m4_engine.proofs.GoingOn.{sources_after}
use Rattle.m4_engine.proofs.Reached.{in_front, in_front_is, asked_further, ended_map}
use Rattle.m4_engine.proofs.Sessions.{close_ends}
use Rattle.m4_engine.proofs.Starts.{begun_is}
use Rattle.m4_engine.specs.SessionSteps.{CloseGives, IsLeft, ending_by}

-- ---- a file after which the run goes on is open up to its last byte

-- it made no less
abbrev Before : Ended → Ended → Type 0
Before e d = (e.reason ≡ NeedsInput) × Extends e.so_far d.so_far

end_needs : (o o' : Outcome Expansion Ended) → Begins [] false o o' → (ended_of o').reason ≡ Ends causes.Done → Before (ended_of o) (ended_of o')
end_needs (Halted d) o' (inl h) w = (h.0, subst (Extends d.so_far) (made_ended o') h.1)
end_needs (Halted d) o' (inr h) w = absurd (h.1 (ap (λ (x : Outcome Expansion Ended). (ended_of x).reason) (sym h.0) ∙ w))
end_needs (Closed s) o' h w =
    let e : OutOfBound ≡ Ends causes.Done = sym (ap (λ (x : Outcome Expansion Ended). (ended_of x).reason) h.1) ∙ w in
    cc

ended_needs : (limits : Limits) (r : RunSoFar) (name x : List ℕ) → (read_file limits r name x).reason ≡ Ends causes.Done
    → Before (expand_input limits r (file_pending name x true)) (read_file limits r name x)
ended_needs limits r name x w =
    let s : Expansion = expansion_of limits r (file_pending name x true) in
    let P : List ℕ → Type 0 = λ y. (read_file limits r name y).reason ≡ Ends causes.Done
    → Before (expand_input limits r (file_pending name x true)) (read_file limits r name y) in
    subst P (append-nil x) (λ v. end_needs (expand s) (expand (longer_level [] false s)) (law [] false s refl) v) w

-- only the end of an input lets a run go on
only_done : (h : EndReason) → over_of h ≡ None → h ≡ Ends causes.Done
only_done (Ends causes.Done) e = refl
only_done reason e = cc

-- a run that isn't over after a source wasn't over before it
open_before : (limits : Limits) (s : Source) (p : Progress) (v : Option EndReason) → p.over ≡ v → (after_source limits s p).over ≡ None → p.over ≡ None
open_before limits s p None e g = e
open_before limits s p (Some h) e g =
    let f : after_source limits s p ≡ p = over_sources limits (s ∷ []) p h e in
    ap (λ (q : Progress). q.over) (sym f) ∙ g

all_open : (limits : Limits) (ss : List Source) (p : Progress) → (after_sources limits ss p).over ≡ None → p.over ≡ None
all_open limits [] p g = g
all_open limits (s ∷ ss) p g = open_before limits s p p.over refl (all_open limits ss (after_source limits s p) g)

-- what is settled at the end of a source after which the run goes on
record SettledBefore (limits : Limits) (p q : Progress) (name taken : List ℕ) : Type 0 where
  undecided : (settled_in limits p name taken).reason ≡ NeedsInput
  output : IsBeginning (settled_in limits p name taken).output (q.so_far).output
  messages : IsBeginning (settled_in limits p name taken).messages (q.so_far).messages

opened_before : (limits : Limits) (p : Progress) (n bytes : List ℕ) (v : Option EndReason) → v ≡ None
    → (after_source limits (Opened n bytes) (record p { over = v })).over ≡ None
    → SettledBefore limits (record p { over = v }) (after_source limits (Opened n bytes) (record p { over = v })) n bytes
opened_before limits p n bytes (Some h) e g = cc
opened_before limits p n bytes None e g =
    let k = ended_needs limits p.so_far n bytes (only_done _ g) in
    record { undecided = k.0; output = ((k.1).more, (k.1).output); messages = ((k.1).reported, (k.1).messages) }

unopened_before : (limits : Limits) (p : Progress) (n : List ℕ) (v : Option EndReason) → v ≡ None
    → SettledBefore limits (record p { over = v }) (after_source limits (Unopened n) (record p { over = v })) n []
unopened_before limits p n (Some h) e = cc
unopened_before limits p n None e = record {
  undecided = refl;
  output = ([], sym (append-nil (p.so_far).output));
  messages = (cannot_open n, refl);
}

-- the current source, if all of it was taken and the run goes on after it
record Last {R : Type 0} (script : R → Option Script) (old new : List (RunSource R)) (limits : Limits) (p q : Progress) : Type 0 where
  before : List Source
  name : List ℕ
  taken : List ℕ
  place : Reaches script old new before name taken
  settled : SettledBefore limits (after_sources limits before p) q name taken
  at_end : IsAtEnd (left_after script new before)
  last : length old ≡ length before + 1

next_last : (m n : ℕ) → m ≡ n + 1 → suc m ≡ suc n + 1
next_last m n e = omega (arith, e)

module _ {R : Type 0} (script : R → Option Script) where
  one_last : (x y : RunSource R) (limits : Limits) (p : Progress) (s : Source)
      → IsRead script x y s → p.over ≡ None → (after_source limits s p).over ≡ None
      → Last script (x ∷ []) (y ∷ []) limits p (after_source limits s p)
  one_last (sources.Opened name r) (sources.Opened n b) limits p (Opened m bytes) i e g =
      record {
        before = [];
        name = m;
        taken = bytes;
        place = ((i.0, i.1, i.2), refl);
        settled = opened_before limits p m bytes p.over e g;
        at_end = i.3;
        last = refl;
      }
  one_last (sources.Unopened name) (sources.Unopened n) limits p (Unopened m) i e g =
      record { before = []; name = m; taken = []; place = ((i.0, i.1, refl), refl); settled = unopened_before limits p m p.over e; at_end = tt; last = refl }
  one_last (sources.Opened name r) (sources.Opened n b) limits p (Unopened m) i e g = absurd i
  one_last (sources.Opened name r) (sources.Unopened n) limits p s i e g = absurd i
  one_last (sources.Unopened name) (sources.Opened n b) limits p s i e g = absurd i
  one_last (sources.Unopened name) (sources.Unopened n) limits p (Opened m bytes) i e g = absurd i

  last_is : (old new : List (RunSource R)) (ss : List Source) (limits : Limits)
      (p : Progress) → old ≢ [] → AreRead script old new ss → (after_sources limits ss p).over ≡ None
      → Last script old new limits p (after_sources limits ss p)
  last_is [] new ss limits p n h g = absurd (n refl)
  last_is (x ∷ []) (y ∷ []) (s ∷ []) limits p n h g = one_last x y limits p s h.0 (open_before limits s p p.over refl g) g
  last_is (x ∷ x2 ∷ xs) (y ∷ ys) (s ∷ ss) limits p n h g =
      let k = last_is (x2 ∷ xs) ys ss limits (after_source limits s p) (λ e. cc) h.1 g in
      record {
        before = s ∷ k.before;
        name = k.name;
        taken = k.taken;
        place = (h.0, k.place);
        settled = k.settled;
        at_end = k.at_end;
        last = next_last _ _ k.last;
      }
  last_is (x ∷ xs) [] ss limits p n h g = absurd h
  last_is (x ∷ []) (y ∷ y2 ∷ ys) (s ∷ ss) limits p n h g = absurd h.1
  last_is (x ∷ xs) (y ∷ ys) [] limits p n h g = absurd h
  last_is (x ∷ []) (y ∷ []) (s ∷ s2 ∷ ss) limits p n h g = absurd h.1

-- ---- the end of a run

-- what the end of a run wrote
end_wrote : (freezes : Bool) (old new : SessionState) (w : Contents) (r : Result Unit Stop) → IsOpen old
    → EndGives freezes old new w r → (o m : List ℕ) × HasWritten o m w
end_wrote freezes old new w (Ok done) l h = (_, _, record { output = h.output; messages = h.messages })
end_wrote freezes old new w (Err stops.Finished) l h = absurd (h.closed l)
end_wrote freezes old new w (Err (stops.Ended causes.Done)) l h = absurd h
end_wrote freezes old new w (Err (stops.Ended (causes.Frozen f))) l h = absurd h
end_wrote freezes old new w (Err (stops.Ended causes.Read)) l h = absurd h
end_wrote freezes old new w (Err (stops.Ended causes.Write)) l h = (_, _, record { output = ((h.output).1).holds; messages = ((h.messages).1).holds })
end_wrote freezes old new w (Err (stops.Ended causes.OutOfMemory)) l h = (_, _, record { output = ((h.output).1).holds; messages = ((h.messages).1).holds })
end_wrote freezes old new w (Err (stops.Ended cause)) l h = (_, _, record { output = (h.0).output; messages = (h.0).messages })

-- what was settled, and more
more_than : (old mid new : Option (List ℕ)) (x y z : List ℕ) → (b : IsBeginning x y) → mid ≡ with_bytes old y
    → new ≡ with_bytes mid z → new ≡ with_bytes old (x ++ (b.0 ++ z))
more_than old mid new x y z b e f = more_after old mid new x b.0 z (e ∙ ap (with_bytes old) b.1) f

-- the sources were read, and then the run was closed
module _ {R : Type 0} (script : R → Option Script) (old new : List (RunSource R)) (freezes : Bool)
    (s s1 s2 : SessionState) (out0 out out' reported0 reported reported' : Option (List ℕ)) (n : old ≢ [])
    (l : IsOpen s1) (h : SourcesGive script old new s s1 (writers out0 out reported0 reported) (Ok tt)) where
  goes_on : (after_sources s.limits h.0 (progress_of s)).over ≡ None
  goes_on = sym (ap (λ (p : Progress). p.over) (h.2).progress) ∙ ap how_over l.over

  abbrev AllAsked : Cause → Type 0
  AllAsked cause = (r : Reached script old new s.limits (progress_of s) cause (writers out0 out' reported0 reported')) × ((r.at).asked ≡ r.taken)

  -- a cause by which a run may end after its sources
  abbrev AtEnd : Cause → Type 1
  AtEnd cause = (x : SettledSoFar) (all : Type 0) (left : Option Script) (closed : Type 0) → all × IsAtEnd left × closed → EndedBy cause x all left closed

  past_end : (cause : Cause) → ((x : SettledSoFar) (w : Contents) → ExactAtFault cause x w) → AtEnd cause
      → (r : Result Unit Stop) → EndGives freezes s1 s2 (writers out out' reported reported') r → AllAsked cause
  past_end cause k j r g =
      let q = end_wrote freezes s1 s2 (writers out out' reported reported') r l g in
      let p = last_is script old new h.0 s.limits (progress_of s) n h.1 goes_on in (
        record {
          before = p.before;
          name = p.name;
          taken = p.taken;
          place = p.place;
          at = record {
            asked = p.taken;
            last = [];
            parts = sym (append-nil p.taken);
            within = omega arith;
            undecided = (p.settled).undecided;
            written = record {
              more = ((p.settled).output).0 ++ q.0;
              output = more_than out0 out out' _ _ q.0 (p.settled).output (h.2).output (q.2).output;
              more_messages = ((p.settled).messages).0 ++ q.1;
              messages = more_than reported0 reported reported' _ _ q.1 (p.settled).messages (h.2).messages (q.2).messages;
            };
            exact = k _ _;
          };
          ended = j _ _ _ _ (refl, p.at_end, inr p.last);
        },
        refl,
      )

  reached_end : (cause : Cause) → ((x : SettledSoFar) (w : Contents) → ExactAtFault cause x w) → AtEnd cause
      → (r : Result Unit Stop) → EndGives freezes s1 s2 (writers out out' reported reported') r
      → Reached script old new s.limits (progress_of s) cause (writers out0 out' reported0 reported')
  reached_end cause k j r g = (past_end cause k j r g).0

  pub closed_reached : (wrapped : Bool) (w : Three (Option (List ℕ))) (r : Result Unit Stop)
      → w.two ≡ writers out out' reported reported' → r ≡ Ok tt → CloseGives freezes s1 s2 w r
      → RunReached script old new s (writers out0 out' reported0 reported') (Ok wrapped)
  closed_reached wrapped w r e f g =
      let q = past_end causes.Done (λ x w. tt) (λ x a l c h. inr h) r (subst (λ v. EndGives freezes s1 s2 v r) e (close_ends freezes s1 s2 w r g)) in
      record { sources = h.0; read = h.1; reached = q.0; all = q.1 }

  end_by : (e : Stop) → EndGives freezes s1 s2 (writers out out' reported reported') (Err e)
      → RunReached script old new s (writers out0 out' reported0 reported') (Err e)
  end_by stops.Finished g = absurd (g.closed l)
  end_by (stops.Ended causes.Done) g = absurd g
  end_by (stops.Ended (causes.Frozen f)) g = absurd g
  end_by (stops.Ended causes.Read) g = absurd g
  end_by (stops.Ended causes.Write) g = reached_end causes.Write (λ x w. tt) (λ x a l b h. tt) (Err (stops.Ended causes.Write)) g
  end_by (stops.Ended causes.OutOfMemory) g = reached_end causes.OutOfMemory (λ x w. tt) (λ x a l b h. tt) (Err (stops.Ended causes.OutOfMemory)) g
  end_by (stops.Ended cause) g = reached_end cause (λ x w. tt) (λ x a l b h. inr h) (Err (stops.Ended cause)) g

  pub late_reached : (w : Three (Option (List ℕ))) (e : Stop) (q : Result Unit Stop) (r : Result Bool Stop)
      → w.two ≡ writers out out' reported reported' → q ≡ Err e → r ≡ Err e → CloseGives freezes s1 s2 w q
      → RunReached script old new s (writers out0 out' reported0 reported') r
  late_reached w e q r i f k g =
      subst (RunReached script old new s (writers out0 out' reported0 reported')) (sym k)
      (end_by e (subst (EndGives freezes s1 s2 (writers out out' reported reported')) f
      (subst (λ v. EndGives freezes s1 s2 v q) i (close_ends freezes s1 s2 w q g))))

module _ {R : Type 0} (script : R → Option Script) where
  -- the run ended within a source
  early_by : (old new : List (RunSource R)) (s s1 : SessionState) (w : Contents)
      (e : Stop) → IsLeft {A = Unit} s1 (Err e) → SourcesGive script old new s s1 w (Err e) → RunReached script old new s w (Err e)
  early_by old new s s1 w stops.Finished l h = h
  early_by old new s s1 w (stops.Ended causes.Done) l h = absurd l
  early_by old new s s1 w (stops.Ended cause) l h = h

  pub early_reached : (old new : List (RunSource R)) (s s1 : SessionState)
      (w : Contents) (e : Stop) (q : Result Unit Stop) (r : Result Bool Stop) → q ≡ Err e → r ≡ Err e → IsLeft s1 q
      → SourcesGive script old new s s1 w q → RunReached script old new s w r
  early_reached old new s s1 w e q r f k l h =
      subst (RunReached script old new s w) (sym k) (early_by old new s s1 w e (subst (IsLeft s1) f l) (subst (SourcesGive script old new s s1 w) f h))

-- ---- the whole run

module _ {R : Type 0} (script : R → Option Script) where
  -- it did not begin: nothing was read
  none_by : (xs : List (RunSource R)) (o : Options) (start : Start)
      (w : Contents) (e : Stop) (status : ℕ) → IsBegun o (Err e) → OnePassBy script xs xs o start (ending_by status (Err e)).cause w
  none_by xs o start w stops.Finished status h = absurd h
  none_by xs o start w (stops.Ended (causes.Frozen f)) status h = refl
  none_by xs o start w (stops.Ended causes.Write) status h = inl refl
  none_by xs o start w (stops.Ended causes.OutOfMemory) status h = inl refl
  none_by xs o start w (stops.Ended cause) status h = absurd h

  pub never_passed : (xs : List (RunSource R)) (o : Options) (start : Start)
      (w : Contents) (st : Result SessionState Stop) (e : Stop) (status : ℕ) (d : Ending) → st ≡ Err e
      → d ≡ ending_by status (Err e) → IsBegun o st → OnePass script xs xs o start d.cause w
  never_passed xs o start w st e status d f g b = λ n.
      subst (λ (x : Ending). OnePassBy script xs xs o start x.cause w) (sym g) (none_by xs o start w e status (subst (IsBegun o) f b))

-- it began: its start's issued text was written before
module _ {R : Type 0} (script : R → Option Script) (old new : List (RunSource R)) (o : Options) (k : State)
    (issued : List ℕ) (out0 out out' reported reported' : Option (List ℕ)) (e : out ≡ with_bytes out0 issued) where
  start_settled : (before : List Source) (name x : List ℕ)
      → settled_after (limits_of o) (begun (From k issued)) before name x
      ≡ in_front issued [] (settled_after (limits_of o) (progress_of (session_from o k)) before name x)
  start_settled before name x =
      ap (λ (p : Progress). settled_after (limits_of o) p before name x) (begun_is o k issued)
      ∙ ap (λ (p : Progress). settled_in (limits_of o) p name x) (sources_after issued [] (limits_of o) before (progress_of (session_from o k)))
      ∙ in_front_is issued [] (limits_of o) (after_sources (limits_of o) before (progress_of (session_from o k))) name x

  start_closed : (before : List Source) (name x : List ℕ) (cause : Cause)
      → EndsOrIsLast old (limits_of o) (progress_of (session_from o k)) before name x cause
      → EndsOrIsLast old (limits_of o) (begun (From k issued)) before name x cause
  start_closed before name x cause (inr h) = inr h
  start_closed before name x cause (inl h) =
      let ss : List Source = before ++ Opened name x ∷ [] in
      inl (ap (λ (p : Progress). (after_sources (limits_of o) ss p).over) (begun_is o k issued)
      ∙ ap (λ (p : Progress). p.over) (sources_after issued [] (limits_of o) ss (progress_of (session_from o k))) ∙ h)

  abbrev from_start : (cause : Cause) → Reached script old new (limits_of o) (progress_of (session_from o k)) cause
      (writers out out' reported reported')
      → Reached script old new (limits_of o) (begun (From k issued)) cause (writers out0 out' reported reported')
  from_start cause r = record {
    before = r.before;
    name = r.name;
    taken = r.taken;
    place = r.place;
    at = asked_further issued [] out0 out out' reported reported reported' e (with_bytes-nil reported)
        (settled_after (limits_of o) (progress_of (session_from o k)) r.before r.name)
        (settled_after (limits_of o) (begun (From k issued)) r.before r.name) cause r.taken
        (start_settled r.before r.name) r.at;
    ended = ended_map cause _ _ _ _ _ _ _ (ap (λ (y : SettledSoFar). y.reason) (start_settled r.before r.name r.taken))
        refl (start_closed r.before r.name r.taken cause) r.ended;
  }

  passed_by : (status : ℕ) (r : Result Bool Stop)
      → RunReached script old new (session_from o k) (writers out out' reported reported') r
      → OnePassBy script old new o (From k issued) (ending_by status r).cause (writers out0 out' reported reported')
  passed_by status (Ok wrapped) h =
      record { sources = h.sources; read = h.read; reached = from_start causes.Done h.reached; all = h.all }
  passed_by status (Err stops.Finished) h = absurd h
  passed_by status (Err (stops.Ended causes.Done)) h = absurd h
  passed_by status (Err (stops.Ended causes.Write)) h = inr (from_start causes.Write h)
  passed_by status (Err (stops.Ended causes.OutOfMemory)) h = inr (from_start causes.OutOfMemory h)
  passed_by status (Err (stops.Ended (causes.Frozen f))) h = absurd h
  passed_by status (Err (stops.Ended cause)) h = from_start cause h

pub passed : {R : Type 0} (script : R → Option Script) (old new : List (RunSource R)) (o : Options) (start : Start)
    (s : SessionState) (st : Result SessionState Stop) (status : ℕ) (r : Result Bool Stop) (d : Ending)
    (out0 out out' reported reported' : Option (List ℕ)) → st ≡ Ok s → d ≡ ending_by status r
    → BeginGives start o out0 out st
    → (old ≢ [] → RunReached script old new s (writers out out' reported reported') r)
    → OnePass script old new o start d.cause (writers out0 out' reported reported')
passed script old new o start s st status r d out0 out out' reported reported' f g b h = λ n.
    let k : BeginGives start o out0 out (Ok s) = subst (BeginGives start o out0 out) f b in
    subst (λ (x : Ending). OnePassBy script old new o start x.cause (writers out0 out' reported reported')) (sym g)
    (subst (λ (x : Start). OnePassBy script old new o x (ending_by status r).cause (writers out0 out' reported reported')) (sym k.2)
    (passed_by script old new o k.0 k.1 out0 out out' reported reported' k.4 status r
    (subst (λ (x : SessionState). RunReached script old new x (writers out out' reported reported') r) k.3 (h n))))
