-- Reached: what a session says of a file is what the run says of its current source.
use Rattle.std.proofs.Common.{◌≡◌, ◌⊎◌, inl, inr, ◌<◌, ◌≤◌, Bool, true, false, zero, suc, ℕ, ◌+◌, List, [], ◌∷◌, ◌++◌, length}
use Rattle.std.proofs.Common.{drop, drop-cons, Option, Some, None, refl, sym, ap, ◌∙◌, subst, arith, append_assoc}
use Rattle.std.proofs.Common.{append-nil}
use Rattle.std.specs.Prelude.{Result, Ok, Err, slice_set, slice_index_or}
use Rattle.m4_state.proofs.CallerLaws.{with_bytes-append, with_bytes-nil}
use Rattle.m4_state.specs.Device.{Script, after_bytes, with_bytes, IsAtEnd, IsAtFault}
use Rattle.m4_input.specs.Pending.{Pending}
use Rattle.m4_input.proofs.Calls.{reads_nothing}
use Rattle.m4_engine.specs.declared.ending.Cause.{Cause}
use Rattle.m4_engine.specs.declared.ending.Cause.TheVariants as causes
use Rattle.m4_engine.specs.declared.stop.Stop.{Stop}
use Rattle.m4_engine.specs.declared.stop.Stop.TheVariants as stops
use Rattle.m4_engine.specs.declared.source.Source.{Source as RunSource}
use Rattle.m4_engine.specs.declared.source.Source.TheVariants as sources
use Rattle.m4_engine.specs.Expansion.{RunSoFar, Limits, EndReason, Ends, Ended}
use Rattle.m4_engine.specs.Expand.{expand_input}
use Rattle.m4_engine.specs.File.{Source, Opened, Unopened, Progress, read_file, file_pending, over_of, after_source}
use Rattle.m4_engine.specs.File.{after_sources}
use Rattle.m4_engine.specs.RunSources.{script_of}
use Rattle.m4_engine.specs.Settled.{SettledSoFar, settled_ended, settled_by, settled_in}
use Rattle.m4_engine.specs.Session.{SessionState, progress_of, how_over, IsOpen, settled_part, FileAsked, FileFell}
use Rattle.m4_engine.specs.Session.{FileEnded, FileGives, MissingGives}
use Rattle.m4_engine.specs.Writers.{Contents, writers, HasWritten, WroteAtLeast}
use Rattle.m4_engine.specs.OnePass.{IsRead, IsCurrent, Reaches, AreRead, settled_after, ExactAtFault, AskedAt, Reached}
use Rattle.m4_engine.specs.OnePass.{left_after, EndsOrIsLast, EndedBy}
use Rattle.m4_engine.specs.SourcesRead.{EndsWithin, SourceGives, SourcesGive}
use Rattle.m4_engine.proofs.OnePass.{sources_append, Goes, input_goes}
use Rattle.m4_engine.proofs.GoingOn.{after, written_after, over_after_it, all_made}
use Rattle.m4_engine.proofs.Reading.{source_after}
use Rattle.m4_engine.proofs.RunsAfter.{input_after}
use Rattle.m4_engine.proofs.Sources.{missing_goes, source_is}

-- ---- what was settled, after what was written before

abbrev pub in_front : List ℕ → List ℕ → SettledSoFar → SettledSoFar
in_front o m s = record s { output = o ++ s.output; messages = m ++ s.messages }

abbrev so_far_after : List ℕ → List ℕ → RunSoFar → RunSoFar
so_far_after o m r = record r { output = o ++ r.output; messages = m ++ r.messages }

module _ (o m : List ℕ) (limits : Limits) where
  room : (k : ℕ) → 0 + k < limits.calls → k < limits.calls
  room k h = omega arith

  abbrev B : RunSoFar → RunSoFar
  B r = record (so_far_after o m r) { calls = 0 + r.calls }

  B_is : (r : RunSoFar) → so_far_after o m r ≡ B r
  B_is r =
      let n : r.calls ≡ 0 + r.calls = omega arith in
      ap (λ (k : ℕ). record (so_far_after o m r) { calls = k }) n

  ended_front : (r : RunSoFar) (p : Pending)
      → settled_ended (expand_input limits (so_far_after o m r) p) ≡ in_front o m (settled_ended (expand_input limits r p))
  ended_front r p =
      ap (λ (x : RunSoFar). settled_ended (expand_input limits x p)) (B_is r)
      ∙ by_end (input_after o m 0 limits.calls limits.calls limits.nesting limits.nesting room (λ k h. h) (λ h. ⊥)
      (inr (refl, refl)) (inr refl) (λ h x. absurd x) r p)
    where
      by_end : ⊥ ⊎ (expand_input limits (B r) p
          ≡ record { so_far = B (expand_input limits r p).so_far; reason = (expand_input limits r p).reason })
          → settled_ended (expand_input limits (B r) p) ≡ in_front o m (settled_ended (expand_input limits r p))
      by_end (inl x) = absurd x
      by_end (inr h) = ap settled_ended h

  settled_front : (h : Option EndReason) (r : RunSoFar) (name x : List ℕ)
      → settled_by h limits (so_far_after o m r) name x ≡ in_front o m (settled_by h limits r name x)
  settled_front (Some h) r name x = refl
  settled_front None r name x = ended_front r (file_pending name x true)

  pub in_front_is : (p : Progress) (name x : List ℕ) → settled_in limits (after o m p) name x ≡ in_front o m (settled_in limits p name x)
  in_front_is p name x = settled_front p.over p.so_far name x

-- what was written after it
pub further : (old mid new : Option (List ℕ)) (o x y : List ℕ) → mid ≡ with_bytes old o → new ≡ with_bytes mid (x ++ y) → new ≡ with_bytes old ((o ++ x) ++ y)
further old mid new o x y e f =
    f ∙ ap (λ (v : Option (List ℕ)). with_bytes v (x ++ y)) e ∙ with_bytes-append old o (x ++ y) ∙ ap (with_bytes old) (sym (append_assoc o x y))

module _ (o m : List ℕ) (out0 out out' reported0 reported reported' : Option (List ℕ)) (e : out ≡ with_bytes out0 o)
    (h : reported ≡ with_bytes reported0 m) where
  pub exact_further : (cause : Cause) (s : SettledSoFar) → ExactAtFault cause s (writers out out' reported reported')
      → ExactAtFault cause (in_front o m s) (writers out0 out' reported0 reported')
  exact_further causes.Read s x = (
    x.0,
    record {
      output = (x.1).output ∙ ap (λ (v : Option (List ℕ)). with_bytes v s.output) e ∙ with_bytes-append out0 o s.output;
      messages = (x.1).messages ∙ ap (λ (v : Option (List ℕ)). with_bytes v s.messages) h ∙ with_bytes-append reported0 m s.messages;
    },
  )
  exact_further cause s x = tt

  abbrev pub asked_further : (f g : List ℕ → SettledSoFar) (cause : Cause) (taken : List ℕ)
      → ((x : List ℕ) → g x ≡ in_front o m (f x)) → AskedAt f cause taken (writers out out' reported reported')
      → AskedAt g cause taken (writers out0 out' reported0 reported')
  asked_further f g cause taken k a = record {
    asked = a.asked;
    last = a.last;
    parts = a.parts;
    within = a.within;
    undecided = ap (λ (y : SettledSoFar). y.reason) (k a.asked) ∙ a.undecided;
    written = subst (λ (y : SettledSoFar). WroteAtLeast y.output y.messages (writers out0 out' reported0 reported')) (sym (k a.asked)) (record {
      more = (a.written).more;
      output = further out0 out out' o (f a.asked).output (a.written).more e (a.written).output;
      more_messages = (a.written).more_messages;
      messages = further reported0 reported reported' m (f a.asked).messages (a.written).more_messages h (a.written).messages;
    });
    exact = subst (λ (y : SettledSoFar). ExactAtFault cause y (writers out0 out' reported0 reported')) (sym (k taken)) (exact_further cause (f taken) a.exact);
  }

-- ---- one source

-- what a file settles in an open session
open_part : (s : SessionState) (name x : List ℕ) → IsOpen s → settled_in s.limits (progress_of s) name x ≡ settled_ended (settled_part s name x)
open_part s name x l = ap (λ (v : Option Cause). settled_by (how_over v) s.limits (progress_of s).so_far name x) l.over

abbrev asked_so : (s : SessionState) (name x : List ℕ) (w : Contents) (cause : Cause) → IsOpen s
    → ExactAtFault cause (settled_in s.limits (progress_of s) name x) w → FileAsked s name x w
    → AskedAt (settled_in s.limits (progress_of s) name) cause x w
asked_so s name x w cause l k a = record {
  asked = a.asked;
  last = a.last;
  parts = a.parts;
  within = a.within;
  undecided = ap (λ (y : SettledSoFar). y.reason) (open_part s name a.asked l) ∙ a.undecided;
  written = subst (λ (y : SettledSoFar). WroteAtLeast y.output y.messages w) (sym (open_part s name a.asked l)) a.written;
  exact = k;
}

-- nothing was taken: nothing is settled
pub none_asked : (s : SessionState) (name o m : List ℕ) (w : Contents) (cause : Cause) → IsOpen s
    → ExactAtFault cause (settled_in s.limits (progress_of s) name []) w → HasWritten o m w
    → AskedAt (settled_in s.limits (progress_of s) name) cause [] w
none_asked s name o m w cause l k h = asked_so s name [] w cause l k (record {
  asked = [];
  last = [];
  parts = refl;
  within = omega arith;
  undecided = refl;
  written = record { more = o; output = h.output; more_messages = m; messages = h.messages };
})

-- the reader failed
abbrev fell_so : (s s' : SessionState) (name : List ℕ) (before after' : Option Script) (w : Contents) → IsOpen s
    → (f : FileFell name before after' s s' w) → AskedAt (settled_in s.limits (progress_of s) name) causes.Read f.x w
fell_so s s' name before after' w l f =
    asked_so s name f.x w causes.Read l
    (subst (λ (y : SettledSoFar). ExactAtFault causes.Read y w) (sym (open_part s name f.x l)) (f.reason, record { output = f.output; messages = f.messages }))
    (record {
      asked = f.x;
      last = [];
      parts = sym (append-nil f.x);
      within = omega arith;
      undecided = f.reason;
      written = record {
        more = [];
        output = f.output ∙ ap (with_bytes w.out_old) (sym (append-nil _));
        more_messages = [];
        messages = f.messages ∙ ap (with_bytes w.messages_old) (sym (append-nil _));
      };
    })

-- the end of a file that ended the run
over_reason : (h : EndReason) (c : EndReason) → over_of h ≡ Some c → h ≡ c
over_reason (Ends causes.Done) c e = absurd cc
over_reason reason c e = cc

over_is : (s : SessionState) (name x : List ℕ) → IsOpen s
    → (after_source s.limits (Opened name x) (progress_of s)).over ≡ over_of (read_file s.limits (progress_of s).so_far name x).reason
over_is s name x l = ap (λ (o : Option Cause). (after_source s.limits (Opened name x) (record (progress_of s) { over = how_over o })).over) l.over

-- the file ended the run, whatever the cause, unless a device or an allocation failed
abbrev Sum : Cause → SettledSoFar → Type 0 → Option Script → Type 0 → Type 0
Sum cause s all left closed = (s.reason ≡ Ends cause) ⊎ (all × IsAtEnd left × closed)

module _ {R : Type 0} (script : R → Option Script) (name : List ℕ) (before later : R) (old new : SessionState)
    (w : Contents) (cause : Cause) (l : IsOpen old)
    (h : FileEnded name (script before) (script later) old new w cause) (k : (x : SettledSoFar) → ExactAtFault cause x w)
    (j : (s : SettledSoFar) (all : Type 0) (left : Option Script) (closed : Type 0) → Sum cause s all left closed → EndedBy cause s all left closed) where
  abbrev Within : Type 0
  Within = EndsWithin script (sources.Opened name before) (sources.Opened name later) old w cause

  abbrev x : List ℕ
  x = (h.0).x

  by_bytes : (settled_part old name x).reason ≡ Ends cause → Within
  by_bytes e = (
    name,
    x,
    (refl, refl, (h.0).given),
    asked_so old name x w cause l (k _) (h.0).asked,
    j _ _ _ _ (inl (ap (λ (y : SettledSoFar). y.reason) (open_part old name x l) ∙ e)),
  )

  closed_by : (after_source old.limits (Opened name (x ++ [])) (progress_of old)).over ≡ Some (Ends cause)
      → (after_source old.limits (Opened name x) (progress_of old)).over ≡ Some (Ends cause)
  closed_by e = subst (λ (y : List ℕ). (after_source old.limits (Opened name y) (progress_of old)).over ≡ Some (Ends cause)) (append-nil x) e

  at_its_end : IsAtEnd (script later) → Within
  at_its_end a =
      let c = (h.0).so [] (λ e. refl) in
      let over : (after_source old.limits (Opened name (x ++ [])) (progress_of old)).over ≡ Some (Ends cause) =
      over_after_it new (after_source old.limits (Opened name (x ++ [])) (progress_of old)) cause c.progress h.1 in
      let so_far = source_is old name (x ++ []) l in
      by_end a over so_far c.output c.messages (input_goes old.limits (progress_of old).so_far name x [])
    where
      by_end : IsAtEnd (script later)
          → (after_source old.limits (Opened name (x ++ [])) (progress_of old)).over ≡ Some (Ends cause)
          → (after_source old.limits (Opened name (x ++ [])) (progress_of old)).so_far ≡ (read_file old.limits (progress_of old).so_far name (x ++ [])).so_far
          → w.out_new ≡ with_bytes w.out_old ((after_source old.limits (Opened name (x ++ [])) (progress_of old)).so_far).output
          → w.messages_new ≡ with_bytes w.messages_old ((after_source old.limits (Opened name (x ++ [])) (progress_of old)).so_far).messages
          → Goes (settled_part old name x) (read_file old.limits (progress_of old).so_far name (x ++ [])) → Within
      by_end a over same o m (inl g) = (
        name,
        x,
        (refl, refl, (h.0).given),
        asked_so old name x w cause l (k _) (record {
          asked = x;
          last = [];
          parts = sym (append-nil x);
          within = omega arith;
          undecided = g.0;
          written = record {
            more = (g.1).more;
            output = o ∙ ap (λ (r : RunSoFar). with_bytes w.out_old r.output) same ∙ ap (with_bytes w.out_old) (g.1).output;
            more_messages = (g.1).reported;
            messages = m ∙ ap (λ (r : RunSoFar). with_bytes w.messages_old r.messages) same ∙ ap (with_bytes w.messages_old) (g.1).messages;
          };
        }),
        j _ _ _ _ (inr (refl, a, closed_by over)),
      )
      by_end a over same o m (inr g) =
          by_bytes (ap (λ (d : Ended). d.reason) (sym g.0) ∙ over_reason _ (Ends cause) (sym (over_is old name (x ++ []) l) ∙ over))

  by_flag : (b : Bool) → (h.0).may_follow ≡ b → Within
  by_flag true e = by_bytes (h.2 e)
  by_flag false e = at_its_end ((h.0).at_end e)

  ended_within : Within
  ended_within = by_flag (h.0).may_follow refl

module _ {R : Type 0} (script : R → Option Script) where
  -- a file, by the answer
  pub file_source : (name : List ℕ) (before after' : R) (old new : SessionState) (w : Contents) (r : Result Unit Stop) → IsOpen old
      → FileGives name (script before) (script after') old new w r
      → SourceGives script (sources.Opened name before) (sources.Opened name after') old new w r
  file_source name before after' old new w (Ok done) l h = (Opened name h.0, (refl, refl, h.1, h.2), h.3)
  file_source name before after' old new w (Err stops.Finished) l h = absurd ((h.0).closed l)
  file_source name before after' old new w (Err (stops.Ended causes.Read)) l h =
      (name, h.x, (refl, refl, h.given), fell_so old new name (script before) (script after') w l h, (refl, h.at_fault))
  file_source name before after' old new w (Err (stops.Ended causes.Write)) l h =
      (name, (h.0).x, (refl, refl, (h.0).given), asked_so old name (h.0).x w causes.Write l tt (h.0).asked, tt)
  file_source name before after' old new w (Err (stops.Ended causes.OutOfMemory)) l h =
      (name, (h.0).x, (refl, refl, (h.0).given), asked_so old name (h.0).x w causes.OutOfMemory l tt (h.0).asked, tt)
  file_source name before after' old new w (Err (stops.Ended causes.Done)) l h = absurd h
  file_source name before after' old new w (Err (stops.Ended (causes.Frozen f))) l h = absurd h
  file_source name before after' old new w (Err (stops.Ended cause)) l h =
      ended_within script name before after' old new w cause l h (λ x. tt) (λ s a l c e. e)

  pub file_so : (name : List ℕ) (before later : R) (first last : RunSource R)
      (old new : SessionState) (w : Contents) (r : Result Unit Stop) → first ≡ sources.Opened name before
      → last ≡ sources.Opened name later → IsOpen old → FileGives name (script before) (script later) old new w r
      → SourceGives script first last old new w r
  file_so name before later first last old new w r f b l h =
      subst (λ x. SourceGives script x last old new w r) (sym f)
      (subst (λ x. SourceGives script (sources.Opened name before) x old new w r) (sym b) (file_source name before later old new w r l h))

  -- a source that wasn't opened
  missing_source : (name : List ℕ) (old new : SessionState) (w : Contents)
      (r : Result Unit Stop) → IsOpen old → w.out_new ≡ w.out_old
      → MissingGives name old new w.messages_old w.messages_new r
      → SourceGives script (sources.Unopened name) (sources.Unopened name) old new w r
  missing_source name old new w (Ok done) l o h = (Unopened name, (refl, refl), (missing_goes old new name w (Ok done) l o h).0)
  missing_source name old new w (Err stops.Finished) l o h = absurd (h.0 l)
  missing_source name old new w (Err (stops.Ended causes.Write)) l o h = (
    name,
    [],
    (refl, refl, refl),
    none_asked old name [] _ w causes.Write l tt
        (record { output = o ∙ with_bytes-nil w.out_old; messages = ((h.1).1).holds }),
    tt,
  )
  missing_source name old new w (Err (stops.Ended cause)) l o h = absurd h

  pub missing_so : (name : List ℕ) (x y : RunSource R) (old new : SessionState) (w : Contents) (r : Result Unit Stop) → x ≡ sources.Unopened name
      → y ≡ sources.Unopened name → IsOpen old → w.out_new ≡ w.out_old
      → MissingGives name old new w.messages_old w.messages_new r → SourceGives script x y old new w r
  missing_so name x y old new w r e f l o h =
      subst (λ z. SourceGives script z y old new w r) (sym e)
      (subst (λ z. SourceGives script (sources.Unopened name) z old new w r) (sym f) (missing_source name old new w r l o h))

-- a source that wasn't read, for want of memory
same_bytes : (s : Option Script) → s ≡ after_bytes [] s
same_bytes s = (reads_nothing s (file_pending [] [] true)).given

module _ {R : Type 0} (script : R → Option Script) where
  unread_within : (x : RunSource R) (old : SessionState)
      (out reported : Option (List ℕ)) → IsOpen old
      → EndsWithin script x x old (writers out out reported reported) causes.OutOfMemory
  unread_within (sources.Opened name r) old out reported l = (
    name,
    [],
    (refl, refl, same_bytes (script r)),
    none_asked old name [] [] (writers out out reported reported) causes.OutOfMemory l tt
        (record { output = with_bytes-nil out; messages = with_bytes-nil reported }),
    tt,
  )
  unread_within (sources.Unopened name) old out reported l = (
    name,
    [],
    (refl, refl, refl),
    none_asked old name [] [] (writers out out reported reported) causes.OutOfMemory l tt
        (record { output = with_bytes-nil out; messages = with_bytes-nil reported }),
    tt,
  )

  pub unread_so : (x y : RunSource R) (old new : SessionState)
      (out reported : Option (List ℕ)) (r : Result Unit Stop) → x ≡ y → r ≡ Err (stops.Ended causes.OutOfMemory)
      → IsOpen old → SourceGives script x y old new (writers out out reported reported) r
  unread_so x y old new out reported r f i l =
      subst (λ z. SourceGives script x z old new (writers out out reported reported) r) f
      (subst (λ (z : Result Unit Stop). SourceGives script x x old new (writers out out reported reported) z) (sym i) (unread_within x old out reported l))

-- ---- the sources in order

module _ {R : Type 0} (script : R → Option Script) where
  -- the first i sources were read to their ends
  abbrev pub FirstRead : ℕ → List (RunSource R) → List (RunSource R) → List Source → Type 0
  FirstRead zero before after' [] = Unit {0}
  FirstRead (suc i) (x ∷ xs) (y ∷ ys) (s ∷ ss) = IsRead script x y s × FirstRead i xs ys ss
  FirstRead i before after' ss = ⊥

  -- the next source was read too
  next_read : (i : ℕ) (xs ys : List (RunSource R)) (x v : RunSource R)
      (ss : List Source) (t : Source) → drop i xs ≡ drop i ys → drop i xs ≡ x ∷ drop (suc i) xs
      → FirstRead i ys xs ss → IsRead script x v t
      → FirstRead (suc i) ys (slice_set xs i v) (ss ++ t ∷ [])
  next_read zero [] ys x v ss t e d f h = cc
  next_read zero (a ∷ xs) [] x v ss t e d f h = cc
  next_read zero (a ∷ xs) (b ∷ ys) x v [] t e d f h =
      let k : x ≡ b = cc in
      (subst (λ (y : RunSource _). IsRead script y v t) k h, tt)
  next_read zero (a ∷ xs) (b ∷ ys) x v (s ∷ ss) t e d f h = absurd f
  next_read (suc i) [] ys x v ss t e d f h = cc
  next_read (suc i) (a ∷ xs) [] x v ss t e d f h = absurd f
  next_read (suc i) (a ∷ xs) (b ∷ ys) x v [] t e d f h = absurd f
  next_read (suc i) (a ∷ xs) (b ∷ ys) x v (s ∷ ss) t e d f h = (f.0, next_read i xs ys x v ss t e d f.1 h)

  -- the next source is the current one
  next_reached : (i : ℕ) (xs ys : List (RunSource R)) (x v : RunSource R)
      (ss : List Source) (name taken : List ℕ) → drop i xs ≡ drop i ys → drop i xs ≡ x ∷ drop (suc i) xs
      → FirstRead i ys xs ss → IsCurrent script x v name taken
      → Reaches script ys (slice_set xs i v) ss name taken
  next_reached zero [] ys x v ss name taken e d f h = cc
  next_reached zero (a ∷ xs) [] x v ss name taken e d f h = cc
  next_reached zero (a ∷ xs) (b ∷ ys) x v [] name taken e d f h =
      let k : x ≡ b = cc in
      let l : xs ≡ ys = cc in
      (subst (λ (y : RunSource _). IsCurrent script y v name taken) k h, l)
  next_reached zero (a ∷ xs) (b ∷ ys) x v (s ∷ ss) name taken e d f h = absurd f
  next_reached (suc i) [] ys x v ss name taken e d f h = cc
  next_reached (suc i) (a ∷ xs) [] x v ss name taken e d f h = absurd f
  next_reached (suc i) (a ∷ xs) (b ∷ ys) x v [] name taken e d f h = absurd f
  next_reached (suc i) (a ∷ xs) (b ∷ ys) x v (s ∷ ss) name taken e d f h = (f.0, next_reached i xs ys x v ss name taken e d f.1 h)

  -- what its reader was left with
  left_at : (i : ℕ) (xs ys : List (RunSource R)) (x v : RunSource R)
      (ss : List Source) → drop i xs ≡ x ∷ drop (suc i) xs → FirstRead i ys xs ss
      → script_of script v ≡ left_after script (slice_set xs i v) ss
  left_at zero [] ys x v ss d f = cc
  left_at zero (a ∷ xs) ys x v [] d f = refl
  left_at zero (a ∷ xs) ys x v (s ∷ ss) d f = absurd f
  left_at (suc i) [] ys x v ss d f = cc
  left_at (suc i) (a ∷ xs) [] x v ss d f = absurd f
  left_at (suc i) (a ∷ xs) (b ∷ ys) x v [] d f = absurd f
  left_at (suc i) (a ∷ xs) (b ∷ ys) x v (s ∷ ss) d f = left_at i xs ys x v ss d f.1

-- where it ended, after what came before
sum_map : (cause : Cause) (s s' : SettledSoFar) (all : Type 0) (left left' : Option Script) (c c' : Type 0)
    → s'.reason ≡ s.reason → left ≡ left' → (c → c') → Sum cause s all left c → Sum cause s' all left' c'
sum_map cause s s' all left left' c c' e f g (inl h) = inl (e ∙ h)
sum_map cause s s' all left left' c c' e f g (inr h) = inr (h.0, subst IsAtEnd f h.1, g h.2)

pub ended_map : (cause : Cause) (s s' : SettledSoFar) (all : Type 0) (left left' : Option Script) (c c' : Type 0)
    → s'.reason ≡ s.reason → left ≡ left' → (c → c') → EndedBy cause s all left c → EndedBy cause s' all left' c'
ended_map causes.Write s s' all left left' c c' e f g h = tt
ended_map causes.OutOfMemory s s' all left left' c c' e f g h = tt
ended_map causes.Read s s' all left left' c c' e f g h = (h.0, subst IsAtFault f h.1)
ended_map cause s s' all left left' c c' e f g h = sum_map cause s s' all left left' c c' e f g h

module _ {R : Type 0} (script : R → Option Script) where
  -- all were read
  were_read : (i : ℕ) (xs ys : List (RunSource R)) (ss : List Source)
      → drop i xs ≡ drop i ys → length xs ≤ i → FirstRead script i ys xs ss → AreRead script ys xs ss
  were_read zero [] [] [] e l f = tt
  were_read zero [] [] (s ∷ ss) e l f = absurd f
  were_read zero [] (b ∷ ys) ss e l f = cc
  were_read zero (a ∷ xs) ys ss e l f = absurd (omega arith)
  were_read (suc i) [] [] ss e l f = absurd f
  were_read (suc i) [] (b ∷ ys) [] e l f = absurd f
  were_read (suc i) [] (b ∷ ys) (s ∷ ss) e l f = absurd f
  were_read (suc i) (a ∷ xs) [] ss e l f = absurd f
  were_read (suc i) (a ∷ xs) (b ∷ ys) [] e l f = absurd f
  were_read (suc i) (a ∷ xs) (b ∷ ys) (s ∷ ss) e l f = (f.0, were_read i xs ys ss e (omega arith) f.1)

  -- so far the sources were read: this was written, and the session goes on from there
  pub record ReadSoFar (i : ℕ) (before after' : List (RunSource R)) (s0 s : SessionState) (w : Contents) : Type 0 where
    pub ss : List Source
    pub first : FirstRead script i before after' ss
    pub o : List ℕ
    pub m : List ℕ
    pub written : HasWritten o m w
    pub limits : s.limits ≡ s0.limits
    pub here : after_sources s0.limits ss (progress_of s0) ≡ after o m (progress_of s)

  pub none_yet : (xs : List (RunSource R)) (s : SessionState)
      (out reported : Option (List ℕ)) → ReadSoFar 0 xs xs s s (writers out out reported reported)
  none_yet xs s out reported = record {
    ss = [];
    first = tt;
    o = [];
    m = [];
    written = record { output = with_bytes-nil out; messages = with_bytes-nil reported };
    limits = refl;
    here = refl;
  }

module _ {R : Type 0} (script : R → Option Script) (i : ℕ) (xs ys : List (RunSource R)) (x v : RunSource R)
    (s0 s s' : SessionState) (out0 out out' reported0 reported reported' : Option (List ℕ))
    (e : drop i xs ≡ drop i ys) (n : i < length xs)
    (b : ReadSoFar script i ys xs s0 s (writers out0 out reported0 reported)) where
  item_is : slice_index_or xs i x ∷ drop (suc i) xs ≡ drop i xs
  item_is = sym (drop-cons xs i x n)

  pub one_more_read : SourceGives script (slice_index_or xs i x) v s s' (writers out out' reported reported') (Ok tt)
      → ReadSoFar script (i + 1) ys (slice_set xs i v) s0 s' (writers out0 out' reported0 reported')
  one_more_read h =
      let p : Progress = after_source s.limits h.0 (progress_of s) in
      let f = h.2 in
      let j : suc i ≡ i + 1 = omega arith in
      record {
        ss = b.ss ++ h.0 ∷ [];
        first = subst (λ (k : ℕ). FirstRead script k ys (slice_set xs i v) (b.ss ++ h.0 ∷ [])) j
            (next_read script i xs ys (slice_index_or xs i x) v b.ss h.0 e (sym item_is) b.first h.1);
        o = b.o ++ (p.so_far).output;
        m = b.m ++ (p.so_far).messages;
        written = record {
          output = f.output ∙ ap (λ y. with_bytes y (p.so_far).output) (b.written).output ∙ with_bytes-append out0 b.o (p.so_far).output;
          messages = f.messages ∙ ap (λ y. with_bytes y (p.so_far).messages) (b.written).messages ∙ with_bytes-append reported0 b.m (p.so_far).messages;
        };
        limits = f.limits ∙ b.limits;
        here = sources_append s0.limits b.ss (h.0 ∷ []) (progress_of s0)
            ∙ ap (after_sources s0.limits (h.0 ∷ [])) b.here
            ∙ source_after s0 s b.o b.m h.0 [] b.limits
            ∙ written_after b.o b.m p (progress_of s') f.progress;
      }

  -- what is settled here
  settled_here : (name y : List ℕ) → settled_after s0.limits (progress_of s0) b.ss name y ≡ in_front b.o b.m (settled_in s.limits (progress_of s) name y)
  settled_here name y =
      ap (λ (p : Progress). settled_in s0.limits p name y) b.here
      ∙ in_front_is b.o b.m s0.limits (progress_of s) name y
      ∙ ap (λ (l : Limits). in_front b.o b.m (settled_in l (progress_of s) name y)) (sym b.limits)

  -- the end of the next source ends the run
  closed_here : (name y : List ℕ) (cause : Cause)
      → (after_source s.limits (Opened name y) (progress_of s)).over ≡ Some (Ends cause)
      → EndsOrIsLast ys s0.limits (progress_of s0) b.ss name y cause
  closed_here name y cause h =
      let all : after_sources s0.limits (b.ss ++ Opened name y ∷ []) (progress_of s0) ≡ after b.o b.m (after_source s.limits (Opened name y) (progress_of s)) =
      sources_append s0.limits b.ss (Opened name y ∷ []) (progress_of s0)
      ∙ ap (after_sources s0.limits (Opened name y ∷ [])) b.here ∙ source_after s0 s b.o b.m (Opened name y) [] b.limits in
      inl (ap (λ (p : Progress). p.over) all ∙ h)

  ends_here : (cause : Cause) → EndsWithin script (slice_index_or xs i x) v s (writers out out' reported reported')
      cause → Reached script ys (slice_set xs i v) s0.limits (progress_of s0) cause (writers out0 out' reported0 reported')
  ends_here cause h = record {
    before = b.ss;
    name = h.0;
    taken = h.1;
    place = next_reached script i xs ys (slice_index_or xs i x) v b.ss h.0 h.1 e (sym item_is) b.first h.2;
    at = asked_further b.o b.m out0 out out' reported0 reported reported' (b.written).output (b.written).messages
        (settled_in s.limits (progress_of s) h.0) (settled_after s0.limits (progress_of s0) b.ss h.0) cause h.1
        (settled_here h.0) h.3;
    ended = ended_map cause _ _ _ _ _ _ _ (ap (λ (y : SettledSoFar). y.reason) (settled_here h.0 h.1))
        (left_at script i xs ys (slice_index_or xs i x) v b.ss (sym item_is) b.first) (closed_here h.0 h.1 cause) h.4;
  }

  stops_here : (y : Stop) → SourceGives script (slice_index_or xs i x) v s s' (writers out out' reported reported')
      (Err y) → SourcesGive script ys (slice_set xs i v) s0 s' (writers out0 out' reported0 reported') (Err y)
  stops_here stops.Finished h = absurd h
  stops_here (stops.Ended (causes.Frozen f)) h = absurd h
  stops_here (stops.Ended cause) h = ends_here cause h

  pub stops_so : (y : Stop) (q r : Result Unit Stop) → q ≡ Err y → r ≡ Err y
      → SourceGives script (slice_index_or xs i x) v s s' (writers out out' reported reported') q
      → SourcesGive script ys (slice_set xs i v) s0 s' (writers out0 out' reported0 reported') r
  stops_so y q r f g h =
      subst (SourcesGive script ys (slice_set xs i v) s0 s' (writers out0 out' reported0 reported')) (sym g)
      (stops_here y (subst (SourceGives script (slice_index_or xs i x) v s s' (writers out out' reported reported')) f h))

pub all_read_so : {R : Type 0} (script : R → Option Script) (i : ℕ) (xs ys : List (RunSource R)) (s0 s : SessionState)
    (w : Contents) → drop i xs ≡ drop i ys → length xs ≤ i → IsOpen s0 → IsOpen s → ReadSoFar script i ys xs s0 s w
    → SourcesGive script ys xs s0 s w (Ok tt)
all_read_so script i xs ys s0 s w e n l0 l b =
    (b.ss, were_read script i xs ys b.ss e n b.first, (all_made b.o b.m s0 s w _ l0 l b.limits (b.written).output (b.written).messages (sym b.here)).0)
