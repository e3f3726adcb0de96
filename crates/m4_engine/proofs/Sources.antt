-- Sources: the effect of a session's call on a source, if its reader's bytes are known and the reader ends.
use Rattle.std.proofs.Common.{◌≡◌, inl, inr, ℕ, Bool, true, false, List, [], ◌++◌, Option, Some, None, refl, sym, ap}
use Rattle.std.proofs.Common.{◌∙◌, subst, append-nil}
use Rattle.std.specs.Prelude.{Result, Ok, Err}
use Rattle.m4_state.proofs.CallerLaws.{with_bytes-nil}
use Rattle.m4_state.specs.Device.{Script, after_bytes, IsAtEnd, with_bytes, HasBegun}
use Rattle.m4_engine.specs.declared.ending.Cause.{Cause}
use Rattle.m4_engine.specs.declared.ending.Cause.TheVariants as causes
use Rattle.m4_engine.specs.declared.stop.Stop.{Stop}
use Rattle.m4_engine.specs.declared.stop.Stop.TheVariants as stops
use Rattle.m4_engine.specs.Expansion.{RunSoFar, Expansion, Ended, NeedsInput, with_message}
use Rattle.m4_engine.specs.Expand.{expand, expansion_of, ended_of}
use Rattle.m4_engine.specs.Nesting.{Outcome, Halted, Closed}
use Rattle.m4_engine.specs.Moments.{so_far_in}
use Rattle.m4_engine.proofs.Growth.{Extends, longer_level, Begins}
use Rattle.m4_engine.proofs.OnlyGrows.{extends_same}
use Rattle.m4_engine.proofs.Continues.{law}
use Rattle.m4_engine.specs.File.{Source, Opened, Unopened, Progress, read_file, file_pending, after_source, cannot_open}
use Rattle.m4_engine.specs.declared.source.Source.{Source as RunSource}
use Rattle.m4_engine.specs.declared.source.Source.TheVariants as sources
use Rattle.m4_engine.specs.RunSources.{opened_source, ExtendsRead, ExtendsOpened, script_of}
use Rattle.m4_engine.specs.RunSources.{ConsumesOnly}
use Rattle.m4_engine.specs.Session.{SessionState, progress_of, IsOpen, Completed, Interrupted, how_over, FileDone}
use Rattle.m4_engine.specs.Session.{FileRead, FileEnded, FileBroke, FileFell, settled_part, FileGives, MissingGives}
use Rattle.m4_engine.specs.Writers.{Contents, Broken}
use Rattle.std.proofs.lemmas.List.{append_cancel_right}
use Rattle.m4_engine.proofs.Begins.{nothing_begun}
use Rattle.m4_engine.proofs.Cases.{whole, DescribesSource}
use Rattle.m4_engine.specs.SessionSteps.{BrokeOff, GoesTo}

-- the source is what was read, and what may follow it
abbrev pub Suits : List ℕ → Option Script → Option Script → Source → Type 0
Suits name before after s = (x : List ℕ) (more : Bool) → before ≡ after_bytes x after → (more ≡ false → IsAtEnd after)
    → (z : List ℕ) × (more ≡ false → z ≡ []) × (s ≡ Opened name (x ++ z))

-- a reader whose bytes are known and that ends
all_given : (name : List ℕ) (before after : Option Script) (s : Source) → opened_source name before ≡ Some s → Suits name before after s
all_given name None after s t x more g a = cc
all_given name (Some sc) None s t x more g a = cc
all_given name (Some sc) (Some b) s t x more g a =
    let e : sc ≡ record { bytes = x ++ b.bytes; fails = b.fails } = cc in
    let f : whole name (x ++ b.bytes) b.fails ≡ Some s = sym (ap (λ (k : Script). whole name k.bytes k.fails) e) ∙ t in
    (b.bytes, (λ h. (a h).0), by_end b.fails f)
  where
    by_end : (v : Bool) → whole name (x ++ b.bytes) v ≡ Some s → s ≡ Opened name (x ++ b.bytes)
    by_end true h = cc
    by_end false h = let k : Opened name (x ++ b.bytes) ≡ s = cc in sym k

-- a source that begins with what was taken
may_suit : (name : List ℕ) (before after : Option Script) (s : Source) → ExtendsOpened name before after s → Suits name before after s
may_suit name None after s m x more g a = absurd m
may_suit name (Some b) None s m x more g a = absurd m
may_suit name (Some b) (Some e) (Unopened n) m x more g a = absurd m
may_suit name (Some b) (Some e) (Opened n bytes) m x more g a =
    let k : ExtendsRead b e bytes = m.1 in
    let f : b.bytes ≡ x ++ e.bytes = cc in
    let t : k.taken ≡ x = append_cancel_right k.taken x e.bytes (sym k.given ∙ f) in
    (k.more, (λ h. k.ended (a h).0 (a h).1), ap (λ y. Opened y bytes) m.0 ∙ ap (Opened name) (k.begins ∙ ap (λ y. y ++ k.more) t))

pub described_suit : {R : Type 0} (script : R → Option Script) (name : List ℕ) (r : R) (after : RunSource R)
    (s : Source) → DescribesSource script (sources.Opened name r) after s → Suits name (script r) (script_of script after) s
described_suit script name r after s (inl t) = all_given name (script r) (script_of script after) s t
described_suit script name r after s (inr m) = may_suit name (script r) (script_of script after) s m

-- what is so of all that may follow is so of the source
pub so_of : (name : List ℕ) (before after : Option Script) (s : Source) (Q : List ℕ → Type 0) (P : Source → Type 0)
    → Suits name before after s → FileRead before after Q (λ bytes. P (Opened name bytes)) → P s
so_of name before after s Q P t h =
    let k = t h.x h.may_follow h.given h.at_end in
    subst P (sym k.2) (h.so k.0 k.1)

-- an open session reads a file
pub source_is : (old : SessionState) (name x : List ℕ) → IsOpen old → (after_source old.limits (Opened name x) (progress_of old)).so_far
    ≡ (read_file old.limits (progress_of old).so_far name x).so_far
source_is old name x l = ap (λ (o : Option Cause). (after_source old.limits (Opened name x) (record (progress_of old) { over = how_over o })).so_far) l.over

silent_begun : (o n : Option (List ℕ)) (x : List ℕ) → n ≡ o → HasBegun o n x
silent_begun o n x e = subst (λ (y : Option (List ℕ)). HasBegun o y x) (sym e) (nothing_begun o x)

-- it was read to its end
done_goes : (old new : SessionState) (name : List ℕ) (before after : Option Script) (w : Contents) (s : Source)
    → Suits name before after s → FileDone name before after old new w
    → Completed old new (after_source old.limits s (progress_of old)) w × (new.over ≡ None)
done_goes old new name before after w s t h =
    let k = t h.0 false h.1 (λ e. h.2) in
    let same : s ≡ Opened name h.0 = k.2 ∙ ap (λ (z : List ℕ). Opened name (h.0 ++ z)) (k.1 refl) ∙ ap (Opened name) (append-nil h.0) in
    (subst (λ (s : Source). Completed old new (after_source old.limits s (progress_of old)) w) (sym same) h.3, h.4)

ended_goes : (old new : SessionState) (name : List ℕ) (before after : Option Script) (w : Contents) (s : Source)
    (cause : Cause) → Suits name before after s → FileEnded name before after old new w cause
    → Completed old new (after_source old.limits s (progress_of old)) w × (new.over ≡ Some cause)
ended_goes old new name before after w s cause t h =
    (so_of name before after s _ (λ s. Completed old new (after_source old.limits s (progress_of old)) w) t h.0, h.1)

broke_so : (old new : SessionState) (name bytes : List ℕ) (w : Contents) (cause : Cause) → Interrupted old new cause
    → Broken (read_file old.limits (progress_of old).so_far name bytes) w
    → BrokeOff new (after_source old.limits (Opened name bytes) (progress_of old)) w cause
broke_so old new name bytes w cause f h = record {
  over = f.over;
  output = subst (λ (r : RunSoFar). HasBegun w.out_old w.out_new r.output) (sym (source_is old name bytes f.live)) h.output;
  messages = subst (λ (r : RunSoFar). HasBegun w.messages_old w.messages_new r.messages) (sym (source_is old name bytes f.live)) h.messages;
}

broke_goes : (old new : SessionState) (name : List ℕ) (before after : Option Script) (w : Contents) (s : Source)
    (cause : Cause) → Suits name before after s → FileBroke name before after old new w cause
    → BrokeOff new (after_source old.limits s (progress_of old)) w cause
broke_goes old new name before after w s cause t h =
    let r = h.0 in
    so_of name before after s (λ x. Unit) (λ s. BrokeOff new (after_source old.limits s (progress_of old)) w cause) t
    (record {
      x = r.x;
      may_follow = r.may_follow;
      given = r.given;
      at_end = r.at_end;
      asked = tt;
      so = λ z e. broke_so old new name (r.x ++ z) w cause h.1 (r.so z e);
    })

-- ---- what a prefix of a file settles is a prefix of what the file gives

made_in_end : (o : Outcome Expansion Ended) → so_far_in o ≡ (ended_of o).so_far
made_in_end (Halted d) = refl
made_in_end (Closed s) = refl

settled_by : (z : List ℕ) (o v : Outcome Expansion Ended) → Begins z false o v → (ended_of o).reason ≡ NeedsInput
    → Extends (ended_of o).so_far (ended_of v).so_far
settled_by z (Halted d) v (inl h) e = subst (Extends d.so_far) (made_in_end v) h.1
settled_by z (Halted d) v (inr h) e = subst (λ (u : Outcome Expansion Ended). Extends d.so_far (ended_of u).so_far) (sym h.0) (extends_same d.so_far)
settled_by z (Closed s) v h e = cc

settled_file : (old : SessionState) (name x z : List ℕ) → (settled_part old name x).reason ≡ NeedsInput
    → Extends (settled_part old name x).so_far (read_file old.limits (progress_of old).so_far name (x ++ z)).so_far
settled_file old name x z e =
    let s : Expansion = expansion_of old.limits (progress_of old).so_far (file_pending name x true) in
    settled_by z (expand s) (expand (longer_level z false s)) (law z false s refl) e

fell_begun : (o n : Option (List ℕ)) (a b more : List ℕ) → n ≡ with_bytes o a → b ≡ a ++ more → HasBegun o n b
fell_begun o n a b more e f = (more, record { front = a; parts = f; holds = e })

fell_goes : (old new : SessionState) (name : List ℕ) (before after : Option Script) (w : Contents) (s : Source)
    → Suits name before after s → FileFell name before after old new w
    → BrokeOff new (after_source old.limits s (progress_of old)) w causes.Read
fell_goes old new name before after w s t h =
    so_of name before after s (λ x. Unit) (λ s. BrokeOff new (after_source old.limits s (progress_of old)) w causes.Read) t
    (record {
      x = h.x;
      may_follow = true;
      given = h.given;
      at_end = λ e. absurd (not_so e);
      asked = tt;
      so = λ z e.
          let k = settled_file old name h.x z h.reason in
          broke_so old new name (h.x ++ z) w causes.Read h.interrupted (record {
            output = fell_begun w.out_old w.out_new _ _ k.more h.output k.output;
            messages = fell_begun w.messages_old w.messages_new _ _ k.reported h.messages k.messages;
          });
    })
  where
    not_so : true ≡ false → ⊥
    not_so e = cc

opened_goes : (old new : SessionState) (name : List ℕ) (before after : Option Script) (w : Contents)
    (r : Result Unit Stop) (s : Source) → IsOpen old → Suits name before after s
    → FileGives name before after old new w r → GoesTo (after_source old.limits s (progress_of old)) old new w r
opened_goes old new name before after w (Ok done) s l t h = done_goes old new name before after w s t h
opened_goes old new name before after w (Err stops.Finished) s l t h = absurd ((h.0).closed l)
opened_goes old new name before after w (Err (stops.Ended causes.Read)) s l t h = fell_goes old new name before after w s t h
opened_goes old new name before after w (Err (stops.Ended causes.Write)) s l t h = broke_goes old new name before after w s causes.Write t h
opened_goes old new name before after w (Err (stops.Ended causes.OutOfMemory)) s l t h = broke_goes old new name before after w s causes.OutOfMemory t h
opened_goes old new name before after w (Err (stops.Ended causes.Done)) s l t h = absurd h
opened_goes old new name before after w (Err (stops.Ended (causes.Frozen f))) s l t h = absurd h
opened_goes old new name before after w (Err (stops.Ended cause)) s l t h = ended_goes old new name before after w s cause t h

pub opened_described : {R : Type 0} (script : R → Option Script) (old new : SessionState) (name : List ℕ)
    (before later : R) (first after : RunSource R) (w : Contents) (r : Result Unit Stop) (s : Source)
    → first ≡ sources.Opened name before → after ≡ sources.Opened name later → IsOpen old
    → DescribesSource script first after s → FileGives name (script before) (script later) old new w r
    → GoesTo (after_source old.limits s (progress_of old)) old new w r
opened_described script old new name before later first after w r s f b l t h =
    let k : DescribesSource script (sources.Opened name before) (sources.Opened name later) s =
    subst (λ x. DescribesSource script x (sources.Opened name later) s) f
    (subst (λ x. DescribesSource script first x s) b t) in
    opened_goes old new name (script before) (script later) w r s l (described_suit script name before (sources.Opened name later) s k) h

-- an open session reports a source that wasn't opened
missing_is : (old : SessionState) (name : List ℕ) → IsOpen old
    → (after_source old.limits (Unopened name) (progress_of old)).so_far
    ≡ with_message (cannot_open name) (progress_of old).so_far
missing_is old name l = ap (λ (o : Option Cause). (after_source old.limits (Unopened name) (record (progress_of old) { over = how_over o })).so_far) l.over

pub missing_goes : (old new : SessionState) (name : List ℕ) (w : Contents) (r : Result Unit Stop) → IsOpen old
    → w.out_new ≡ w.out_old → MissingGives name old new w.messages_old w.messages_new r
    → GoesTo (after_source old.limits (Unopened name) (progress_of old)) old new w r
missing_goes old new name w (Ok done) l o h = (
  record {
    live = l;
    limits = h.2;
    unfinished = (h.1).unfinished;
    progress = h.3;
    output = o ∙ with_bytes-nil w.out_old ∙ ap (λ (r : RunSoFar). with_bytes w.out_old r.output) (sym (missing_is old name l));
    messages = h.4 ∙ ap (λ (r : RunSoFar). with_bytes w.messages_old r.messages) (sym (missing_is old name l));
  },
  (h.1).over,
)
missing_goes old new name w (Err stops.Finished) l o h = absurd (h.0 l)
missing_goes old new name w (Err (stops.Ended causes.Write)) l o h = record {
  over = (h.0).over;
  output = silent_begun w.out_old w.out_new _ o;
  messages = subst (λ (r : RunSoFar). HasBegun w.messages_old w.messages_new r.messages) (sym (missing_is old name l)) h.1;
}
missing_goes old new name w (Err (stops.Ended cause)) l o h = absurd h

-- a source that wasn't read, for want of memory
pub unread_goes : (old new : SessionState) (w : Contents) (p : Progress) (r : Result Unit Stop)
    → r ≡ Err (stops.Ended causes.OutOfMemory) → new.over ≡ Some causes.OutOfMemory → w.out_new ≡ w.out_old
    → w.messages_new ≡ w.messages_old → GoesTo p old new w r
unread_goes old new w p r i v o m =
    subst (λ (x : Result Unit Stop). GoesTo p old new w x) (sym i)
    (record { over = v; output = silent_begun w.out_old w.out_new _ o; messages = silent_begun w.messages_old w.messages_new _ m })

module _ {R : Type 0} (script : R → Option Script) where
  pub unopened_is : (name : List ℕ) (after : RunSource R) (s : Source) → DescribesSource script (sources.Unopened name) after s → Unopened name ≡ s
  unopened_is name after s (inl t) = let e : Unopened name ≡ s = cc in e
  unopened_is name after s (inr m) = sym m

  pub unopened_described : (old new : SessionState) (name : List ℕ)
      (first after : RunSource R) (w : Contents) (r : Result Unit Stop) (s : Source) → first ≡ sources.Unopened name
      → IsOpen old → DescribesSource script first after s → w.out_new ≡ w.out_old
      → MissingGives name old new w.messages_old w.messages_new r
      → GoesTo (after_source old.limits s (progress_of old)) old new w r
  unopened_described old new name first after w r s f l t o h =
      let k : DescribesSource script (sources.Unopened name) after s = subst (λ x. DescribesSource script x after s) f t in
      subst (λ (s : Source). GoesTo (after_source old.limits s (progress_of old)) old new w r)
      (unopened_is name after s k) (missing_goes old new name w r l o h)

-- nothing was taken
pub none_taken : (b : Option Script) → b ≡ after_bytes [] b
none_taken None = refl
none_taken (Some s) = refl

pub same_taken : {R : Type 0} (script : R → Option Script) (x : RunSource R) → ConsumesOnly script x x
same_taken script (sources.Opened name r) = (refl, ([], none_taken (script r)))
same_taken script (sources.Unopened name) = refl
