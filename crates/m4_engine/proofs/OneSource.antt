-- OneSource: a source of a run that is read, or reported: what it writes, and what it leaves of its session.
use Rattle.std.proofs.Common.{◌≡◌, inr, true, ℕ, List, Option, Some, refl, sym, ap, ◌∙◌, subst}
use Rattle.std.specs.Prelude.{Result, Ok, Err, OnOk, ◌||◌}
use Rattle.m4_state.specs.Device.{Script, after_bytes}
use Rattle.m4_engine.specs.declared.ending.Cause.TheVariants as causes
use Rattle.m4_engine.specs.declared.source.Source.{Source as RunSource}
use Rattle.m4_engine.specs.declared.source.Source.TheVariants as sources
use Rattle.m4_engine.specs.declared.stop.Stop.{Stop}
use Rattle.m4_engine.specs.declared.stop.Stop.TheVariants as stops
use Rattle.m4_engine.specs.File.{Source, after_source}
use Rattle.m4_engine.specs.Order.{IsStepOf, BreaksBy, FileBreaks}
use Rattle.m4_engine.specs.RunSources.{ConsumesOnly, is_unopened}
use Rattle.m4_engine.specs.RunSteps.{MarksUnopened, WritesInOrder}
use Rattle.m4_engine.specs.Session.{SessionState, FileGives, IsOpen, MissingGives, progress_of}
use Rattle.m4_engine.specs.SessionFailures.{MessageWriteFails, ReadFails, WriteFails}
use Rattle.m4_engine.specs.SourcesRead.{ReadsSource}
use Rattle.m4_engine.specs.Writers.{Contents, both, writers}
use Rattle.m4_engine.proofs.Missed.{missing_exits, opened_exits}
use Rattle.m4_engine.proofs.Ordering.{opened_told, unopened_told, unread_told}
use Rattle.m4_engine.proofs.Reached.{file_so, missing_so, unread_so}
use Rattle.m4_engine.proofs.Readers.{sound_same, source_fails}
use Rattle.m4_engine.proofs.Sources.{opened_described, same_taken, unopened_described, unread_goes}
use Rattle.m4_engine.specs.SessionSteps.{IsLeft, SourceFails}
use Rattle.m4_engine.proofs.Cases.{DescribesSource}

on_ok : {A E P : Type 0} (r : Result A E) → P → OnOk r P
on_ok (Ok x) p = p
on_ok (Err e) p = tt

-- a file that is read leaves the session open, or over by the cause that is answered
file_left : (name : List ℕ) (before after : Option Script) (old new : SessionState) (w : Contents)
    (r : Result Unit Stop) → IsOpen old → FileGives name before after old new w r → IsLeft new r × OnOk r (IsOpen new)
file_left name before after old new w (Ok done) l h = (h.4, record { over = h.4; unfinished = (h.3).unfinished })
file_left name before after old new w (Err stops.Finished) l h = absurd ((h.0).closed l)
file_left name before after old new w (Err (stops.Ended causes.Done)) l h = absurd h
file_left name before after old new w (Err (stops.Ended (causes.Frozen fault))) l h = absurd h
file_left name before after old new w (Err (stops.Ended causes.Read)) l h = ((h.interrupted).over, tt)
file_left name before after old new w (Err (stops.Ended causes.Write)) l h = ((h.1).over, tt)
file_left name before after old new w (Err (stops.Ended causes.OutOfMemory)) l h = ((h.1).over, tt)
file_left name before after old new w (Err (stops.Ended cause)) l h = (h.1, tt)

-- nothing but bytes was taken of its reader
file_taken : (name : List ℕ) (before after : Option Script) (old new : SessionState) (w : Contents)
    (r : Result Unit Stop) → IsOpen old → FileGives name before after old new w r → (x : List ℕ) × (before ≡ after_bytes x after)
file_taken name before after old new w (Ok done) l h = (h.0, h.1)
file_taken name before after old new w (Err stops.Finished) l h = absurd ((h.0).closed l)
file_taken name before after old new w (Err (stops.Ended causes.Done)) l h = absurd h
file_taken name before after old new w (Err (stops.Ended (causes.Frozen fault))) l h = absurd h
file_taken name before after old new w (Err (stops.Ended causes.Read)) l h = (h.x, h.given)
file_taken name before after old new w (Err (stops.Ended cause)) l h = ((h.0).x, (h.0).given)

-- a source that wasn't opened
missing_left : (name : List ℕ) (old new : SessionState) (a b : Option (List ℕ)) (r : Result Unit Stop) → IsOpen old
    → MissingGives name old new a b r → IsLeft new r × OnOk r (IsOpen new)
missing_left name old new a b (Ok done) l h = ((h.1).over, h.1)
missing_left name old new a b (Err stops.Finished) l h = absurd (h.0 l)
missing_left name old new a b (Err (stops.Ended causes.Write)) l h = ((h.0).over, tt)
missing_left name old new a b (Err (stops.Ended cause)) l h = absurd h

missing_writes : (name : List ℕ) (old new : SessionState) (a b : Option (List ℕ)) (out k k' : ℕ) (r : Result Unit Stop)
    → MissingGives name old new a b r → MessageWriteFails r k k' → WriteFails r (writers out out k k')
missing_writes name old new a b out k k' (Ok done) h f = (refl, f)
missing_writes name old new a b out k k' (Err stops.Finished) h f = (refl, f)
missing_writes name old new a b out k k' (Err (stops.Ended causes.Write)) h f = inr (refl, f)
missing_writes name old new a b out k k' (Err (stops.Ended cause)) h f = absurd h

missing_sound : {R : Type 0} (script : R → Option Script) (failures : R → ℕ) (name : List ℕ) (old new : SessionState)
    (a b : Option (List ℕ)) (r : Result Unit Stop) → MissingGives name old new a b r
    → SourceFails script failures r (sources.Unopened name) (sources.Unopened name)
missing_sound script failures name old new a b (Err (stops.Ended causes.Read)) h = absurd h
missing_sound script failures name old new a b r h = tt

module _ {R O M : Type 0} (script : R → Option Script) (failures : R → ℕ) (co : O → Option (List ℕ)) (cm : M → Option (List ℕ)) (fo : O → ℕ) (fm : M → ℕ) where
  -- a source was read or reported, or the run ended there
  pub record OneRead (x y : RunSource R) (old : SessionState) (o : O) (m : M) (new : SessionState) (o' : O) (m' : M)
      (r : Result Unit Stop) : Type 0 where
    pub left : IsLeft new r × OnOk r (IsOpen new)
    pub writes : (s : Source) → DescribesSource script x y s
        → WritesInOrder (after_source old.limits s (progress_of old)) (IsStepOf old.limits s) old new
        (both co cm o o' m m') r
    pub reads : ReadsSource script failures x y old new (both co cm o o' m m') r
    pub marks : MarksUnopened x old.any_missing new.any_missing r
    pub write : WriteFails r (both fo fm o o' m m')

  pub file_read : (name : List ℕ) (before later : R) (x y : RunSource R) (old : SessionState) (o : O) (m : M)
      (new : SessionState) (o' : O) (m' : M) (r : Result Unit Stop) → x ≡ sources.Opened name before
      → y ≡ sources.Opened name later → IsOpen old
      → FileGives name (script before) (script later) old new (both co cm o o' m m') r
      → BreaksBy r (FileBreaks old.limits (progress_of old) name (script before) (script later) (both co cm o o' m m'))
      → ReadFails r (failures before) (failures later) → WriteFails r (both fo fm o o' m m')
      → new.any_missing ≡ old.any_missing → OneRead x y old o m new o' m' r
  file_read name before later x y old o m new o' m' r f g l h t d w k =
      let c : Contents = both co cm o o' m m' in
      record {
        left = file_left name (script before) (script later) old new c r l h;
        writes = λ s e. record {
          goes = opened_described script old new name before later x y c r s f g l e h;
          order = opened_told script old name before later x y c r s f g e t;
        };
        reads = record {
          reached = file_so script name before later x y old new c r f g l h;
          failed = source_fails script failures name name before later x y old new c r f g d h;
          taken = subst (λ (z : RunSource R). ConsumesOnly script z y) (sym f)
              (subst (λ (z : RunSource R). ConsumesOnly script (sources.Opened name before) z) (sym g)
              (refl, file_taken name (script before) (script later) old new c r l h));
        };
        marks = record {
          read = on_ok r (k ∙ sym (ap (λ (z : RunSource R). is_unopened z || old.any_missing) f));
          exited = λ code e. opened_exits x name before old.any_missing new.any_missing f k;
        };
        write = w;
      }

  pub missing_read : (name : List ℕ) (x y : RunSource R) (old : SessionState) (o : O) (m : M) (new : SessionState)
      (m' : M) (r : Result Unit Stop) → x ≡ sources.Unopened name → y ≡ sources.Unopened name → IsOpen old
      → MissingGives name old new (cm m) (cm m') r → MessageWriteFails r (fm m) (fm m')
      → OnOk r (new.any_missing ≡ true) → OneRead x y old o m new o m' r
  missing_read name x y old o m new m' r f g l h w k =
      let c : Contents = both co cm o o m m' in
      record {
        left = missing_left name old new (cm m) (cm m') r l h;
        writes = λ s e. record {
          goes = unopened_described script old new name x y c r s f l e refl h;
          order = unopened_told script old new name x y c r s f l e refl h;
        };
        reads = record {
          reached = missing_so script name x y old new c r f g l refl h;
          failed = subst (λ (z : RunSource R). SourceFails script failures r z y) (sym f)
              (subst (λ (z : RunSource R). SourceFails script failures r (sources.Unopened name) z) (sym g)
              (missing_sound script failures name old new (cm m) (cm m') r h));
          taken = subst (λ (z : RunSource R). ConsumesOnly script z y) (sym f)
              (subst (λ (z : RunSource R). ConsumesOnly script (sources.Unopened name) z) (sym g) refl);
        };
        marks = record {
          read = subst (λ (z : RunSource R). OnOk r (new.any_missing ≡ (is_unopened z || old.any_missing))) (sym f) k;
          exited = λ code e. missing_exits name old new (cm m) (cm m') r code h e;
        };
        write = missing_writes name old new (cm m) (cm m') (fo o) (fm m) (fm m') r h w;
      }

  -- one that was not read, for want of memory
  unread_same : (name : List ℕ) (reader : R) (x : RunSource R) (old : SessionState) (o : O) (m : M) (new : SessionState)
      (r : Result Unit Stop) → x ≡ sources.Opened name reader → IsOpen old
      → r ≡ Err (stops.Ended causes.OutOfMemory) → new.over ≡ Some causes.OutOfMemory → OneRead x x old o m new o m r
  unread_same name reader x old o m new r f l i v =
      let c : Contents = both co cm o o m m in
      record {
        left = subst (λ (z : Result Unit Stop). IsLeft new z × OnOk z (IsOpen new)) (sym i) (v, tt);
        writes = λ s e. record {
          goes = unread_goes old new c (after_source old.limits s (progress_of old)) r i v refl refl;
          order = unread_told script old name reader x c r s f l
              (subst (λ (z : RunSource R). DescribesSource script x z s) f e) refl refl;
        };
        reads = record {
          reached = unread_so script x x old new (co o) (cm m) r refl i l;
          failed = subst (λ (z : Result Unit Stop). SourceFails script failures z x x) (sym i) (sound_same failures x);
          taken = same_taken script x;
        };
        marks = record {
          read = subst (λ (z : Result Unit Stop). OnOk z (new.any_missing ≡ (is_unopened x || old.any_missing))) (sym i) tt;
          exited = λ code e. absurd cc;
        };
        write = subst (λ (z : Result Unit Stop). WriteFails z (both fo fm o o m m)) (sym i) (refl, refl);
      }

  pub unread : (name : List ℕ) (reader : R) (x : RunSource R) (old : SessionState) (o : O) (m : M) (new : SessionState)
      (r : Result Unit Stop) → x ≡ sources.Opened name reader → IsOpen old
      → r ≡ Err (stops.Ended causes.OutOfMemory) → new.over ≡ Some causes.OutOfMemory
      → OneRead x (sources.Opened name reader) old o m new o m r
  unread name reader x old o m new r f l i v = subst (λ (z : RunSource R). OneRead x z old o m new o m r) f (unread_same name reader x old o m new r f l i v)

  -- the same where the two ways of a source join
  pub read_so : (x y y' : RunSource R) (old : SessionState) (o : O) (m : M) (new new' : SessionState) (o' o'' : O)
      (m' m'' : M) (r r' : Result Unit Stop) → y' ≡ y → new' ≡ new → o'' ≡ o' → m'' ≡ m' → r' ≡ r
      → OneRead x y old o m new o' m' r → OneRead x y' old o m new' o'' m'' r'
  read_so x y y' old o m new new' o' o'' m' m'' r r' e1 e2 e3 e4 e5 h =
      subst (λ (v : RunSource R). OneRead x v old o m new' o'' m'' r') (sym e1)
      (subst (λ (v : SessionState). OneRead x y old o m v o'' m'' r') (sym e2)
      (subst (λ (v : O). OneRead x y old o m new v m'' r') (sym e3)
      (subst (λ (v : M). OneRead x y old o m new o' v r') (sym e4)
      (subst (λ (v : Result Unit Stop). OneRead x y old o m new o' m' v) (sym e5) h))))
