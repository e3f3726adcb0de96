-- Session: a run between two of its calls, and what each call does to it.
-- Believed. Manual: "Command line files", "Invoking m4".
-- Words: SessionState, progress_of, written, session_from, fresh_session, IsOpen, ReloadGives, Completed, FileAsked,
-- FileRead, FileEnded, FileFell, FileGives, MissingGives, EndGives, FinishGives, FreezeGives.
-- A session is a run's progress without the bytes that were written; these went to the writers.
use Rattle.std.specs.Prelude.{◌≡◌, ◌≢◌, ◌≤◌, length, IfSome, ℕ, Bool, true, false, List, [], ◌∷◌, ◌++◌, Option, Some}
use Rattle.std.specs.Prelude.{None, Result, Ok, Err, ◌⊎◌}
use Rattle.m4_state.specs.State.{State, IsSized}
use Rattle.m4_state.specs.Fresh.{fresh}
use Rattle.m4_state.specs.Device.{Script, after_bytes, IsAtEnd, IsAtFault, with_bytes, HasBegun}
use Rattle.m4_input.specs.Input.{block}
use Rattle.m4_frozen.specs.declared.fault.FrozenKind.TheVariants as kinds
use Rattle.m4_frozen.specs.Freeze.{freeze}
use Rattle.m4_engine.specs.declared.ending.Cause.{Cause}
use Rattle.m4_engine.specs.declared.ending.Cause.TheVariants as causes
use Rattle.m4_engine.specs.declared.options.Options.{Options}
use Rattle.m4_engine.specs.declared.stop.Stop.{Stop}
use Rattle.m4_engine.specs.declared.stop.Stop.TheVariants as stops
use Rattle.m4_engine.specs.Expansion.{Limits, EndReason, Ends, NeedsInput, Ended}
use Rattle.m4_engine.specs.Expand.{expand_input}
use Rattle.m4_engine.specs.Start.{From, Faulty, IsStart}
use Rattle.m4_engine.specs.Writers.{Contents, Three, Broken, WroteAtLeast, IsSpared}
use Rattle.m4_engine.specs.File.{Opened, Unopened, Progress, read_file, file_pending, after_source, cannot_open}
use Rattle.m4_engine.specs.Wraps.{after_wraps}
use Rattle.m4_engine.specs.Run.{limits_of, status_of, closed_output, result_of}

-- a run between two calls: its results without the bytes that were written; whether a source wasn't opened;
-- why it is over, if it is; and whether it was finished
pub record SessionState : Type 0 where
  pub limits : Limits
  pub state : State
  pub saved : List (List ℕ)
  pub calls : ℕ
  pub any_missing : Bool
  pub over : Option Cause
  pub finished : Bool

-- how a run is over, by its cause
abbrev pub how_over : Option Cause → Option EndReason
how_over None = None
how_over (Some cause) = Some (Ends cause)

-- the run's progress, if all its output and messages were written before
abbrev pub progress_of : SessionState → Progress
progress_of s = record {
  so_far = record { state = s.state; output = []; messages = []; saved = s.saved; calls = s.calls };
  over = how_over s.over;
  any_missing = s.any_missing;
}

-- a progress whose output and messages were written
abbrev pub written : Progress → Progress
written p = record p { so_far = record p.so_far { output = []; messages = [] } }

-- a run that starts from a state
abbrev pub session_from : Options → State → SessionState
session_from o s = record {
  limits = limits_of o;
  state = s;
  saved = [];
  calls = 0;
  any_missing = false;
  over = None;
  finished = false;
}

-- a run that starts from the fresh state
abbrev pub fresh_session : Options → SessionState
fresh_session o = session_from o (fresh o.prefix)

-- the run continues
pub record IsOpen (s : SessionState) : Type 0 where
  pub over : s.over ≡ None
  pub unfinished : s.finished ≡ false

-- nothing was written
pub record Silent (w : Contents) : Type 0 where
  pub output : w.out_new ≡ w.out_old
  pub messages : w.messages_new ≡ w.messages_old

-- the call was completed: the run's progress is p, and all of p's output and messages were written
pub record Completed (old new : SessionState) (p : Progress) (w : Contents) : Type 0 where
  pub live : IsOpen old
  pub limits : new.limits ≡ old.limits
  pub unfinished : new.finished ≡ false
  pub progress : progress_of new ≡ written p
  pub output : w.out_new ≡ with_bytes w.out_old (p.so_far).output
  pub messages : w.messages_new ≡ with_bytes w.messages_old (p.so_far).messages

-- a call of a session that is over or finished: nothing changes
pub record Refused (old new : SessionState) (w : Contents) : Type 0 where
  pub closed : IsOpen old → ⊥
  pub same : new ≡ old
  pub silent : Silent w

-- this cause interrupted the call, and ends the run
pub record Interrupted (old new : SessionState) (cause : Cause) : Type 0 where
  pub live : IsOpen old
  pub over : new.over ≡ Some cause

-- a file was read to its end: its reader delivered x
abbrev pub FileDone : List ℕ → Option Script → Option Script → SessionState → SessionState → Contents → Type 0
FileDone name before after old new w =
    (x : List ℕ) × (before ≡ after_bytes x after) × IsAtEnd after
    × Completed old new (after_source old.limits (Opened name x) (progress_of old)) w × (new.over ≡ None)

-- the part of a file that its first bytes settle
abbrev pub settled_part : SessionState → List ℕ → List ℕ → Ended
settled_part old name x = expand_input old.limits (progress_of old).so_far (file_pending name x true)

-- `asked`, a beginning of the bytes x of a file and at most a block shorter, leaves open how the run continues: there
-- the last of x were asked for, after all that `asked` settles was written
pub record FileAsked (old : SessionState) (name x : List ℕ) (w : Contents) : Type 0 where
  pub asked : List ℕ
  pub last : List ℕ
  pub parts : x ≡ asked ++ last
  pub within : length last ≤ block
  pub undecided : (settled_part old name asked).reason ≡ NeedsInput
  pub written : WroteAtLeast ((settled_part old name asked).so_far).output
      ((settled_part old name asked).so_far).messages w

-- the reader delivered x, of which Q is so; P is so of x and of whatever follows it, which is nothing if the reader was
-- found at its end
pub record FileRead (before after : Option Script) (Q : List ℕ → Type 0) (P : List ℕ → Type 0) : Type 0 where
  pub x : List ℕ
  pub may_follow : Bool
  pub given : before ≡ after_bytes x after
  pub at_end : may_follow ≡ false → IsAtEnd after
  pub asked : Q x
  pub so : (z : List ℕ) → (may_follow ≡ false → z ≡ []) → P (x ++ z)

-- the bytes that were read end the run, whatever follows them; if the reader was not found at its end, they settle that
abbrev pub FileEnded : List ℕ → Option Script → Option Script → SessionState → SessionState → Contents → Cause → Type 0
FileEnded name before after old new w cause =
    (r : FileRead before after (λ x. FileAsked old name x w)
    (λ bytes. Completed old new (after_source old.limits (Opened name bytes) (progress_of old)) w))
    × (new.over ≡ Some cause)
    × (r.may_follow ≡ true → (settled_part old name r.x).reason ≡ Ends cause)

-- prefixes of a file's output and messages were written, whatever follows
abbrev pub FileBroke : List ℕ → Option Script → Option Script → SessionState → SessionState → Contents → Cause → Type 0
FileBroke name before after old new w cause =
    FileRead before after (λ x. FileAsked old name x w)
    (λ bytes. Broken (read_file old.limits (progress_of old).so_far name bytes) w) × Interrupted old new cause

-- the reader delivered x and failed: what x settles was written, and nothing else
pub record FileFell (name : List ℕ) (before after : Option Script) (old new : SessionState)
    (w : Contents) : Type 0 where
  pub x : List ℕ
  pub given : before ≡ after_bytes x after
  pub at_fault : IsAtFault after
  pub interrupted : Interrupted old new causes.Read
  pub reason : (settled_part old name x).reason ≡ NeedsInput
  pub output : w.out_new ≡ with_bytes w.out_old ((settled_part old name x).so_far).output
  pub messages : w.messages_new ≡ with_bytes w.messages_old ((settled_part old name x).so_far).messages

-- a file: it is read to its end, or the run ends
abbrev pub FileGives : List ℕ → Option Script → Option Script → SessionState → SessionState → Contents
    → Result Unit Stop → Type 0
FileGives name before after old new w (Ok done) = FileDone name before after old new w
FileGives name before after old new w (Err stops.Finished) = Refused old new w × (after ≡ before)
FileGives name before after old new w (Err (stops.Ended causes.Done)) = ⊥
FileGives name before after old new w (Err (stops.Ended (causes.Frozen fault))) = ⊥
FileGives name before after old new w (Err (stops.Ended causes.Read)) = FileFell name before after old new w
FileGives name before after old new w (Err (stops.Ended causes.Write)) =
    FileBroke name before after old new w causes.Write
FileGives name before after old new w (Err (stops.Ended causes.OutOfMemory)) =
    FileBroke name before after old new w causes.OutOfMemory
FileGives name before after old new w (Err (stops.Ended cause)) =
    FileEnded name before after old new w cause

-- this state and this issued text are those that a frozen file gives
abbrev pub AreReloaded : Options → Option Script → State → List ℕ → Type 0
AreReloaded o file s issued = IfSome file (λ script. IsStart o.prefix (Some script) (From s issued))

-- a run that starts from a frozen file: its issued text is written; after a refused file nothing is written
abbrev pub ReloadGives : Options → Option Script → Option (List ℕ) → Option (List ℕ) → Result SessionState Stop → Type 0
ReloadGives o file out_old out_new (Ok new) =
    (s : State) × (issued : List ℕ) × AreReloaded o file s issued
    × (new ≡ session_from o s) × (out_new ≡ with_bytes out_old issued)
ReloadGives o file out_old out_new (Err stops.Finished) = ⊥
ReloadGives o file out_old out_new (Err (stops.Ended (causes.Frozen fault))) =
    (out_new ≡ out_old) × IfSome file (λ script.
    fault.kind ≢ kinds.OutOfMemory → IsStart o.prefix (Some script) (Faulty fault))
ReloadGives o file out_old out_new (Err (stops.Ended causes.Write)) =
    (s : State) × (issued : List ℕ) × AreReloaded o file s issued × HasBegun out_old out_new issued
ReloadGives o file out_old out_new (Err (stops.Ended cause)) = ⊥

-- how a run ends that has this cause, or none: the status depends on it
abbrev pub how_by : Option Cause → EndReason
how_by None = Ends causes.Done
how_by (Some cause) = Ends cause

abbrev pub status_at : SessionState → ℕ
status_at s = status_of (how_by s.over) s.any_missing

-- a source that wasn't opened: it is reported
abbrev pub MissingGives : List ℕ → SessionState → SessionState → Option (List ℕ) → Option (List ℕ) → Result Unit Stop
    → Type 0
MissingGives name old new messages_old messages_new (Ok done) =
    IsOpen old × IsOpen new × (new.limits ≡ old.limits)
    × (progress_of new ≡ written (after_source old.limits (Unopened name) (progress_of old)))
    × (messages_new ≡ with_bytes messages_old (cannot_open name))
MissingGives name old new messages_old messages_new (Err stops.Finished) =
    (IsOpen old → ⊥) × (new ≡ old) × (messages_new ≡ messages_old)
MissingGives name old new messages_old messages_new (Err (stops.Ended causes.Write)) =
    Interrupted old new causes.Write × HasBegun messages_old messages_new (cannot_open name)
MissingGives name old new messages_old messages_new (Err (stops.Ended cause)) = ⊥

-- the run after its saved texts
abbrev pub session_after_wraps : SessionState → Progress
session_after_wraps s = after_wraps s.limits (progress_of s)

-- the run was finished: the saved texts were read, and the diversions undiverted, unless it freezes
pub record Closed (freezes : Bool) (old new : SessionState) (w : Contents) : Type 0 where
  pub live : IsOpen old
  pub limits : new.limits ≡ old.limits
  pub finished : new.finished ≡ true
  pub over : new.over ≡ None
  pub any_missing : new.any_missing ≡ old.any_missing
  pub saved : new.saved ≡ []
  pub calls : new.calls ≡ ((session_after_wraps old).so_far).calls
  pub ended : (session_after_wraps old).over ≡ None
  pub output : w.out_new ≡ with_bytes w.out_old (closed_output freezes (session_after_wraps old).so_far)
  pub messages : w.messages_new ≡ with_bytes w.messages_old ((session_after_wraps old).so_far).messages

-- the end was interrupted: prefixes of the run's remaining output and messages were written
pub record Unfinished (freezes : Bool) (old new : SessionState) (w : Contents) (cause : Cause) : Type 0 where
  pub live : IsOpen old
  pub over : new.over ≡ Some cause
  pub output : HasBegun w.out_old w.out_new (result_of freezes [] (session_after_wraps old)).output
  pub messages : HasBegun w.messages_old w.messages_new ((session_after_wraps old).so_far).messages

-- the end of a run, which freezes or not
abbrev pub EndGives : Bool → SessionState → SessionState → Contents → Result Unit Stop → Type 0
EndGives freezes old new w (Ok done) = Closed freezes old new w
EndGives freezes old new w (Err stops.Finished) = Refused old new w
EndGives freezes old new w (Err (stops.Ended causes.Done)) = ⊥
EndGives freezes old new w (Err (stops.Ended (causes.Frozen fault))) = ⊥
EndGives freezes old new w (Err (stops.Ended causes.Read)) = ⊥
EndGives freezes old new w (Err (stops.Ended causes.Write)) = Unfinished freezes old new w causes.Write
EndGives freezes old new w (Err (stops.Ended causes.OutOfMemory)) =
    Unfinished freezes old new w causes.OutOfMemory
EndGives freezes old new w (Err (stops.Ended cause)) =
    Completed old new (session_after_wraps old) w × (new.over ≡ Some cause)

abbrev pub FinishGives : SessionState → SessionState → Contents → Result Unit Stop → Type 0
FinishGives old new w answer = EndGives false old new w answer

-- the state of a run after its saved texts, which is the one that it freezes
abbrev pub last_state : SessionState → State
last_state s = ((session_after_wraps s).so_far).state

-- a prefix of the frozen text was written, after everything else that the run writes
pub record FreezeBegan (old : SessionState) (w : Three (Option (List ℕ))) : Type 0 where
  pub ended : (session_after_wraps old).over ≡ None
  pub begun : HasBegun w.frozen_old w.frozen_new (freeze (last_state old))
  pub output : (w.two).out_new ≡ with_bytes (w.two).out_old ((session_after_wraps old).so_far).output
  pub messages : (w.two).messages_new ≡ with_bytes (w.two).messages_old ((session_after_wraps old).so_far).messages

-- the writer of the frozen text has all of it, or a prefix if a writer failed, or nothing; a frozen state
-- is sized
abbrev pub FrozenGives : SessionState → Three (Option (List ℕ)) → Result Unit Stop → Type 0
FrozenGives old w (Ok done) =
    (w.frozen_new ≡ with_bytes w.frozen_old (freeze (last_state old))) × IsSized (last_state old)
FrozenGives old w (Err (stops.Ended causes.Write)) = IsSpared w ⊎ FreezeBegan old w
FrozenGives old w (Err stop) = IsSpared w

-- the end of a run that freezes
abbrev pub FreezeGives : SessionState → SessionState → Three (Option (List ℕ)) → Result Unit Stop → Type 0
FreezeGives old new w answer = EndGives true old new w.two answer × FrozenGives old w answer

-- where a write fault ends the run, the writer of the frozen text was not used, or everything else was written before
abbrev pub FreezeUses : {Z : Type 0} → SessionState → Z → Z → Three (Option (List ℕ)) → Result Unit Stop → Type 0
FreezeUses old z z' w (Err (stops.Ended causes.Write)) = (z' ≡ z) ⊎ FreezeBegan old w
FreezeUses old z z' w answer = Unit {0}

-- whether a text is saved
abbrev pub is_saved : List (List ℕ) → Bool
is_saved [] = false
is_saved (x ∷ xs) = true
