-- LineEnd: how following a line ends: as the line is defined, or broken off by a failure. Its point is `Follows`.
-- Believed: public contracts cite it. Words: Seen, seen, IsShown, IsShownSince, IsShownAfter, StaysShown, KeepsShown,
-- Reports, failure_of, AsDefined, BrokeOff, Follows.
-- own: that a last flush that fails is a write fault.
use Rattle.std.specs.Prelude.{◌≡◌, ◌≢◌, ◌⊎◌, ℕ, Bool, true, false, List, [], ◌∷◌, ◌++◌, Option, Some, None}
use Rattle.std.specs.Prelude.{option_map, unwrap_or}
use Rattle.m4_state.specs.Device.{with_bytes, HasBegun}
use Rattle.m4_frozen.specs.declared.fault.FrozenKind.{FrozenKind}
use Rattle.m4_frozen.specs.declared.fault.FrozenKind.TheVariants as kinds
use Rattle.m4_engine.specs.declared.ending.Cause.{Cause}
use Rattle.m4_engine.specs.declared.ending.Cause.TheVariants as causes
use Rattle.m4_engine.specs.Writers.{Change}
use Rattle.m4_tool.specs.declared.followed.Failure.{Failure}
use Rattle.m4_tool.specs.declared.followed.Failure.TheVariants as failures
use Rattle.m4_tool.specs.Failure.{failure_lines}
use Rattle.m4_tool.specs.FailureCounts.{Grew, Rose}
use Rattle.m4_tool.specs.Line.{LineResult, Request, refusals}
use Rattle.m4_tool.specs.World.{Files, with_file, made_file}

-- the writers and the files before and after; `failures` counts the failed writes and flushes of messages
pub record Seen : Type 0 where
  pub out_old : Option (List ℕ)
  pub out_new : Option (List ℕ)
  pub messages_old : Option (List ℕ)
  pub messages_new : Option (List ℕ)
  pub failures_old : ℕ
  pub failures_new : ℕ
  pub files_old : Option Files
  pub files_new : Option Files

-- the same, by what changes
abbrev pub seen : Change (Option (List ℕ)) → Change (Option (List ℕ)) → Change ℕ → Change (Option Files) → Seen
seen out messages failures files = record {
  out_old = out.old;
  out_new = out.new;
  messages_old = messages.old;
  messages_new = messages.new;
  failures_old = failures.old;
  failures_new = failures.new;
  files_old = files.old;
  files_new = files.new;
}

-- all that was written to a device is flushed, by the functions of its trait for what is shown and for what it has
abbrev pub IsShown : {D A : Type 0} → (D → Option A) → (D → Option A) → D → Type 0
IsShown shown contents device = shown device ≡ contents device

-- all that a writer has is shown, or a write or a flush of it failed since it had so many failures
pub record IsShownSince (base : ℕ) (shown contents : Option (List ℕ)) (failures : ℕ) : Type 0 where
  pub grew : Grew base failures
  pub shows : (shown ≡ contents) ⊎ Rose base failures

-- the same of a writer that is first `old` and then `new`, by the functions of its trait: since it was `old`
abbrev pub IsShownAfter : {D : Type 0} → (D → ℕ) → (D → Option (List ℕ)) → (D → Option (List ℕ)) → D → D → Type 0
IsShownAfter failures shown contents old new = IsShownSince (failures old) (shown new) (contents new) (failures new)

-- since any time at which it had no more failures than `old`
abbrev pub StaysShown : {D : Type 0} → (D → ℕ) → (D → Option (List ℕ)) → (D → Option (List ℕ)) → D → D → Type 0
StaysShown failures shown contents old new =
    (base : ℕ) → Grew base (failures old) → IsShownSince base (shown new) (contents new) (failures new)

-- what was shown since some time still is
abbrev pub KeepsShown : {D : Type 0} → (D → ℕ) → (D → Option (List ℕ)) → (D → Option (List ℕ)) → D → D → Type 0
KeepsShown failures shown contents old new =
    (base : ℕ) → IsShownSince base (shown old) (contents old) (failures old)
    → IsShownSince base (shown new) (contents new) (failures new)

-- a line was added to the messages, or a prefix of it if the messages failed
abbrev pub Reported : List ℕ → Option (List ℕ) → Option (List ℕ) → ℕ → ℕ → Type 0
Reported line old new failures failures' =
    ((new ≡ with_bytes old line) × Grew failures failures')
    ⊎ (HasBegun old new line × Rose failures failures')

-- these lines were added in order
abbrev pub Reports : List (List ℕ) → Option (List ℕ) → Option (List ℕ) → ℕ → ℕ → Type 0
Reports [] old new failures failures' = (new ≡ old) × Grew failures failures'
Reports (line ∷ lines) old new failures failures' =
    (mid : Option (List ℕ)) × (count : ℕ)
    × Reported line old mid failures count × Reports lines mid new count failures'

-- what failed in the run, by its cause
abbrev pub failure_by : Cause → Option Failure
failure_by causes.Read = Some failures.Read
failure_by causes.Write = Some failures.Write
failure_by causes.OutOfMemory = Some failures.OutOfMemory
failure_by cause = None

abbrev pub frozen_failure : FrozenKind → Option Failure
frozen_failure kinds.OutOfMemory = Some failures.Load
frozen_failure kind = None

-- what failed, by why the run ended and whether everything was flushed: a last flush that fails is a write fault
abbrev pub failure_of : Cause → Bool → Option Failure
failure_of (causes.Frozen fault) true = frozen_failure fault.kind
failure_of (causes.Frozen fault) false = Some failures.Write
failure_of cause true = failure_by cause
failure_of cause false = Some (unwrap_or (failure_by cause) failures.Write)

-- the lines that the program adds
abbrev pub added_lines : List ℕ → Cause → Bool → List (List ℕ)
added_lines file cause flushed = refusals file cause ++ failure_lines (failure_of cause flushed)

-- the line ended as it is defined: everything was written, and the file has its text
pub record AsDefined (name : List ℕ) (r : LineResult) (status : ℕ) (w : Seen) : Type 0 where
  pub is_status : status ≡ r.status
  pub output : w.out_new ≡ with_bytes w.out_old r.output
  pub messages : Reports r.lines (with_bytes w.messages_old r.messages) w.messages_new w.failures_old w.failures_new
  pub files : w.files_new ≡ option_map (made_file name r.frozen) w.files_old

-- the named file has a prefix of the text
pub record HasPrefix (name text : List ℕ) (old new : Option Files) : Type 0 where
  pub front : List ℕ
  pub rest : List ℕ
  pub parts : text ≡ front ++ rest
  pub files : new ≡ option_map (with_file name front) old

-- the same, after all output and all messages of the run were written
pub record CutsFile (name : List ℕ) (r : LineResult) (begun : Option (List ℕ)) (w : Seen) : Type 0 where
  pub output : w.out_new ≡ with_bytes w.out_old r.output
  pub messages : begun ≡ with_bytes w.messages_old r.messages
  pub file : HasPrefix name r.frozen w.files_old w.files_new

-- the files are as they were, unless a write failed: then the named one may have a prefix of the text
abbrev pub FilesBy : Failure → List ℕ → LineResult → Option (List ℕ) → Seen → Type 0
FilesBy failures.Write name r begun w = (w.files_new ≡ w.files_old) ⊎ CutsFile name r begun w
FilesBy failure name r begun w = w.files_new ≡ w.files_old

-- a line about a refused frozen file is the one that is defined, unless memory ran out while the file was read
abbrev pub RefusesAs : List ℕ → Cause → LineResult → Type 0
RefusesAs file (causes.Frozen fault) r =
    (fault.kind ≡ kinds.OutOfMemory) ⊎ (refusals file (causes.Frozen fault) ≡ r.lines)
RefusesAs file cause r = Unit {0}

-- a device or an allocation failed: prefixes of everything were written, and then the lines about the failure
pub record BrokeOff (name file : List ℕ) (r : LineResult) (status : ℕ) (failure : Failure) (w : Seen) : Type 0 where
  pub is_status : status ≡ 1
  pub output : HasBegun w.out_old w.out_new r.output
  pub cause : Cause
  pub flushed : Bool
  pub failed : failure_of cause flushed ≡ Some failure
  pub refused : RefusesAs file cause r
  pub begun : Option (List ℕ)
  pub messages : HasBegun w.messages_old begun r.messages
  pub count : ℕ
  pub counted : Grew w.failures_old count
  pub reports : Reports (added_lines file cause flushed) begun w.messages_new count w.failures_new
  pub files : FilesBy failure name r begun w

-- by what failed; if only the line for a refused file could not be written, all else is as defined
abbrev pub EndsBy : Option Failure → List ℕ → List ℕ → LineResult → ℕ → Seen → Type 0
EndsBy None name file r status w = AsDefined name r status w
EndsBy (Some failures.Report) name file r status w = AsDefined name r status w × (r.lines ≢ [])
EndsBy (Some failure) name file r status w = BrokeOff name file r status failure w

-- a line whose result is r was followed; a name that it lacks is empty
abbrev pub Follows : Request → LineResult → ℕ → Option Failure → Seen → Type 0
Follows q r status failure w = EndsBy failure (unwrap_or q.freeze []) (unwrap_or q.reload []) r status w
