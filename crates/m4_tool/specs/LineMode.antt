-- LineMode: what a mode gives in a world of files.
-- Believed: public contracts cite it. Words: mode_of, closed_status, closed_lines, ends_of, ModeFailedAs, ModeEnds,
-- ModeFollows.
-- own: a mode whose file can't be opened does nothing else; a last flush that fails is a write fault.
use Rattle.std.specs.Prelude.{◌≡◌, ℕ, zero, suc, Bool, true, false, List, [], ◌∷◌, ◌++◌, Option, Some, None, Result, Ok}
use Rattle.std.specs.Prelude.{Err, option_map, string_bytes}
use Rattle.m4_state.specs.Device.{Script}
use Rattle.m4_engine.specs.File.{cannot_open}
use Rattle.m4_tool.specs.declared.fault.ModeFault.{ModeFault}
use Rattle.m4_tool.specs.declared.fault.ModeFault.TheVariants as faults
use Rattle.m4_tool.specs.declared.line.Line.{Line}
use Rattle.m4_tool.specs.declared.modes.Mode.{Mode}
use Rattle.m4_tool.specs.declared.modes.Mode.TheVariants as kinds
use Rattle.m4_tool.specs.declared.followed.Failure.TheVariants as failures
use Rattle.m4_tool.specs.Failure.{failure_line}
use Rattle.m4_tool.specs.FailureCounts.{AnyRose, Counts, NoneRose, Rose}
use Rattle.m4_tool.specs.ModeFault.{fault_line, status_of}
use Rattle.m4_tool.specs.Modes.{CanonEnds, InspectEnds}
use Rattle.m4_tool.specs.LineEnd.{Reports, Seen}

-- the mode of a line with the name of its file; none if it is a run over files
abbrev pub mode_by : Option (List ℕ) → Option (List ℕ) → Option (Mode × List ℕ)
mode_by (Some file) inspect = Some (kinds.Canon, file)
mode_by None (Some file) = Some (kinds.Inspect, file)
mode_by None None = None

abbrev pub mode_of : Line → Option (Mode × List ℕ)
mode_of line = mode_by (option_map string_bytes line.canon) (option_map string_bytes line.inspect)

-- the line for a mode that did not do its work
abbrev pub fault_lines : List ℕ → Result (Unit {0}) ModeFault → List (List ℕ)
fault_lines file (Ok done) = []
fault_lines file (Err fault) = fault_line file fault ∷ []

-- the status after the last flush, and the line that it adds
abbrev pub closed_status : ℕ → Bool → ℕ
closed_status zero true = 0
closed_status zero false = 1
closed_status (suc n) flushed = suc n

abbrev pub closed_lines : ℕ → Bool → List (List ℕ)
closed_lines zero true = []
closed_lines zero false = failure_line failures.Write ∷ []
closed_lines (suc n) flushed = []

-- how a mode ends
abbrev pub ends_of : Mode → Result (Unit {0}) ModeFault → Script → Option (List ℕ) → Option (List ℕ) → Type 0
ends_of kinds.Canon = CanonEnds
ends_of kinds.Inspect = InspectEnds

-- nothing failed but messages
abbrev pub OnlyMessagesRose : Counts → Type 0
OnlyMessagesRose c = (c.out_new ≡ c.out_old) × (c.world_new ≡ c.world_old)

-- if a last flush failed, something failed
abbrev pub FlushedOr : Bool → Type 0 → Counts → Type 0
FlushedOr true unfailed c = unfailed
FlushedOr false unfailed c = AnyRose c

-- what failed, by the end of a mode and its last flush: the output if it could not be written; some device if it could
-- not be flushed; else nothing but the messages, to which the line of a fault is written
abbrev pub ModeFailedAs : Result (Unit {0}) ModeFault → Bool → Counts → Type 0
ModeFailedAs (Ok done) flushed c = FlushedOr flushed (NoneRose c) c
ModeFailedAs (Err (faults.Frozen f)) flushed c = FlushedOr flushed (OnlyMessagesRose c) c
ModeFailedAs (Err faults.Issues) flushed c = FlushedOr flushed (OnlyMessagesRose c) c
ModeFailedAs (Err faults.Write) flushed c = Rose c.out_old c.out_new
ModeFailedAs (Err faults.OutOfMemory) flushed c = FlushedOr flushed (OnlyMessagesRose c) c

-- a mode whose file was opened: the status, the output, the messages and what failed agree on one end and one last
-- flush
pub record ModeEnds (mode : Mode) (file : List ℕ) (script : Script) (status : ℕ) (w : Seen)
    (c : Counts) : Type 0 where
  pub end : Result (Unit {0}) ModeFault
  pub flushed : Bool
  pub is_status : status ≡ closed_status (status_of end) flushed
  pub output : ends_of mode end script w.out_old w.out_new
  pub messages : Reports (fault_lines file end ++ closed_lines (status_of end) flushed) w.messages_old w.messages_new
      w.failures_old w.failures_new
  pub counted : ModeFailedAs end flushed c
  pub files : w.files_new ≡ w.files_old

-- a mode whose file can't be opened
pub record ModeMissed (file : List ℕ) (status : ℕ) (w : Seen) : Type 0 where
  pub is_status : status ≡ 1
  pub output : w.out_new ≡ w.out_old
  pub messages : Reports (cannot_open file ∷ []) w.messages_old w.messages_new w.failures_old w.failures_new
  pub files : w.files_new ≡ w.files_old

-- a mode on the file of this name
abbrev pub ModeFollows : Mode → List ℕ → Option Script → ℕ → Seen → Counts → Type 0
ModeFollows mode file None status w c = ModeMissed file status w
ModeFollows mode file (Some script) status w c = ModeEnds mode file script status w c
