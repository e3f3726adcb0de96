-- WholeRun: the bytes that a complete run writes, and its ending, by the definition of a run.
-- Believed. Manual: "Invoking m4", "Fast loading of frozen state".
-- Words: wrapped_by, WroteAll, WrotePrefix, RunGives, HasFrozen, FrozenBegan, FrozenBy, FrozenLast,
-- NothingIsDone.
use Rattle.std.specs.Prelude.{◌≡◌, ℕ, Bool, false, List, Option, Some, None, ◌⊎◌}
use Rattle.m4_state.specs.Device.{with_bytes, HasBegun}
use Rattle.m4_frozen.specs.declared.fault.FrozenKind.{FrozenKind}
use Rattle.m4_frozen.specs.declared.fault.FrozenKind.TheVariants as kinds
use Rattle.m4_engine.specs.declared.ending.Cause.{Cause}
use Rattle.m4_engine.specs.declared.ending.Cause.TheVariants as causes
use Rattle.m4_engine.specs.declared.ending.Ending.{Ending}
use Rattle.m4_engine.specs.Expansion.{Ends}
use Rattle.m4_engine.specs.Run.{RunResult}
use Rattle.m4_engine.specs.Writers.{Contents, Three, IsSpared}
use Rattle.m4_engine.specs.Session.{is_saved}

-- whether text was saved for the end, if everything was read
abbrev pub wrapped_by : Cause → List (List ℕ) → Bool
wrapped_by causes.Done saved = is_saved saved
wrapped_by cause saved = false

-- the run ended as it is defined, and all its output and messages were written
pub record WroteAll (r : RunResult) (e : Ending) (w : Contents) : Type 0 where
  pub reason : r.reason ≡ Ends e.cause
  pub status : e.status ≡ r.status
  pub wrapped : e.wrapped ≡ wrapped_by e.cause r.saved
  pub output : w.out_new ≡ with_bytes w.out_old r.output
  pub messages : w.messages_new ≡ with_bytes w.messages_old r.messages

-- a device or an allocation failed: prefixes of the run's output and messages were written
pub record WrotePrefix (r : RunResult) (e : Ending) (w : Contents) : Type 0 where
  pub wrapped : e.wrapped ≡ false
  pub output : HasBegun w.out_old w.out_new r.output
  pub messages : HasBegun w.messages_old w.messages_new r.messages

-- a frozen file that was refused: it has the fault of the run's definition, unless an allocation failed
abbrev pub RefusedBy : FrozenKind → RunResult → Ending → Contents → Type 0
RefusedBy kinds.OutOfMemory r e w = WrotePrefix r e w
RefusedBy kind r e w = WroteAll r e w

abbrev pub GivesBy : Cause → RunResult → Ending → Contents → Type 0
GivesBy causes.Read r e w = WrotePrefix r e w
GivesBy causes.Write r e w = WrotePrefix r e w
GivesBy causes.OutOfMemory r e w = WrotePrefix r e w
GivesBy (causes.Frozen fault) r e w = RefusedBy fault.kind r e w
GivesBy cause r e w = WroteAll r e w

-- the writer of the frozen text has all of it, if the run has one
abbrev pub HasFrozen : Option (List ℕ) → Three (Option (List ℕ)) → Type 0
HasFrozen None w = IsSpared w
HasFrozen (Some text) w = w.frozen_new ≡ with_bytes w.frozen_old text

-- a writer failed in the frozen text, after everything else that the run writes
pub record FrozenBegan (r : RunResult) (w : Three (Option (List ℕ))) : Type 0 where
  pub text : List ℕ
  pub is : r.frozen ≡ Some text
  pub begun : HasBegun w.frozen_old w.frozen_new text
  pub output : (w.two).out_new ≡ with_bytes (w.two).out_old r.output
  pub messages : (w.two).messages_new ≡ with_bytes (w.two).messages_old r.messages

-- the contents of the frozen text's writer, by the cause that ended the run
abbrev pub FrozenBy : Cause → RunResult → Three (Option (List ℕ)) → Type 0
FrozenBy causes.Done r w = HasFrozen r.frozen w
FrozenBy causes.Write r w = IsSpared w ⊎ FrozenBegan r w
FrozenBy cause r w = IsSpared w

-- where a write fault ends the run, the writer of the frozen text was not used, or everything else was written before
abbrev pub FrozenLast : {Z : Type 0} → Cause → RunResult → Z → Z → Three (Option (List ℕ)) → Type 0
FrozenLast causes.Write r z z' w = (z' ≡ z) ⊎ FrozenBegan r w
FrozenLast cause r z z' w = Unit {0}

-- a run by its definition, its ending, and the bytes written
pub record RunGives (r : RunResult) (e : Ending) (w : Three (Option (List ℕ))) : Type 0 where
  pub gives : GivesBy e.cause r e w.two
  pub frozen : FrozenBy e.cause r w

-- no source of a run was read, and nothing was written
pub record NothingIsDone {S : Type 0} (before after : S) (w : Three (Option (List ℕ))) : Type 0 where
  pub sources : after ≡ before
  pub output : (w.two).out_new ≡ (w.two).out_old
  pub messages : (w.two).messages_new ≡ (w.two).messages_old
  pub frozen : IsSpared w
