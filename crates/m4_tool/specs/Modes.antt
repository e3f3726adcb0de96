-- The results of the modes for the bytes of a frozen file.
-- Believed: public contracts cite it. Words: CanonEnds, InspectEnds, ReportsFault, IsOfDevice, Reading, reads, ModeRuns.
-- own: a file that would issue text has no canonical text.
use Rattle.std.specs.Prelude.{◌≡◌, ◌≢◌, ℕ, false, List, [], Option, Result, Ok, Err, IfSome}
use Rattle.m4_state.specs.Device.{Script, with_bytes, count_after, one_more, HasBegun, Puts}
use Rattle.m4_state.specs.declared.device.DeviceFault.{DeviceFault}
use Rattle.m4_frozen.specs.declared.fault.FrozenFault.{FrozenFault}
use Rattle.m4_frozen.specs.declared.fault.FrozenKind.TheVariants as kinds
use Rattle.m4_frozen.specs.declared.loading.Loaded.{Loaded}
use Rattle.m4_frozen.specs.Freeze.{freeze}
use Rattle.m4_frozen.specs.Listing.{listing}
use Rattle.m4_frozen.specs.Outcome.{Loads, IsFaultOf}
use Rattle.m4_engine.specs.Writers.{Writing}
use Rattle.m4_tool.specs.declared.fault.ModeFault.{ModeFault}
use Rattle.m4_tool.specs.declared.fault.ModeFault.TheVariants as faults
use Rattle.m4_tool.specs.ModeFault.{fault_line, status_of}

-- the loaded value of a frozen file whose reader ended after its bytes
pub record Holds (script : Script) (loaded : Loaded) : Type 0 where
  pub ended : script.fails ≡ false
  pub loads : Loads script.bytes loaded

-- the file is refused for this fault, unless memory ran out
abbrev pub IsRefused : FrozenFault → Script → Type 0
IsRefused fault script =
    fault.kind ≢ kinds.OutOfMemory → IsFaultOf script.fails script.bytes fault

-- the end of `--canon`, for a reader whose bytes the proofs know and an output with the contents `old`:
-- the canonical text of the file, if nothing is issued; otherwise nothing, or a prefix of the text if
-- the output failed
abbrev pub CanonEnds : Result (Unit {0}) ModeFault → Script → Option (List ℕ) → Option (List ℕ) → Type 0
CanonEnds (Ok done) script old new =
    (l : Loaded) × Holds script l × (l.issued ≡ []) × (new ≡ with_bytes old (freeze l.state))
CanonEnds (Err (faults.Frozen f)) script old new = (new ≡ old) × IsRefused f script
CanonEnds (Err faults.Issues) script old new =
    (new ≡ old) × ((l : Loaded) × Holds script l × (l.issued ≢ []))
CanonEnds (Err faults.Write) script old new =
    (l : Loaded) × Holds script l × (l.issued ≡ []) × HasBegun old new (freeze l.state)
CanonEnds (Err faults.OutOfMemory) script old new = new ≡ old

-- the end of `--inspect`: the lines of the file, whatever is issued; otherwise the same
abbrev pub InspectEnds : Result (Unit {0}) ModeFault → Script → Option (List ℕ) → Option (List ℕ) → Type 0
InspectEnds (Ok done) script old new =
    (l : Loaded) × Holds script l × (new ≡ with_bytes old (listing l))
InspectEnds (Err (faults.Frozen f)) script old new = (new ≡ old) × IsRefused f script
InspectEnds (Err faults.Issues) script old new = ⊥
InspectEnds (Err faults.Write) script old new =
    (l : Loaded) × Holds script l × HasBegun old new (listing l)
InspectEnds (Err faults.OutOfMemory) script old new = new ≡ old

-- the messages: nothing if the mode did its work, otherwise the line of its fault, or a prefix of that
-- line if the messages failed too
abbrev pub ReportsFault : Result (Unit {0}) ModeFault → List ℕ → Option (List ℕ) → Option (List ℕ) → ℕ → ℕ → Type 0
ReportsFault (Ok done) file old new failures failures' = (new ≡ old) × (failures' ≡ failures)
ReportsFault (Err fault) file old new failures failures' =
    (put : Result (Unit {0}) DeviceFault) × Puts put old new (fault_line file fault)
    × (failures' ≡ count_after put failures)

-- a fault of a device occurs only if that device failed in this call, by its count of failures; a file that is
-- loaded was read without a failure, and the output failed only where its fault is returned
abbrev pub IsOfDevice : Result (Unit {0}) ModeFault → ℕ → ℕ → ℕ → ℕ → Type 0
IsOfDevice (Ok done) reads reads' writes writes' = (reads' ≡ reads) × (writes' ≡ writes)
IsOfDevice (Err (faults.Frozen f)) reads reads' writes writes' =
    (f.kind ≡ kinds.Read → reads' ≡ one_more reads) × (writes' ≡ writes)
IsOfDevice (Err faults.Issues) reads reads' writes writes' = (reads' ≡ reads) × (writes' ≡ writes)
IsOfDevice (Err faults.Write) reads reads' writes writes' = (reads' ≡ reads) × (writes' ≡ one_more writes)
IsOfDevice (Err faults.OutOfMemory) reads reads' writes writes' = (reads' ≡ reads) × (writes' ≡ writes)

-- a reader over a call: its script, if the proofs know it, and its count of failures before and after
pub record Reading : Type 0 where
  pub script : Option Script
  pub failures_old : ℕ
  pub failures_new : ℕ

-- the reader that is first `old` and then `new`, by the functions of its trait
abbrev pub reads : {A : Type 0} → (A → Option Script) → (A → ℕ) → A → A → Reading
reads script failures old new =
    record { script = script old; failures_old = failures old; failures_new = failures new }

-- how a mode ends: `CanonEnds` or `InspectEnds`
abbrev pub Ends : Type 1
Ends = Result (Unit {0}) ModeFault → Script → Option (List ℕ) → Option (List ℕ) → Type 0

-- a mode was run on this file and returned this status: the status, the output, the devices and the
-- messages agree on one end
pub record ModeRuns (Finishes : Ends) (file : List ℕ) (reader : Reading) (out errors : Writing)
    (answer : ℕ) : Type 0 where
  pub end : Result (Unit {0}) ModeFault
  pub status : answer ≡ status_of end
  pub output : IfSome reader.script (λ script. Finishes end script out.old out.new)
  pub device : IsOfDevice end reader.failures_old reader.failures_new out.failures_old out.failures_new
  pub messages : ReportsFault end file errors.old errors.new errors.failures_old errors.failures_new
