-- Blocks: the progress of loading a file whose bytes arrive block by block.
-- Not believed: private contracts cite it; `read_frozen` states the same for whole files.
-- Words: HasTaken, Fills, MatchesScript, failures_after, IsUnderway.
use Rattle.std.specs.Prelude.{◌≡◌, ℕ, ◌≤◌, ◌-◌, ◌^◌, min, List, ◌++◌, length, Option, IfSome, Result, Ok, Err, ◌⊎◌}
use Rattle.m4_state.specs.Device.{Script, after_bytes, one_more, IsAtEnd, IsAtFault}
use Rattle.m4_frozen.specs.declared.fault.FrozenKind.TheVariants as kinds
use Rattle.m4_frozen.specs.declared.fault.FrozenFault.{FrozenFault}
use Rattle.m4_frozen.specs.declared.loading.Loaded.{Loaded}
use Rattle.m4_frozen.specs.declared.loading.Loading.{Loading}
use Rattle.m4_frozen.specs.declared.loading.Pause.{Pause}
use Rattle.m4_frozen.specs.declared.room.BlockRead.{BlockRead}
use Rattle.m4_frozen.specs.declared.room.BlockRead.TheVariants as marks
use Rattle.m4_frozen.specs.declared.window.Window.{Window}
use Rattle.m4_frozen.specs.FaultAt.{ExactFault, reported, FaultAt, IsSettledBy}
use Rattle.m4_frozen.specs.Outcome.{Loads}
use Rattle.m4_frozen.specs.Underway.{IsRead, HasPaused, EndsSo}

-- an offset as it is reported: it stays at its greatest value
abbrev pub as_offset : ℕ → ℕ
as_offset n = min n (2 ^ 64 - 1)

-- where the reader is, by its last answer: at its end, at its fault, or anywhere
abbrev pub MatchesScript : BlockRead → Option Script → Type 0
MatchesScript marks.More remaining = Unit {0}
MatchesScript marks.End remaining = IsAtEnd remaining
MatchesScript marks.Failure remaining = IsAtFault remaining

-- the count of its failures
abbrev pub failures_after : BlockRead → ℕ → ℕ
failures_after marks.Failure n = one_more n
failures_after after n = n

-- bytes were read, and follow those that were there
pub record HasTaken (old new : List ℕ) (messages_old messages_new : Option Script) : Type 0 where
  pub block : List ℕ
  pub bytes : new ≡ old ++ block
  pub gives : messages_old ≡ after_bytes block messages_new

-- a block was read, and follows the bytes of the window
pub record HasCome (old new : Window) (messages_old messages_new : Option Script) : Type 0 where
  pub block : List ℕ
  pub bytes : new.bytes ≡ old.bytes ++ block
  pub dropped : new.dropped ≡ old.dropped
  pub gives : messages_old ≡ after_bytes block messages_new

-- a block was read, and this is known of the reader
abbrev pub Fills : Window → Window → Option Script → Option Script → BlockRead → Type 0
Fills old new messages_old messages_new after = HasCome old new messages_old messages_new
    × MatchesScript after messages_new

-- all bytes that were read but those of the window are loaded
pub record IsUnderway (at_first remaining : Option Script) (window : Window) (loading : Loading)
    : Type 0 where
  pub read : List ℕ
  pub gives : at_first ≡ after_bytes (read ++ window.bytes) remaining
  pub dropped : window.dropped ≡ as_offset (length read)
  pub has_read : IsRead read loading

-- the result of reading a window, whose bytes follow those that are loaded
abbrev pub ReadsWindow : Window → Loading → Loading → Result Pause FrozenFault → Type 0
ReadsWindow window old new (Ok pause) =
    (read : List ℕ) → IsRead read old → HasPaused read window.bytes new pause
ReadsWindow window old new (Err fault) = (fault ≡ record { kind = kinds.OutOfMemory; offset = 0 })
    ⊎ ((read : List ℕ) → IsRead read old → window.dropped ≡ as_offset (length read)
    → (exact : ExactFault) × IsSettledBy (read ++ window.bytes) exact × (fault ≡ reported exact))

-- the result if the file ends after a window
abbrev pub EndsAs : Window → Loading → Pause → Result Loaded FrozenFault → Type 0
EndsAs window loading pause (Ok loaded) = (given : List ℕ) → EndsSo given loading pause.refusal
    → Loads given loaded
EndsAs window loading pause (Err fault) = (read : List ℕ)
    → EndsSo (read ++ window.bytes) loading pause.refusal
    → IfSome pause.refusal (λ e. e.bytes_left ≤ length window.bytes)
    → window.dropped ≡ as_offset (length read)
    → (exact : ExactFault) × FaultAt (read ++ window.bytes) exact × (fault ≡ reported exact)
