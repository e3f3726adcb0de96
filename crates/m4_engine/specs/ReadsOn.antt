-- ReadsOn: the bytes that the driver asks a reader for, by what it needs more bytes for.
-- Not believed: it connects the driver with `Blocks`.
-- Words: IsWantedAfter, HasReadOn, HasStopped, ReadsOn.
use Rattle.std.specs.Prelude.{◌≡◌, ◌≤◌, ℕ, true, List, [], ◌++◌, Option, Some, None, Result, Ok, Err, length}
use Rattle.m4_state.specs.Device.{Script, after_bytes, IsAtFault}
use Rattle.m4_input.specs.declared.fault.InputFault.{InputFault}
use Rattle.m4_input.specs.declared.fault.InputFault.TheVariants as faults
use Rattle.m4_input.specs.Pending.{Pending}
use Rattle.m4_input.specs.Input.{Held, longer, Reads, block}
use Rattle.m4_input.specs.Blocks.{IsOpenAfter}
use Rattle.m4_engine.specs.declared.machine.driver.Wanted.{Wanted}
use Rattle.m4_engine.specs.declared.machine.driver.Wanted.TheVariants as wanted
use Rattle.m4_engine.specs.Engine.{Engine}

-- after these bytes of the reader the machine still wants the same; of no bytes nothing is said
abbrev pub IsWantedAfter : Wanted → Engine → Pending → List ℕ → Type 0
IsWantedAfter wanted.Token e p x = IsOpenAfter (e.state).quotes (e.state).comments p x
IsWantedAfter wanted.Line e p x = x ≡ []

-- the reader gave x in blocks: the last of them was asked for where the bytes before it leave open what is wanted
pub record HasReadOn (w : Wanted) (e : Engine) (before after : Option Script) (old new : Held) : Type 0 where
  pub x : List ℕ
  pub reads : Reads before after old.pending x new.pending
  pub front : List ℕ
  pub last : List ℕ
  pub parts : x ≡ front ++ last
  pub within : length last ≤ block
  pub undecided : IsWantedAfter w e old.pending front
  pub sound : new.fault ≡ None

-- the questions stopped by a fault: x came before, and no byte is lost
pub record HasStopped (w : Wanted) (e : Engine) (before after : Option Script) (old new : Held)
    (fault : InputFault) : Type 0 where
  pub x : List ℕ
  pub given : before ≡ after_bytes x after
  pub undecided : IsWantedAfter w e old.pending x
  pub stopped : new ≡ record old { pending = longer x true old.pending; fault = Some fault }

-- a block, and further blocks while they leave the next token open
abbrev pub ReadsOn : Wanted → Engine → Option Script → Option Script → Held → Held → Result Unit InputFault → Type 0
ReadsOn w e before after old new (Ok done) = HasReadOn w e before after old new
ReadsOn w e before after old new (Err faults.Read) =
    HasStopped w e before after old new faults.Read × IsAtFault after
ReadsOn w e before after old new (Err faults.OutOfMemory) =
    HasStopped w e before after old new faults.OutOfMemory
ReadsOn w e before after old new (Err fault) = ⊥
