-- Blocks: what an input has in hand of its file, and what it asks its reader for.
-- Believed. Manual: "How m4 copies input to output".
-- Words: BlockGives, IsOpenAfter, TokenBlocks, TokenGives, LineGives, IsInFront.
use Rattle.std.specs.Prelude.{◌≡◌, ◌⊎◌, ◌≤◌, nat_lt, ℕ, Bool, true, false, List, [], ◌++◌, Option, Some, None, Result}
use Rattle.std.specs.Prelude.{Ok, Err, length, take}
use Rattle.m4_state.specs.Device.{Script, after_bytes, IsAtEnd, IsAtFault}
use Rattle.m4_state.specs.declared.delimiters.Delimiters.{Delimiters}
use Rattle.m4_input.specs.declared.fault.InputFault.{InputFault}
use Rattle.m4_input.specs.declared.fault.InputFault.TheVariants as faults
use Rattle.m4_input.specs.Pending.{Pending, text_of}
use Rattle.m4_input.specs.Input.{Held, longer, Reads, block, wants_token, after_line, all_read}

-- one question to the reader: a block of its bytes comes after those in hand, or its end was met and the
-- input is closed; the answer says whether bytes came. If it fails, no byte is lost
abbrev pub BlockGives : Option Script → Option Script → Held → Held → Result Bool InputFault → Type 0
BlockGives before after old new (Ok came) =
    (x : List ℕ) × (before ≡ after_bytes x after) × (length x ≤ block) × (came ≡ nat_lt 0 (length x))
    × (x ≡ [] → IsAtEnd after) × (new ≡ record old { pending = longer x came old.pending })
BlockGives before after old new (Err faults.Read) =
    (after ≡ before) × IsAtFault after × (new ≡ record old { fault = Some faults.Read })
BlockGives before after old new (Err faults.OutOfMemory) =
    (after ≡ before) × (new ≡ record old { fault = Some faults.OutOfMemory })
BlockGives before after old new (Err fault) = ⊥

-- after these bytes of the reader the first token is still open; of no bytes nothing is said
abbrev pub IsOpenAfter : Delimiters → Delimiters → Pending → List ℕ → Type 0
IsOpenAfter q c old x = (x ≡ []) ⊎ wants_token q c (longer x true old)

-- x came in blocks, each but the first asked for where the bytes before it leave the first token open
pub record TokenBlocks (q c : Delimiters) (old : Pending) (x : List ℕ) : Type 0 where
  pub front : List ℕ
  pub last : List ℕ
  pub parts : x ≡ front ++ last
  pub within : length last ≤ block
  pub undecided : IsOpenAfter q c old front

-- the questions stopped by a fault: x came before, and no byte is lost
pub record TokenStops (q c : Delimiters) (before after : Option Script) (old new : Held)
    (fault : InputFault) : Type 0 where
  pub x : List ℕ
  pub given : before ≡ after_bytes x after
  pub undecided : IsOpenAfter q c old.pending x
  pub stopped : new ≡ record old { pending = longer x true old.pending; fault = Some fault }

-- a block, and further blocks while they leave the first token open
abbrev pub TokenGives : Delimiters → Delimiters → Option Script → Option Script → Held → Held → Result Unit InputFault
    → Type 0
TokenGives q c before after old new (Ok done) =
    (x : List ℕ) × Reads before after old.pending x new.pending × TokenBlocks q c old.pending x
    × ((new.pending).may_follow ≡ false → IsOpenAfter q c old.pending x) × (new.fault ≡ None)
TokenGives q c before after old new (Err faults.Read) =
    TokenStops q c before after old new faults.Read × IsAtFault after
TokenGives q c before after old new (Err faults.OutOfMemory) = TokenStops q c before after old new faults.OutOfMemory
TokenGives q c before after old new (Err fault) = ⊥

-- the rest of the line is dropped as far as it is in hand: all of it, or more of it may come
abbrev pub LineGives : Held → Held → Bool → Type 0
LineGives old new true = (after_line old.pending ≡ Some new.pending) × (new.fault ≡ old.fault)
LineGives old new false =
    (after_line old.pending ≡ None) × (new ≡ record old { pending = all_read old.pending })

-- bytes at the start of those in hand; `more` says whether others may come after them
abbrev pub IsInFront : Pending → List ℕ → Bool → Type 0
IsInFront p x true = x ≡ take (length x) (text_of p)
IsInFront p x false = (text_of p ≡ x) × (p.may_follow ≡ false)
