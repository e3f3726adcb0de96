-- Laws: facts about the definitions only: each file is decided, and canonical text loads as its state.
-- Believed as statements; the functions of the module `laws` carry their proofs.
-- The law `TiesReaderSteps` cites `ReaderSteps`, and so does the start of a run (m4_engine, `Start`).
-- Words: OneReading, OneAnswer, TiesReaderSteps, FreezeLoads, CanonAgain, as_older, RefreezeOlder,
-- UnfinishedRefused.
use Rattle.std.specs.Prelude.{◌≡◌, ◌↔◌, ℕ, List, [], ◌⊎◌, Ok, Err, map, if◌then◌else◌, true}
use Rattle.std.specs.Str.{bytes_eq}
use Rattle.m4_state.specs.declared.builtin.Builtin.{Builtin}
use Rattle.m4_state.specs.declared.definition.Def.{Def}
use Rattle.m4_state.specs.declared.definition.Def.TheVariants as defs
use Rattle.m4_state.specs.Builtin.{name_of}
use Rattle.m4_state.specs.State.{State, IsState, IsSized}
use Rattle.m4_frozen.specs.declared.fault.Refusal.{Refusal}
use Rattle.m4_frozen.specs.Denote.{denote}
use Rattle.m4_frozen.specs.Directive.{Directive}
use Rattle.m4_frozen.specs.Freeze.{freeze}
use Rattle.m4_frozen.specs.Spells.{Spells}
use Rattle.m4_frozen.specs.FaultAt.{ExactFault, FaultAt, IsFaultOfFailed}
use Rattle.m4_frozen.specs.declared.fault.FrozenKind.TheVariants as kinds
use Rattle.m4_frozen.specs.Unfinished.{is_marked}
use Rattle.m4_frozen.specs.ReaderSteps.{file_at, fault_of, failed_answer}

-- the same bytes spell only one list of directives
abbrev pub OneReading : Type 0
OneReading =
    (bytes : List ℕ) (ds es : List Directive) → Spells ds bytes → Spells es bytes → ds ≡ es

-- the bytes are spelled by exactly these directives, and have no fault
pub record IsOnlyRead (bytes : List ℕ) : Type 0 where
  pub directives : List Directive
  pub spelled : Spells directives bytes
  pub only : (others : List Directive) → Spells others bytes → others ≡ directives
  pub no_fault : (fault : ExactFault) → FaultAt bytes fault → ⊥

-- the bytes have exactly this fault, and no directives spell them
pub record IsOnlyRefused (bytes : List ℕ) : Type 0 where
  pub fault : ExactFault
  pub is_fault : FaultAt bytes fault
  pub only : (other : ExactFault) → FaultAt bytes other → other ≡ fault
  pub not_spelled : (directives : List Directive) → Spells directives bytes → ⊥

-- any bytes are read in one way, or refused in one way
abbrev pub OneAnswer : Type 0
OneAnswer = (bytes : List ℕ) → IsOnlyRead bytes ⊎ IsOnlyRefused bytes

-- any bytes have exactly one fault if the reader failed after them
abbrev pub OneAnswerOfFailed : Type 0
OneAnswerOfFailed =
    (given : List ℕ)
    → (fault : ExactFault) × IsFaultOfFailed given fault
    × ((other : ExactFault) → IsFaultOfFailed given other → other ≡ fault)

-- the reader's steps return directives exactly if these spell the bytes, a refusal exactly if it is
-- the fault, and for a reader that failed its fault
pub record AreTied (bytes : List ℕ) : Type 0 where
  pub directives : (ds : List Directive) → (file_at bytes ≡ Ok ds) ↔ Spells ds bytes
  pub fault : (f : ExactFault)
      → ((e : Refusal) × (file_at bytes ≡ Err e) × (f ≡ fault_of bytes e)) ↔ FaultAt bytes f
  pub failed : (f : ExactFault)
      → (f ≡ failed_answer bytes (file_at bytes)) ↔ IsFaultOfFailed bytes f

-- the reader's steps are tied to the definitions for all bytes
abbrev pub TiesReaderSteps : Type 0
TiesReaderSteps = (bytes : List ℕ) → AreTied bytes

-- some directives spell the canonical text of a state, they denote that state and issue nothing,
-- and no others spell it
pub record LoadsBack (s : State) : Type 0 where
  pub directives : List Directive
  pub spelled : Spells directives (freeze s)
  pub denoted : denote directives ≡ record { state = s; issued = [] }
  pub only : (others : List Directive) → Spells others (freeze s) → others ≡ directives

-- the canonical text of a state that is valid and sized loads as that state
abbrev pub FreezeLoads : Type 0
FreezeLoads = (s : State) → IsState s → IsSized s → LoadsBack s

-- so a canonical text that is loaded and frozen again is the same byte for byte
abbrev pub CanonAgain : Type 0
CanonAgain =
    (s : State) (ds : List Directive)
    → IsState s → IsSized s → Spells ds (freeze s) → freeze (denote ds).state ≡ freeze s

-- a definition in an older processor, whose table lacks a builtin: the builtin is a placeholder
abbrev pub kept_by_older : Builtin → Def → Def
kept_by_older lacking (defs.Text x) = defs.Text x
kept_by_older lacking (defs.Builtin b) =
    if bytes_eq (name_of b) (name_of lacking) then defs.Placeholder (name_of b) else defs.Builtin b
kept_by_older lacking (defs.Placeholder x) = defs.Placeholder x

-- a state in an older processor
abbrev pub as_older : Builtin → State → State
as_older lacking s =
    record s { table = map (λ e. (e.0, map (kept_by_older lacking) e.1)) s.table }

-- states that differ only in that placeholders of a builtin's name are the builtin itself have the
-- same canonical text: so a frozen file that an older processor wrote keeps its bytes
abbrev pub RefreezeOlder : Type 0
RefreezeOlder =
    (lacking : Builtin) (s t : State) → as_older lacking s ≡ as_older lacking t → freeze s ≡ freeze t

-- bytes that begin with the mark have exactly one fault, F1 at 0, and no directives spell them
pub record IsRefusedAtOnce (bytes : List ℕ) : Type 0 where
  pub refused : IsOnlyRefused bytes
  pub at_once : refused.fault ≡ record { kind = kinds.NoVersion; offset = 0 }

abbrev pub UnfinishedRefused : Type 0
UnfinishedRefused = (bytes : List ℕ) → is_marked bytes ≡ true → IsRefusedAtOnce bytes
