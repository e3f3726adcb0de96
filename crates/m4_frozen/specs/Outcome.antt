-- Predicates on the results of a reader of frozen files.
-- Believed: they are cited by public contracts.
-- Words: IfFault, HasFault, IsFaultOf, Loads.
use Rattle.std.specs.Prelude.{◌≡◌, ◌≢◌, ℕ, Bool, true, false, List, Result, IfErr}
use Rattle.m4_frozen.specs.declared.fault.FrozenKind.TheVariants as kinds
use Rattle.m4_frozen.specs.declared.fault.FrozenFault.{FrozenFault}
use Rattle.m4_frozen.specs.declared.loading.Loaded.{Loaded}
use Rattle.m4_frozen.specs.Directive.{Directive}
use Rattle.m4_frozen.specs.Spells.{Spells}
use Rattle.m4_frozen.specs.Denote.{denote}
use Rattle.m4_frozen.specs.FaultAt.{ExactFault, reported, FaultAt, IsFaultOfFailed}

-- a condition on a fault, unless memory ran out
abbrev pub IfFault : {A : Type 0} → Result A FrozenFault → (FrozenFault → Type 0) → Type 0
IfFault r P = IfErr r (λ f. f.kind ≢ kinds.OutOfMemory → P f)

-- the exact fault of bytes after which the reader ended (`false`) or failed (`true`)
abbrev pub HasFault : Bool → List ℕ → ExactFault → Type 0
HasFault false bytes fault = FaultAt bytes fault
HasFault true bytes fault = IsFaultOfFailed bytes fault

-- that fault as it is reported
abbrev pub IsFaultOf : Bool → List ℕ → FrozenFault → Type 0
IsFaultOf fails bytes fault = (exact : ExactFault) × HasFault fails bytes exact × (fault ≡ reported exact)

-- the loaded value is the meaning of some directives that spell the bytes
pub record Loads (bytes : List ℕ) (loaded : Loaded) : Type 0 where
  pub directives : List Directive
  pub spelled : Spells directives bytes
  pub denoted : loaded ≡ denote directives
