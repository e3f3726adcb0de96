-- RunSources: the definitions' sources for those of a run, by the bytes that their readers deliver.
-- Believed. Manual: "Command line files". Words: source_of, ExtendsRead, ExtendsSource, DescribeSources,
-- any_unopened, MissedBefore, MissedBy, MissedIn, AllPairs, AnyFailed, is_sound, ReadersFailBy, AllConsumeOnly,
-- DescribesFrozen, FrozenFailsBy.
use Rattle.std.specs.Prelude.{◌≡◌, ℕ, Bool, true, false, List, [], ◌∷◌, ◌++◌, map, Option, Some, None, ◌⊎◌, ◌||◌}
use Rattle.std.specs.Prelude.{if◌then◌else◌}
use Rattle.m4_state.specs.Device.{Script, after_bytes, one_more, IsAtFault}
use Rattle.m4_frozen.specs.declared.fault.FrozenKind.TheVariants as kinds
use Rattle.m4_frozen.specs.declared.fault.FrozenFault.{FrozenFault}
use Rattle.m4_engine.specs.declared.ending.Cause.{Cause}
use Rattle.m4_engine.specs.declared.ending.Cause.TheVariants as causes
use Rattle.m4_engine.specs.declared.source.Source.{Source as RunSource}
use Rattle.m4_engine.specs.declared.source.Source.TheVariants as sources
use Rattle.m4_engine.specs.File.{Source, Opened, Unopened}

-- a reader that ends after its bytes; one that fails gives no source
abbrev pub opened_source : List ℕ → Option Script → Option Source
opened_source name None = None
opened_source name (Some script) = if script.fails then None else Some (Opened name script.bytes)

abbrev pub unopened_source : List ℕ → Option Source
unopened_source name = Some (Unopened name)

-- bytes that a reader could have delivered in all: they start with those that were read, and equal them if
-- the reader reached its end
pub record ExtendsRead (before after : Script) (bytes : List ℕ) : Type 0 where
  pub taken : List ℕ
  pub more : List ℕ
  pub given : before.bytes ≡ taken ++ after.bytes
  pub begins : bytes ≡ taken ++ more
  pub ended : after.bytes ≡ [] → after.fails ≡ false → more ≡ []

abbrev pub ExtendsOpened : List ℕ → Option Script → Option Script → Source → Type 0
ExtendsOpened name (Some before) (Some after) (Opened n bytes) = (n ≡ name) × ExtendsRead before after bytes
ExtendsOpened name before after s = ⊥

module _ {R : Type 0} (script : R → Option Script) where
  -- the definitions' source for one of a run's, if its reader's bytes are known and the reader does not fail
  abbrev pub source_of : RunSource R → Option Source
  source_of (sources.Opened name reader) = opened_source name (script reader)
  source_of (sources.Unopened name) = unopened_source name

  -- what its reader still delivers; nothing is known of a source that wasn't opened
  abbrev pub script_of : RunSource R → Option Script
  script_of (sources.Opened name reader) = script reader
  script_of (sources.Unopened name) = None

  -- a source that one of a run's may have been, by the bytes that were read from it
  abbrev pub ExtendsSource : RunSource R → RunSource R → Source → Type 0
  ExtendsSource (sources.Opened name reader) after s =
      ExtendsOpened name (script reader) (script_of after) s
  ExtendsSource (sources.Unopened name) after s = s ≡ Unopened name

  abbrev pub ExtendSources : List (RunSource R) → List (RunSource R) → List Source → Type 0
  ExtendSources [] [] [] = Unit {0}
  ExtendSources (x ∷ xs) (y ∷ ys) (s ∷ ss) = ExtendsSource x y s × ExtendSources xs ys ss
  ExtendSources before after ss = ⊥

  -- definitions' sources for those of a run, by the run's sources before and after it: those with the readers'
  -- bytes, or any that start with the bytes that were read
  abbrev pub DescribeSources : List (RunSource R) → List (RunSource R) → List Source → Type 0
  DescribeSources before after ss =
      (map source_of before ≡ map Some ss) ⊎ ExtendSources before after ss

-- whether a source wasn't opened
abbrev pub is_unopened : {R : Type 0} → RunSource R → Bool
is_unopened (sources.Opened name reader) = false
is_unopened (sources.Unopened name) = true

-- whether one of the sources wasn't opened
abbrev pub any_unopened : {R : Type 0} → List (RunSource R) → Bool
any_unopened [] = false
any_unopened (x ∷ xs) = (is_unopened x || any_unopened xs)

-- a run ended in one of its sources, and those after it are as they were: whether one before it wasn't opened
pub record MissedBefore {R : Type 0} (before after : List (RunSource R)) (any_missing : Bool) : Type 0 where
  pub first : List (RunSource R)
  pub name : List ℕ
  pub reader : R
  pub rest : List (RunSource R)
  pub parts : before ≡ first ++ sources.Opened name reader ∷ rest
  pub read : List (RunSource R)
  pub untouched : after ≡ read ++ rest
  pub missed : any_missing ≡ any_unopened first

-- or it ended after all of them
abbrev pub MissedBy : {R : Type 0} → List (RunSource R) → List (RunSource R) → Bool → Type 0
MissedBy before after any_missing =
    MissedBefore before after any_missing ⊎ (any_missing ≡ any_unopened before)

-- by the cause: of a run that read everything all sources count, after `m4exit` those before the one that called it
abbrev pub MissedIn : {R : Type 0} → Cause → List (RunSource R) → List (RunSource R) → Bool → Type 0
MissedIn causes.Done before after any_missing = any_missing ≡ any_unopened before
MissedIn (causes.Exited code) before after any_missing = MissedBy before after any_missing
MissedIn cause before after any_missing = Unit {0}

-- P relates the elements at each position of two lists, which are equally long
abbrev pub AllPairs : {A : Type 0} → (A → A → Type 0) → List A → List A → Type 0
AllPairs P [] [] = Unit {0}
AllPairs P (x ∷ xs) (y ∷ ys) = P x y × AllPairs P xs ys
AllPairs P before after = ⊥

-- the reader of a source did not fail
abbrev pub is_sound : {R : Type 0} → (R → ℕ) → RunSource R → RunSource R → Type 0
is_sound failures (sources.Opened name before) (sources.Opened n after) =
    failures after ≡ failures before
is_sound failures (sources.Unopened name) (sources.Unopened n) = Unit {0}
is_sound failures before after = ⊥

module _ {R : Type 0} (script : R → Option Script) (failures : R → ℕ) where
  -- the reader of a source failed once more, after all its bytes
  abbrev pub HasFailed : RunSource R → RunSource R → Type 0
  HasFailed (sources.Opened name before) (sources.Opened n after) =
      (failures after ≡ one_more (failures before)) × IsAtFault (script after)
  HasFailed before after = ⊥

  -- the reader of one of the sources failed
  abbrev pub AnyFailed : List (RunSource R) → List (RunSource R) → Type 0
  AnyFailed (x ∷ xs) (y ∷ ys) = HasFailed x y ⊎ AnyFailed xs ys
  AnyFailed before after = ⊥

  -- a reader failed if the run ends by a read fault; otherwise none did
  abbrev pub ReadersFailBy : Cause → List (RunSource R) → List (RunSource R) → Type 0
  ReadersFailBy causes.Read before after = AnyFailed before after
  ReadersFailBy cause before after = AllPairs (is_sound failures) before after

module _ {R : Type 0} (script : R → Option Script) where
  -- bytes were read from the reader of a source, and nothing else changed
  abbrev pub ConsumesOnly : RunSource R → RunSource R → Type 0
  ConsumesOnly (sources.Opened name before) (sources.Opened n after) =
      (n ≡ name) × ((x : List ℕ) × (script before ≡ after_bytes x (script after)))
  ConsumesOnly (sources.Unopened name) (sources.Unopened n) = n ≡ name
  ConsumesOnly before after = ⊥

  abbrev pub AllConsumeOnly : List (RunSource R) → List (RunSource R) → Type 0
  AllConsumeOnly before after = AllPairs ConsumesOnly before after

  -- the script of a frozen file's reader; none if a run has no frozen file
  abbrev pub DescribesFrozen : Option R → Option Script → Type 0
  DescribesFrozen None file = file ≡ None
  DescribesFrozen (Some reader) file = (s : Script) × (script reader ≡ Some s) × (file ≡ Some s)

-- a fault of a frozen file: if it is a read fault, the reader failed, once; want of memory has no place
pub record IsFaultBy (fault : FrozenFault) (old new : ℕ) : Type 0 where
  pub read : fault.kind ≡ kinds.Read → new ≡ one_more old
  pub no_memory : fault.kind ≡ kinds.OutOfMemory → fault.offset ≡ 0

-- the run does not end by a frozen file
abbrev pub IsUnrefused : Cause → Type 0
IsUnrefused (causes.Frozen fault) = ⊥
IsUnrefused cause = Unit {0}

-- a run that ends by the fault of its frozen file; if the file was loaded, its reader didn't fail
abbrev pub frozen_fails : Cause → ℕ → ℕ → Type 0
frozen_fails (causes.Frozen fault) old new = IsFaultBy fault old new
frozen_fails cause old new = new ≡ old

abbrev pub FrozenFailsBy : {R : Type 0} → (R → ℕ) → Cause → Option R → Option R → Type 0
FrozenFailsBy failures cause None None = IsUnrefused cause
FrozenFailsBy failures cause (Some before) (Some after) = frozen_fails cause (failures before) (failures after)
FrozenFailsBy failures cause before after = ⊥
