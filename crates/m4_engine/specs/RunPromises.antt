-- RunPromises: what a run promises, by its readers, its writers and its ending; a field for each promise.
-- Believed. Manual: "Invoking m4", "Command line files", "Fast loading of frozen state".
-- Words: RunCall, contents_in, ForInputs, IsRun.
use Rattle.std.specs.Prelude.{◌≡◌, ℕ, Bool, true, false, List, Option}
use Rattle.m4_state.specs.Device.{Script}
use Rattle.m4_state.specs.State.{IsSized}
use Rattle.m4_frozen.specs.declared.fault.FrozenFault.{FrozenFault}
use Rattle.m4_engine.specs.declared.ending.Cause.TheVariants as causes
use Rattle.m4_engine.specs.declared.ending.Ending.{Ending}
use Rattle.m4_engine.specs.declared.options.Options.{Options}
use Rattle.m4_engine.specs.declared.source.Source.{Source as RunSource}
use Rattle.m4_engine.specs.Carries.{frozen_state}
use Rattle.m4_engine.specs.Expansion.{Ends}
use Rattle.m4_engine.specs.File.{Source}
use Rattle.m4_engine.specs.OnePass.{OnePass}
use Rattle.m4_engine.specs.Order.{InOrderBy}
use Rattle.m4_engine.specs.Run.{run, status_of}
use Rattle.m4_engine.specs.RunSources.{AllConsumeOnly, DescribeSources, DescribesFrozen, FrozenFailsBy, MissedIn}
use Rattle.m4_engine.specs.RunSources.{ReadersFailBy}
use Rattle.m4_engine.specs.Start.{start_of}
use Rattle.m4_engine.specs.WholeRun.{FrozenLast, NothingIsDone, RunGives}
use Rattle.m4_engine.specs.Writers.{Spares, Three, ThreeFailBy, Writing, contents_of, failures_of}

-- a run's options, its readers before it and after it, its three writers over it, and the writer of the frozen text
-- itself, before it and after it
pub record RunCall (R Z : Type 0) : Type 0 where
  pub options : Options
  pub file_old : Option R
  pub file_new : Option R
  pub sources_old : List (RunSource R)
  pub sources_new : List (RunSource R)
  pub out : Writing
  pub messages : Writing
  pub frozen : Writing
  pub freeze_old : Z
  pub freeze_new : Z

-- the contents of its writers
abbrev pub contents_in : {R Z : Type 0} → RunCall R Z → Three (Option (List ℕ))
contents_in c = contents_of c.out c.messages c.frozen

-- P is so of the frozen file and of the sources of a run: of those with the readers' bytes, and of any sources that
-- start with the bytes that were read
abbrev pub ForInputs : {R Z : Type 0} → (R → Option Script) → RunCall R Z → (Option Script → List Source → Type 0)
    → Type 0
ForInputs script c P =
    (file : Option Script) → DescribesFrozen script c.file_old file
    → (ss : List Source) → DescribeSources script c.sources_old c.sources_new ss → P file ss

-- the promises of a run, by the bytes and the failures of its readers
pub record IsRun {R Z : Type 0} (script : R → Option Script) (failures : R → ℕ) (c : RunCall R Z)
    (e : Ending) : Type 0 where
  -- whole run: the bytes written and the ending are those of the definition of a run
  pub gives : ForInputs script c (λ file ss. RunGives (run c.options file ss) e (contents_in c))
  -- whole run: the status of its cause, where 0 becomes 1 if a source wasn't opened; after `m4exit` those sources count
  -- that came before the one that called it
  pub status : (any_missing : Bool) × (e.status ≡ status_of (Ends e.cause) any_missing)
      × MissedIn e.cause c.sources_old c.sources_new any_missing
  -- whole run: a frozen state is sized
  pub sized : ForInputs script c (λ file ss. e.cause ≡ causes.Done → (c.options).freeze ≡ true
      → IsSized (frozen_state c.options (start_of (c.options).prefix file) ss))
  -- safe and total: a read fault is reported if a reader failed in this call, after all its bytes, and only then; a
  -- read fault of a frozen file only if its reader failed in this call
  pub read : ReadersFailBy script failures e.cause c.sources_old c.sources_new
      × FrozenFailsBy failures e.cause c.file_old c.file_new
  -- safe and total: a write fault is reported only if a writer failed in this call
  pub write : ThreeFailBy e.cause (failures_of c.out c.messages c.frozen) (contents_in c)
  -- whole run: each reader delivered a prefix of its known bytes
  pub taken : AllConsumeOnly script c.sources_old c.sources_new
  -- one pass: the sources are read in order, each only as far as the bytes in hand leave the run open; all that these
  -- settle is written before further bytes are asked for
  pub one_pass : (file : Option Script) → DescribesFrozen script c.file_old file
      → OnePass script c.sources_old c.sources_new c.options (start_of (c.options).prefix file) e.cause
      (contents_in c).two
  -- in order: where a writer or an allocation breaks the run off, output and messages were written in the order in
  -- which the run makes them
  pub order : ForInputs script c (λ file ss. InOrderBy e.cause c.options (start_of (c.options).prefix file) ss
      (contents_in c).two)
  -- faults leave beginnings: if a frozen file is refused, no source is read and nothing is written
  pub refused : (fault : FrozenFault) → e.cause ≡ causes.Frozen fault
      → NothingIsDone c.sources_old c.sources_new (contents_in c)
  -- faults leave beginnings: a write fault comes before the writer of the frozen text is used, or after everything else
  -- was written
  pub last : ForInputs script c (λ file ss. FrozenLast e.cause (run c.options file ss) c.freeze_old c.freeze_new
      (contents_in c))
  -- whole run: only a run that freezes, and reached its end, uses the writer of the frozen text
  pub spared : ((c.options).freeze ≡ false → c.freeze_new ≡ c.freeze_old) × Spares e.cause (contents_in c)
