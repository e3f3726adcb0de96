-- SourcesRead: how far each step of a run has read its sources.
-- Not believed: it connects a session's calls with `OnePass`.
-- Words: EndsWithin, SourceGives, SourcesGive, RunReached, ReadsSource, ReadsSources, ReadsToEnd.
use Rattle.std.specs.Prelude.{◌≡◌, ◌≢◌, ℕ, Bool, List, [], Option, Some, Result, Ok, Err}
use Rattle.m4_state.specs.Device.{Script}
use Rattle.m4_engine.specs.declared.ending.Cause.{Cause}
use Rattle.m4_engine.specs.declared.ending.Cause.TheVariants as causes
use Rattle.m4_engine.specs.declared.stop.Stop.{Stop}
use Rattle.m4_engine.specs.declared.stop.Stop.TheVariants as stops
use Rattle.m4_engine.specs.declared.source.Source.{Source as RunSource}
use Rattle.m4_engine.specs.Expansion.{Ends}
use Rattle.m4_engine.specs.File.{Source, Opened, after_source, after_sources}
use Rattle.m4_engine.specs.RunSources.{script_of, ConsumesOnly, AllConsumeOnly}
use Rattle.m4_engine.specs.Settled.{settled_in}
use Rattle.m4_engine.specs.Session.{SessionState, progress_of, Completed}
use Rattle.m4_engine.specs.Writers.{Contents}
use Rattle.m4_engine.specs.OnePass.{IsRead, IsCurrent, AreRead, AskedAt, EndedBy, Reached, IsPast}
use Rattle.m4_engine.specs.SessionSteps.{SourceFails, SourcesFail}

module _ {R : Type 0} (script : R → Option Script) where
  -- a source that ended the run: so far it was read
  abbrev pub EndsWithin : RunSource R → RunSource R → SessionState → Contents → Cause → Type 0
  EndsWithin before after old w cause =
      (name taken : List ℕ) × IsCurrent script before after name taken
      × (at : AskedAt (settled_in old.limits (progress_of old) name) cause taken w)
      × EndedBy cause (settled_in old.limits (progress_of old) name taken) (at.asked ≡ taken) (script_of script after)
      ((after_source old.limits (Opened name taken) (progress_of old)).over ≡ Some (Ends cause))

  -- a source was read to its end, or the run ended within it
  abbrev pub SourceGives : RunSource R → RunSource R → SessionState → SessionState → Contents → Result Unit Stop
      → Type 0
  SourceGives before after old new w (Ok done) =
      (s : Source) × IsRead script before after s
      × Completed old new (after_source old.limits s (progress_of old)) w
  SourceGives before after old new w (Err stops.Finished) = ⊥
  SourceGives before after old new w (Err (stops.Ended (causes.Frozen fault))) = ⊥
  SourceGives before after old new w (Err (stops.Ended cause)) =
      EndsWithin before after old w cause

  -- the sources were read to their ends, in order, or the run ended within one of them
  abbrev pub SourcesGive : List (RunSource R) → List (RunSource R) → SessionState → SessionState → Contents
      → Result Unit Stop → Type 0
  SourcesGive before after old new w (Ok done) =
      (ss : List Source) × AreRead script before after ss
      × Completed old new (after_sources old.limits ss (progress_of old)) w
  SourcesGive before after old new w (Err stops.Finished) = ⊥
  SourcesGive before after old new w (Err (stops.Ended (causes.Frozen fault))) = ⊥
  SourcesGive before after old new w (Err (stops.Ended cause)) =
      Reached script before after old.limits (progress_of old) cause w

  -- the sources and the end of the run: after all of them the last one is the current one
  abbrev pub RunReached : List (RunSource R) → List (RunSource R) → SessionState → Contents → Result Bool Stop → Type 0
  RunReached before after old w (Ok wrapped) =
      IsPast script before after old.limits (progress_of old) causes.Done w
  RunReached before after old w (Err stops.Finished) = ⊥
  RunReached before after old w (Err (stops.Ended causes.Done)) = ⊥
  RunReached before after old w (Err (stops.Ended (causes.Frozen fault))) = ⊥
  RunReached before after old w (Err (stops.Ended cause)) =
      Reached script before after old.limits (progress_of old) cause w

module _ {R : Type 0} (script : R → Option Script) (failures : R → ℕ) where
  -- a source is read: how far, whether its reader failed, and that nothing but bytes was taken of it
  pub record ReadsSource (before after : RunSource R) (old new : SessionState) (w : Contents) (r : Result Unit Stop)
      : Type 0 where
    pub reached : SourceGives script before after old new w r
    pub failed : SourceFails script failures r before after
    pub taken : ConsumesOnly script before after

  -- the same of all sources, in order
  pub record ReadsSources (before after : List (RunSource R)) (old new : SessionState) (w : Contents)
      (r : Result Unit Stop) : Type 0 where
    pub reached : SourcesGive script before after old new w r
    pub failed : SourcesFail script failures r before after
    pub taken : AllConsumeOnly script before after

  -- the same of a run from its sources to its end
  pub record ReadsToEnd (before after : List (RunSource R)) (old : SessionState) (w : Contents)
      (r : Result Bool Stop) : Type 0 where
    pub reached : before ≢ [] → RunReached script before after old w r
    pub failed : SourcesFail script failures r before after
    pub taken : AllConsumeOnly script before after
