-- RunSteps: how a run begins, what its steps write, and what they leave of its session and its writers.
-- Not believed: it connects a session's calls with `RunPromises`.
-- Words: BeginGives, IsBegun, BeginFails, WritesInOrder, WritesToEnd, UsesLast, state_at_end, FreezesState,
-- UsesWriters, MarksUnopened, MarksAnyUnopened.
use Rattle.std.specs.Prelude.{◌≡◌, ◌≢◌, ℕ, Bool, true, false, List, Option, Some, None, Result, Ok, Err, OnOk, ◌||◌}
use Rattle.m4_state.specs.Device.{HasBegun, with_bytes}
use Rattle.m4_state.specs.State.{State, IsSized}
use Rattle.m4_frozen.specs.declared.fault.FrozenKind.TheVariants as kinds
use Rattle.m4_engine.specs.declared.ending.Cause.TheVariants as causes
use Rattle.m4_engine.specs.declared.options.Options.{Options}
use Rattle.m4_engine.specs.declared.stop.Stop.{Stop}
use Rattle.m4_engine.specs.declared.stop.Stop.TheVariants as stops
use Rattle.m4_engine.specs.declared.source.Source.{Source as RunSource}
use Rattle.m4_engine.specs.Expansion.{RunSoFar}
use Rattle.m4_engine.specs.File.{Source, Progress, after_sources}
use Rattle.m4_engine.specs.Wraps.{after_wraps}
use Rattle.m4_engine.specs.Order.{IsStepOfRun, Breaks, BreaksBy}
use Rattle.m4_engine.specs.RunSources.{IsUnrefused, MissedBy, any_unopened, is_unopened}
use Rattle.m4_engine.specs.Session.{SessionState, progress_of, session_from, status_at}
use Rattle.m4_engine.specs.SessionFailures.{ReloadFails, ThreeFail}
use Rattle.m4_engine.specs.Start.{Start, From, Faulty}
use Rattle.m4_engine.specs.WholeRun.{FrozenLast, RunGives}
use Rattle.m4_engine.specs.Writers.{Contents, Three}
use Rattle.m4_engine.specs.SessionSteps.{GoesTo, SparesBy, result_after, ending_by}

-- a run begins from a start, whose issued text was written, or ends with the start's fault
abbrev pub BeginGives : Start → Options → Option (List ℕ) → Option (List ℕ) → Result SessionState Stop → Type 0
BeginGives start o out_old out_new (Ok new) =
    (s : State) × (issued : List ℕ) × (start ≡ From s issued)
    × (new ≡ session_from o s) × (out_new ≡ with_bytes out_old issued)
BeginGives start o out_old out_new (Err stops.Finished) = ⊥
BeginGives start o out_old out_new (Err (stops.Ended (causes.Frozen fault))) =
    (out_new ≡ out_old) × (fault.kind ≢ kinds.OutOfMemory → start ≡ Faulty fault)
BeginGives start o out_old out_new (Err (stops.Ended causes.Write)) =
    (s : State) × (issued : List ℕ) × (start ≡ From s issued) × HasBegun out_old out_new issued
BeginGives start o out_old out_new (Err (stops.Ended causes.OutOfMemory)) = out_new ≡ out_old
BeginGives start o out_old out_new (Err (stops.Ended cause)) = ⊥

-- a run begins from some state, or is ended by a frozen file, a writer or an allocation
abbrev pub IsBegun : Options → Result SessionState Stop → Type 0
IsBegun o (Ok new) = (s : State) × (new ≡ session_from o s)
IsBegun o (Err (stops.Ended (causes.Frozen fault))) = Unit {0}
IsBegun o (Err (stops.Ended causes.Write)) = Unit {0}
IsBegun o (Err (stops.Ended causes.OutOfMemory)) = Unit {0}
IsBegun o (Err stop) = ⊥

-- an answer that is no fault of a frozen file
abbrev pub NoneRefused : {A : Type 0} → Result A Stop → Type 0
NoneRefused (Err (stops.Ended cause)) = IsUnrefused cause
NoneRefused answer = Unit {0}

-- the reader of a run's frozen file failed if the run ends by that; if there is none, it is not refused
abbrev pub BeginFails : {A R : Type 0} → (R → ℕ) → Result A Stop → Option R → Option R → Type 0
BeginFails failures answer None None = NoneRefused answer
BeginFails failures answer (Some before) (Some after) = ReloadFails answer (failures before) (failures after)
BeginFails failures answer before after = ⊥

-- a session goes to this progress and writes its output and messages; if it is broken off, one of these steps shows in
-- which order
pub record WritesInOrder (p : Progress) (IsStep : Progress → RunSoFar → RunSoFar → Type 0) (old new : SessionState)
    (w : Contents) (r : Result Unit Stop) : Type 0 where
  pub goes : GoesTo p old new w r
  pub order : BreaksBy r (Breaks IsStep (progress_of old) w)

-- the same of these sources and of the end of the run after them
pub record WritesToEnd (freezes : Bool) (ss : List Source) (old new : SessionState) (w : Three (Option (List ℕ)))
    (r : Result Bool Stop) : Type 0 where
  pub gives : RunGives (result_after freezes old.limits ss (after_sources old.limits ss (progress_of old)))
      (ending_by (status_at new) r) w
  pub order : BreaksBy r (Breaks (IsStepOfRun old.limits ss) (progress_of old) w.two)

-- the writer of the frozen text is used after everything else was written
abbrev pub UsesLast : {Z : Type 0} → Bool → List Source → SessionState → Z → Z → Three (Option (List ℕ))
    → Result Bool Stop → Type 0
UsesLast freezes ss old z z' w r = FrozenLast (ending_by 0 r).cause
    (result_after freezes old.limits ss (after_sources old.limits ss (progress_of old))) z z' w

-- the state of a run after these sources and the texts that they saved
abbrev pub state_at_end : SessionState → List Source → State
state_at_end old ss = ((after_wraps old.limits (after_sources old.limits ss (progress_of old))).so_far).state

-- a run freezes this state, which is sized
pub record FreezesState (freezes : Bool) (s : State) (r : Result Bool Stop) : Type 0 where
  pub sized : OnOk r (freezes ≡ true → IsSized s)

-- a writer failed if the call ends by a write fault; the writer of the frozen text is used only by a run that freezes,
-- and not if another fault ends it
pub record UsesWriters {A Z : Type 0} (freezes : Bool) (old new : Z) (f : Three ℕ) (w : Three (Option (List ℕ)))
    (r : Result A Stop) : Type 0 where
  pub failed : ThreeFail r f w
  pub spared : freezes ≡ false → new ≡ old
  pub spared_by : SparesBy r w

-- a source was read, and it is marked whether it or one before it wasn't opened; one that calls `m4exit` was opened
pub record MarksUnopened {R : Type 0} (source : RunSource R) (old new : Bool) (r : Result Unit Stop) : Type 0 where
  pub read : OnOk r (new ≡ (is_unopened source || old))
  pub exited : (code : ℕ) → r ≡ Err (stops.Ended (causes.Exited code)) → (is_unopened source ≡ false) × (new ≡ old)

-- the same of all sources; after `m4exit` those before the one that called it are marked
pub record MarksAnyUnopened {A R : Type 0} (before after : List (RunSource R)) (old new : Bool) (r : Result A Stop)
    : Type 0 where
  pub read : OnOk r (new ≡ (any_unopened before || old))
  pub exited : (code : ℕ) → r ≡ Err (stops.Ended (causes.Exited code)) → old ≡ false → MissedBy before after new
