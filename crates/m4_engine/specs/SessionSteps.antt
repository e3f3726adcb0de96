-- SessionSteps: what the private steps of a session and of a run do.
-- Not believed: words between the code and what its public contracts say of a session and of a run.
use Rattle.std.specs.Prelude.{◌≡◌, ℕ, Bool, true, false, List, Option, Some, None, Result, Ok, Err}
use Rattle.m4_state.specs.Device.{Script, HasBegun}
use Rattle.m4_engine.specs.declared.ending.Cause.{Cause}
use Rattle.m4_engine.specs.declared.ending.Cause.TheVariants as causes
use Rattle.m4_engine.specs.declared.ending.Ending.{Ending}
use Rattle.m4_engine.specs.declared.source.Source.{Source as RunSource}
use Rattle.m4_engine.specs.declared.stop.Stop.{Stop}
use Rattle.m4_engine.specs.declared.stop.Stop.TheVariants as stops
use Rattle.m4_engine.specs.Expansion.{Limits}
use Rattle.m4_engine.specs.File.{Source, Progress}
use Rattle.m4_engine.specs.Wraps.{read_saved, after_wraps}
use Rattle.m4_engine.specs.Run.{RunResult, result_of, saved_after}
use Rattle.m4_engine.specs.RunSources.{AllPairs, HasFailed, is_sound, AnyFailed}
use Rattle.m4_engine.specs.Session.{SessionState, Completed, FinishGives, FreezeGives, progress_of}
use Rattle.m4_engine.specs.Writers.{Contents, Three, IsSpared, Spares}

-- the result after an input, by its cause
abbrev pub answer_by : Cause → Result Unit Stop
answer_by causes.Done = Ok tt
answer_by cause = Err (stops.Ended cause)

abbrev pub over_after : Cause → Option Cause → Option Cause
over_after causes.Done over = over
over_after cause over = Some cause

-- the end of a run, and the contents of the frozen text's writer
abbrev pub CloseGives : Bool → SessionState → SessionState → Three (Option (List ℕ)) → Result Unit Stop → Type 0
CloseGives true old new w answer = FreezeGives old new w answer
CloseGives false old new w answer = FinishGives old new w.two answer × IsSpared w

-- prefixes of a run's output and messages were written, and the cause ends it
pub record BrokeOff (new : SessionState) (p : Progress) (w : Contents) (cause : Cause) : Type 0 where
  pub over : new.over ≡ Some cause
  pub output : HasBegun w.out_old w.out_new (p.so_far).output
  pub messages : HasBegun w.messages_old w.messages_new (p.so_far).messages

-- an open session that reached this progress, or was interrupted on the way
abbrev pub GoesTo : Progress → SessionState → SessionState → Contents → Result Unit Stop → Type 0
GoesTo p old new w (Ok done) = Completed old new p w × (new.over ≡ None)
GoesTo p old new w (Err stops.Finished) = ⊥
GoesTo p old new w (Err (stops.Ended causes.Done)) = ⊥
GoesTo p old new w (Err (stops.Ended (causes.Frozen fault))) = ⊥
GoesTo p old new w (Err (stops.Ended causes.Read)) = BrokeOff new p w causes.Read
GoesTo p old new w (Err (stops.Ended causes.Write)) = BrokeOff new p w causes.Write
GoesTo p old new w (Err (stops.Ended causes.OutOfMemory)) = BrokeOff new p w causes.OutOfMemory
GoesTo p old new w (Err (stops.Ended cause)) = Completed old new p w × (new.over ≡ Some cause)

-- no reader's fault ends the run
abbrev pub AsksNoReader : Result Unit Stop → Type 0
AsksNoReader (Err (stops.Ended causes.Read)) = ⊥
AsksNoReader result = Unit {0}

-- the same for saved texts, which need no reader
abbrev pub WrapsGive : Progress → SessionState → SessionState → Contents → Result Unit Stop → Type 0
WrapsGive p old new w result = GoesTo p old new w result × AsksNoReader result

-- the saved texts of a run, read as one input
abbrev pub round_of : SessionState → Progress
round_of s = read_saved s.limits s.saved (progress_of s)

-- a session that stopped is over, by the returned cause; otherwise it continues
abbrev pub IsLeft : {A : Type 0} → SessionState → Result A Stop → Type 0
IsLeft new (Ok done) = new.over ≡ None
IsLeft new (Err stops.Finished) = ⊥
IsLeft new (Err (stops.Ended causes.Done)) = ⊥
IsLeft new (Err (stops.Ended (causes.Frozen fault))) = ⊥
IsLeft new (Err (stops.Ended cause)) = new.over ≡ Some cause

module _ {A R : Type 0} (script : R → Option Script) (failures : R → ℕ) where
  -- a call ends the run by a read fault if the reader of this source failed in it, after all its bytes
  abbrev pub SourceFails : Result A Stop → RunSource R → RunSource R → Type 0
  SourceFails (Err (stops.Ended causes.Read)) before after = HasFailed script failures before after
  SourceFails result before after = is_sound failures before after

  abbrev pub SourcesFail : Result A Stop → List (RunSource R) → List (RunSource R) → Type 0
  SourcesFail (Err (stops.Ended causes.Read)) before after = AnyFailed script failures before after
  SourcesFail result before after = AllPairs (is_sound failures) before after

-- by a result: a call that ends the run by another cause than a write fault writes no frozen text
abbrev pub SparesBy : {A : Type 0} → Result A Stop → Three (Option (List ℕ)) → Type 0
SparesBy (Ok done) w = Unit {0}
SparesBy (Err stops.Finished) w = IsSpared w
SparesBy (Err (stops.Ended cause)) w = Spares cause w

-- the result of a run after its sources, and the ending by the last result
abbrev pub result_after : Bool → Limits → List Source → Progress → RunResult
result_after freezes limits ss p = result_of freezes (saved_after ss p) (after_wraps limits p)

abbrev pub ending_by : ℕ → Result Bool Stop → Ending
ending_by status (Ok wrapped) = record { status = status; cause = causes.Done; wrapped = wrapped }
ending_by status (Err stops.Finished) =
    record { status = status; cause = causes.Done; wrapped = false }
ending_by status (Err (stops.Ended cause)) =
    record { status = status; cause = cause; wrapped = false }
