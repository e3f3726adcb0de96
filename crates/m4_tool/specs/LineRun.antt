-- LineRun: what the steps of following a line pass to one another.
-- Not believed: `follow` is stated with the words of Known, Line and LineEnd only, and proved through these.
-- Words: refused_line, named_of, named_in, RanFiles, AllGrew, FlushedAs, RanCounts, RefusedAs, ClosedAs, CountedBy,
-- RanBy, Closes, ModeCloses.
use Rattle.std.specs.Prelude.{◌≡◌, ◌≢◌, ◌⊎◌, ℕ, Bool, true, false, List, [], ◌∷◌}
use Rattle.std.specs.Prelude.{Option, Some, None, unwrap_or, option_map}
use Rattle.m4_state.specs.Device.{Script, one_more}
use Rattle.m4_engine.specs.declared.ending.Cause.{Cause}
use Rattle.m4_engine.specs.declared.ending.Cause.TheVariants as causes
use Rattle.m4_engine.specs.declared.ending.Ending.{Ending}
use Rattle.m4_engine.specs.declared.source.Source.{Source as RunSource}
use Rattle.m4_engine.specs.declared.source.Source.TheVariants as sources
use Rattle.m4_engine.specs.Expansion.{Ends}
use Rattle.m4_engine.specs.Run.{RunResult, status_of}
use Rattle.m4_engine.specs.Writers.{Contents, HasWritten, writers, ByCause}
use Rattle.m4_engine.specs.WholeRun.{GivesBy}
use Rattle.m4_tool.specs.declared.followed.Failure.{Failure}
use Rattle.m4_tool.specs.declared.followed.Failure.TheVariants as failures
use Rattle.m4_tool.specs.Failure.{status_after}
use Rattle.m4_tool.specs.Line.{source_name, input_after, refusals, script_at}
use Rattle.m4_tool.specs.FailureCounts.{AnyRose, Counts, Grew, NoneRose, Rose}
use Rattle.m4_tool.specs.LineEnd.{failure_of, Seen, HasPrefix, Reports, added_lines}
use Rattle.m4_tool.specs.LineMode.{closed_lines, closed_status}
use Rattle.m4_tool.specs.ModeFault.{frozen_line}
use Rattle.m4_tool.specs.World.{Files, made_file}

-- the line of the frozen file, if the run ended because it was refused
abbrev pub refused_line : List ℕ → Cause → List ℕ
refused_line file (causes.Frozen fault) = frozen_line file fault
refused_line file cause = []

-- a source by its name, with its bytes if it was opened and they are known
pub record NamedSource : Type 0 where
  pub name : List ℕ
  pub script : Option (Option Script)

abbrev pub named_of : {R : Type 0} → (R → Option Script) → RunSource R → NamedSource
named_of script (sources.Opened name reader) = record { name = name; script = Some (script reader) }
named_of script (sources.Unopened name) = record { name = name; script = None }

-- the same for a word of the line, and for all of them
abbrev pub named_at : Files → Script → List ℕ → NamedSource
named_at files input name = record { name = source_name name; script = option_map Some (script_at files input name) }

abbrev pub named_in : Files → Script → List (List ℕ) → List NamedSource
named_in files input [] = []
named_in files input (name ∷ names) = named_at files input name ∷ named_in files (input_after input name) names

-- the files after a run, by its cause
abbrev pub RanFiles : Cause → List ℕ → RunResult → Contents → Option Files → Option Files → Type 0
RanFiles causes.Done name r w old new = new ≡ option_map (made_file name (unwrap_or r.frozen [])) old
RanFiles causes.Write name r w old new =
    (new ≡ old) ⊎ (HasPrefix name (unwrap_or r.frozen []) old new × HasWritten r.output r.messages w)
RanFiles cause name r w old new = new ≡ old

-- no count is lower
abbrev pub AllGrew : Counts → Type 0
AllGrew c = Grew c.out_old c.out_new × Grew c.messages_old c.messages_new × Grew c.world_old c.world_new

-- after the last flushes, by whether all were done
abbrev pub FlushedAs : Bool → Counts → Type 0
FlushedAs true c = NoneRose c
FlushedAs false c = AllGrew c × AnyRose c

-- after a run, by its cause
pub record RanCounts (cause : Cause) (c : Counts) : Type 0 where
  pub grew : AllGrew c
  pub by : ByCause cause (NoneRose c) (AnyRose c)

-- the messages after the line for a refused file, by whether it was written and flushed
abbrev pub RefusedAs : Bool → ℕ → ℕ → Type 0
RefusedAs true old new = new ≡ old
RefusedAs false old new = Rose old new

-- after the end of a line, by the cause of its run's end and what failed
abbrev pub ClosedAs : Cause → Option Failure → Counts → Type 0
ClosedAs cause None c = (cause ≢ causes.Write) × NoneRose c
ClosedAs cause (Some failures.Write) c = AllGrew c × ((cause ≡ causes.Write) ⊎ AnyRose c)
ClosedAs cause (Some failures.Report) c = Rose c.messages_old c.messages_new
ClosedAs cause (Some failure) c = Unit {0}

-- the failed writes of messages after a run, by its cause
abbrev pub CountedBy : Cause → ℕ → ℕ → Type 0
CountedBy causes.Write old new = (new ≡ old) ⊎ (new ≡ one_more old)
CountedBy cause old new = new ≡ old

-- a run of a line ended
pub record RanBy (name : List ℕ) (r : RunResult) (e : Ending) (w : Seen) : Type 0 where
  pub gives : GivesBy e.cause r e (writers w.out_old w.out_new w.messages_old w.messages_new)
  pub counted : CountedBy e.cause w.failures_old w.failures_new
  pub any_missing : Bool
  pub is_status : e.status ≡ status_of (Ends e.cause) any_missing
  pub files : RanFiles e.cause name r (writers w.out_old w.out_new w.messages_old w.messages_new)
      w.files_old w.files_new

-- what failed, by whether the line for a refused file was written and flushed
abbrev pub failure_after : Option Failure → Bool → Option Failure
failure_after None false = Some failures.Report
failure_after failure is_reported = failure

-- a run that ended was reported
pub record Closes (file : List ℕ) (e : Ending) (status : ℕ) (failure : Option Failure) (w : Seen) : Type 0 where
  pub flushed : Bool
  pub is_status : status ≡ status_after (failure_of e.cause flushed) e.status
  pub is_reported : Bool
  pub refused : is_reported ≡ false → refusals file e.cause ≢ []
  pub failed : failure ≡ failure_after (failure_of e.cause flushed) is_reported
  pub output : w.out_new ≡ w.out_old
  pub reports : Reports (added_lines file e.cause flushed) w.messages_old w.messages_new w.failures_old w.failures_new
  pub files : w.files_new ≡ w.files_old

-- a mode that ended with this status was reported
pub record ModeCloses (old new : ℕ) (out out' messages messages' : Option (List ℕ))
    (failures failures' : ℕ) (c : Counts) : Type 0 where
  pub flushed : Bool
  pub is_status : new ≡ closed_status old flushed
  pub output : out' ≡ out
  pub reports : Reports (closed_lines old flushed) messages messages' failures failures'
  pub counted : FlushedAs flushed c
