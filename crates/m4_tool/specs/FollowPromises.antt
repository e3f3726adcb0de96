-- FollowPromises: what a call of `follow` promises, by what it was given and what it left.
-- Believed: the clause `followed` of `follow` is `IsFollowed`, and the law of three lines takes it.
-- Words: EndsRun, IsFollowed.
use Rattle.std.specs.Prelude.{◌≡◌, ℕ, true, List, Option, Some, None}
use Rattle.m4_state.specs.Device.{Script}
use Rattle.m4_state.specs.State.{IsSized}
use Rattle.m4_engine.specs.declared.options.Options.{Options}
use Rattle.m4_engine.specs.declared.ending.Ending.{Ending}
use Rattle.m4_engine.specs.declared.ending.Cause.TheVariants as causes
use Rattle.m4_engine.specs.Carries.{frozen_state}
use Rattle.m4_engine.specs.Expansion.{Ends}
use Rattle.m4_engine.specs.File.{Source}
use Rattle.m4_engine.specs.Run.{run}
use Rattle.m4_engine.specs.Start.{start_of}
use Rattle.m4_engine.specs.WholeRun.{wrapped_by}
use Rattle.m4_tool.specs.Call.{Call}
use Rattle.m4_tool.specs.Known.{ExtendFiles, MayGive}
use Rattle.m4_tool.specs.Line.{LineResult, Starts, thaw_in, words_of}
use Rattle.m4_tool.specs.LineEnd.{Follows, Seen}

-- the writers and the files of a call
abbrev pub seen_by : ℕ → ℕ → Call → Seen
seen_by failures failures' c = record {
  out_old = Some c.out_old;
  out_new = Some c.out_new;
  messages_old = Some c.messages_old;
  messages_new = Some c.messages_new;
  failures_old = failures;
  failures_new = failures';
  files_old = Some c.files;
  files_new = Some c.files_new;
}

-- a run ended by its definition, and a state that it froze is sized
pub record EndsRun (o : Options) (script : Option Script) (sources : List Source) (e : Ending) : Type 0 where
  pub reason : (run o script sources).reason ≡ Ends e.cause
  pub status : e.status ≡ (run o script sources).status
  pub wrapped : e.wrapped ≡ wrapped_by e.cause (run o script sources).saved
  pub sized : e.cause ≡ causes.Done → o.freeze ≡ true
      → IsSized (frozen_state o (start_of o.prefix script) sources)

-- the promises of a call
pub record IsFollowed (c : Call) : Type 0 where
  pub failures_old : ℕ
  pub failures_new : ℕ
  -- the status, the output, the messages and the frozen file are those of the line
  pub extends : (r : LineResult) → MayGive c.request c.files c.input r
      → Follows c.request r c.status c.failure (seen_by failures_old failures_new c)
  -- if nothing failed, its run ended as it is defined
  pub ended : c.failure ≡ None → (script : Option Script) (sources : List Source)
      → thaw_in c.files (c.request).reload ≡ Starts script
      → ExtendFiles c.files c.input (words_of (c.request).names) sources
      → EndsRun (c.request).options script sources c.ending
