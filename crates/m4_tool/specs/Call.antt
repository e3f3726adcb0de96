-- Call: what a call of `follow` was given and what it left.
-- Believed: the clause `followed` of `follow` fills it. Words: Call.
use Rattle.std.specs.Prelude.{ℕ, List, Option}
use Rattle.m4_state.specs.Device.{Script}
use Rattle.m4_engine.specs.declared.ending.Ending.{Ending}
use Rattle.m4_tool.specs.declared.followed.Failure.{Failure}
use Rattle.m4_tool.specs.Line.{Request}
use Rattle.m4_tool.specs.World.{Files}

-- what a call of `follow` was given and what it left: the files and standard input of its world, the files after it,
-- the contents of both writers before and after it, its status, how its run ended, and what failed
pub record Call : Type 0 where
  pub request : Request
  pub files : Files
  pub input : Script
  pub files_new : Files
  pub out_old : List ℕ
  pub out_new : List ℕ
  pub messages_old : List ℕ
  pub messages_new : List ℕ
  pub status : ℕ
  pub ending : Ending
  pub failure : Option Failure
