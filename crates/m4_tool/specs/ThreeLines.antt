-- ThreeLines: three calls of `follow`: one that freezes, one that reloads, and one over the files of both.
-- Believed as a statement; the function `three_lines` of the module `laws` carries its proof.
-- Words: request, Adds, CallsJoin, ThreeLines.
use Rattle.std.specs.Prelude.{◌≡◌, ◌≢◌, ℕ, Bool, false, List, ◌++◌, Option, Some, None, All, codes, is_some}
use Rattle.m4_engine.specs.declared.options.Options.{Options}
use Rattle.m4_engine.specs.declared.ending.Cause.TheVariants as causes
use Rattle.m4_tool.specs.Call.{Call}
use Rattle.m4_tool.specs.FollowPromises.{IsFollowed}
use Rattle.m4_tool.specs.Line.{Request, words_of}

-- a line with these options and files, that starts from one frozen file, if it is given, and freezes to
-- another, if it is given
abbrev pub request : Options → Option (List ℕ) → Option (List ℕ) → List (List ℕ) → Request
request o reload freeze names =
    record { options = record o { freeze = is_some freeze }; names = names; reload = reload; freeze = freeze }

-- the first two add x and y, and the third adds both
pub record Adds (a a' b b' c c' : List ℕ) : Type 0 where
  pub x : List ℕ
  pub y : List ℕ
  pub first : a' ≡ a ++ x
  pub second : b' ≡ b ++ y
  pub joint : c' ≡ c ++ (x ++ y)

-- what three calls leave; s is the file that the first makes and the second reads. After the second and after the third
-- all files are the same but s, which the third has no need of. If both freeze to s at their end, s is the same too
pub record CallsJoin (s : List ℕ) (first second joint : Call) : Type 0 where
  pub output : Adds first.out_old first.out_new second.out_old second.out_new joint.out_old joint.out_new
  pub messages : Adds first.messages_old first.messages_new second.messages_old second.messages_new
      joint.messages_old joint.messages_new
  pub status : joint.status ≡ second.status
  pub cause : (joint.ending).cause ≡ (second.ending).cause
  pub files : (name : List ℕ) → name ≢ s → joint.files_new name ≡ second.files_new name
  pub frozen : (second.request).freeze ≡ Some s → (second.ending).cause ≡ causes.Done
      → joint.files_new s ≡ second.files_new s

-- `m4r -F s A...`, then `m4r -R s B...` with the files as the first left them, and `m4r A... B...`. Each is a call of
-- `follow`, by its clause `followed`, and nothing failed in it. The first may start from a frozen file; it read
-- everything, with status 0 and no text saved. The second may freeze, as the third; none of B is standard input or s.
-- The third did not end by the limit of calls
abbrev pub ThreeLines : Type 0
ThreeLines =
    (o : Options) (prefix : Bool) (reload freeze : Option (List ℕ)) (s : List ℕ) (as' bs : List (List ℕ))
    (first second joint : Call)
    → IsFollowed first → IsFollowed second → IsFollowed joint
    → first.failure ≡ None → second.failure ≡ None → joint.failure ≡ None
    → first.request ≡ request o reload (Some s) as'
    → second.request ≡ request (record o { prefix = prefix }) (Some s) freeze bs
    → joint.request ≡ request o reload freeze (words_of as' ++ words_of bs)
    → second.files ≡ first.files_new → joint.files ≡ first.files → joint.input ≡ first.input
    → (first.ending).cause ≡ causes.Done → first.status ≡ 0 → (first.ending).wrapped ≡ false
    → All (λ name. (name ≢ codes "-") × (name ≢ s)) (words_of bs)
    → (joint.ending).cause ≢ causes.ExpansionLimit
    → CallsJoin s first second joint
