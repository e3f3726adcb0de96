-- Unfinished: a file that was made, and not written to its end.
-- Believed. Manual: "Frozen file format", "Fast loading of frozen state". Words: HasMarked, LeavesMarked.
use Rattle.std.specs.Prelude.{◌≡◌, ◌⊎◌, ℕ, true, List, Option, option_map}
use Rattle.m4_frozen.specs.Unfinished.{is_marked}
use Rattle.m4_tool.specs.World.{Files, with_file}

-- the named file has such bytes, and all others are as they were
pub record HasMarked (name : List ℕ) (old new : Option Files) : Type 0 where
  pub bytes : List ℕ
  pub marked : is_marked bytes ≡ true
  pub files : new ≡ option_map (with_file name bytes) old

-- all files are as they were, or the named one begins with the mark
abbrev pub LeavesMarked : List ℕ → Option Files → Option Files → Type 0
LeavesMarked name old new = (new ≡ old) ⊎ HasMarked name old new
