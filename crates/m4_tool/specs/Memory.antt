-- Memory: the files of a world in memory.
-- Believed. Words: given_files, memory_files, unmarked.
use Rattle.std.specs.Prelude.{List, [], ◌∷◌, ℕ, Option, Some, None, if◌then◌else◌}
use Rattle.std.specs.Str.{bytes_eq}
use Rattle.m4_tool.specs.declared.given.Given.{Given}
use Rattle.m4_tool.specs.World.{Files, with_file}

-- the first of the given files that has the name
abbrev pub given_files : List Given → Files
given_files [] = λ n. None
given_files (g ∷ gs) =
    λ n. if bytes_eq n g.name.now then Some (record { bytes = g.bytes.now; fails = g.fails }) else given_files gs n

-- the given files, and the one that was made
abbrev pub memory_files : List ℕ → Option (List ℕ) → List Given → Files
memory_files name None gs = given_files gs
memory_files name (Some bytes) gs = with_file name bytes (given_files gs)

-- the bytes with their true first byte
abbrev pub unmarked : ℕ → List ℕ → List ℕ
unmarked first [] = []
unmarked first (b ∷ bs) = first ∷ bs
