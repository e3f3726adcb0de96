-- World: the files that a line meets, and how calls change them.
-- Believed. Words: Files, whole_file, with_file, with_more, made_file.
-- own: a file is known by its name alone: two names of one file are two files.
use Rattle.std.specs.Prelude.{ℕ, false, List, [], ◌∷◌, ◌++◌, Option, Some, None, if◌then◌else◌}
use Rattle.std.specs.Str.{bytes_eq}
use Rattle.m4_state.specs.Device.{Script}

-- the bytes of a file by its name, and whether a failure follows them; none if it can't be opened
abbrev pub Files : Type 0
Files = List ℕ → Option Script

-- a file that is read to its end
abbrev pub whole_file : List ℕ → Option Script
whole_file bytes = Some (record { bytes = bytes; fails = false })

-- the same files, except that the one of this name has these bytes
abbrev pub with_file : List ℕ → List ℕ → Files → Files
with_file name bytes files = λ n. if bytes_eq n name then whole_file bytes else files n

-- a file with more bytes at its end
abbrev pub longer : List ℕ → Option Script → Option Script
longer more None = None
longer more (Some script) = Some (record { bytes = script.bytes ++ more; fails = script.fails })

-- the same files, with more bytes at the end of the one of this name
abbrev pub with_more : List ℕ → List ℕ → Files → Files
with_more name more files = λ n. if bytes_eq n name then longer more (files n) else files n

-- the files after a text was written to a name; an empty text makes no file
abbrev pub made_file : List ℕ → List ℕ → Files → Files
made_file name [] files = files
made_file name (b ∷ bs) files = with_file name (b ∷ bs) files
