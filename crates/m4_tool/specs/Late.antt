-- Late: the files while one of them is made at its first byte.
-- Not believed: `LateFile` is stated with these words, and `follow` without them.
-- Words: written, after_writing, is_tried, begun_in, text_of.
use Rattle.std.specs.Prelude.{ℕ, zero, suc, Bool, true, false, List, [], ◌∷◌, Option, Some, None, option_map, unwrap_or}
use Rattle.m4_state.specs.Device.{Script}
use Rattle.m4_tool.specs.World.{Files, with_file}

-- the bytes of a file; none if it can't be opened
abbrev pub bytes_of : Option Script → List ℕ
bytes_of None = []
bytes_of (Some script) = script.bytes

-- the bytes that were written to a name, by whether its file was created; unknown if the files are
abbrev pub written : Bool → List ℕ → Option Files → Option (List ℕ)
written created name None = None
written false name (Some files) = Some []
written true name (Some files) = Some (bytes_of (files name))

-- the files after these bytes were written to a name, by the files before
abbrev pub after_writing : Bool → List ℕ → Option (List ℕ) → Option Files → Option Files
after_writing false name text before = before
after_writing true name text before = option_map (with_file name (unwrap_or text [])) before

-- a file is created only if a byte was written, or a write failed
abbrev pub is_tried : Bool → ℕ → Option (List ℕ) → Bool
is_tried false failures text = true
is_tried true failures None = true
is_tried true failures (Some (b ∷ bs)) = true
is_tried true zero (Some []) = false
is_tried true (suc n) (Some []) = true

-- the files when a write begins: the file is created, unless it was before
abbrev pub begun_in : Bool → List ℕ → Option Files → Option Files
begun_in false name files = option_map (with_file name []) files
begun_in true name files = files

-- the bytes that were written; none if they are not known
abbrev pub text_of : Option (List ℕ) → List ℕ
text_of text = unwrap_or text []
