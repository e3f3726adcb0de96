-- FileView: the meaning of a file's fields.
-- Not believed: it only connects the code with specs/Text.antt. Words: split_at, left_in, file_view, IsFile.
use Rattle.std.specs.Prelude.{◌≤◌, ℕ, List, length, take, drop}
use Rattle.m4_input.specs.declared.file.File.TheInside.{Inside}
use Rattle.m4_input.specs.Text.{HeldText}

-- bytes of which the first k were pushed
abbrev pub split_at : ℕ → List ℕ → ℕ → HeldText
split_at k bytes newlines = record {
  pushed = take k bytes;
  unread = drop k bytes;
  newlines = newlines;
}

-- the bytes that are left
abbrev pub left_in : Inside → List ℕ
left_in f = drop f.at f.bytes.items

abbrev pub file_view : Inside → HeldText
file_view f = split_at f.pushed (left_in f) f.newlines

abbrev pub IsFile : Inside → Type 0
IsFile f = (f.at ≤ length f.bytes.items) × (f.pushed ≤ length (left_in f))
