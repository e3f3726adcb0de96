-- TextView: the meaning of a text's fields.
-- Not believed: it only views the code's storage as one list. Words: view_of, IsCounted, IsHeld.
use Rattle.std.specs.Prelude.{◌≡◌, ◌≤◌, ◌^◌, [], ◌++◌, length}
use Rattle.m4_input.specs.declared.text.Text.TheInside.{Inside}
use Rattle.m4_input.specs.Text.{HeldText, with_text, joined}

-- the fields: the segment that is read first, those below it, and the file with the texts that were put before its
-- bytes
abbrev pub view_of : Inside → HeldText
view_of t = with_text (t.top ++ joined t.below.items) t.file

-- the segments below are counted, and not so long that all of the text could be longer than a number of 64 bits
abbrev pub IsCounted : Inside → Type 0
IsCounted t = (t.held ≡ length (joined t.below.items)) × (t.held ≤ 2 ^ 62)

-- and if the first one is read to its end, there is none below
abbrev pub IsHeld : Inside → Type 0
IsHeld t = IsCounted t × (t.top ≡ [] → t.below.items ≡ [])
