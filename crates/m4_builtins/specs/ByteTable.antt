-- ByteTable: a table with the replacement of each byte, or none if it is deleted.
-- Not believed: it only connects the table of the code with specs/Translit.antt. Words: Replaces.
use Rattle.std.specs.Prelude.{◌≡◌, ℕ, ◌==◌, ◌<◌, List, [], ◌∷◌, Option, Some, None, get_or}
use Rattle.std.specs.Prelude.{position, slice_get, option_to_list}

-- a byte whose first place among the replaced ones is n: the byte at that place, or nothing; one not among them stays
abbrev pub replaced : Option ℕ → List ℕ → ℕ → List ℕ
replaced o to b = elim o [ None ↦ b ∷ [] | Some n ↦ option_to_list (slice_get to n) ]

-- the table replaces the bytes of one text by those of another, each by the byte at its first place
abbrev pub Replaces : List (Option ℕ) → List ℕ → List ℕ → Type 0
Replaces table from to =
    (b : ℕ) → b < 256
    → option_to_list (get_or table b None) ≡ replaced (position (λ c. c == b) from) to b
