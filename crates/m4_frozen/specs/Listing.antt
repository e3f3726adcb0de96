-- Listing: the inspector's lines, which list the contents of a frozen file.
-- Believed. Words: show, listing.
-- own: all of it; the manual has no inspector.
use Rattle.std.specs.Prelude.{ℕ, ◌+◌, ◌/◌, ◌%◌, Bool, ◌&&◌, not, nat_le, nat_lt, ◌==◌, List, [], ◌∷◌, ◌++◌, length}
use Rattle.std.specs.Prelude.{codes, decimal, if◌then◌else◌}
use Rattle.std.specs.Fmt.{signed_decimal}
use Rattle.std.specs.List.{flat_map}
use Rattle.m4_state.specs.declared.definition.Def.{Def}
use Rattle.m4_state.specs.declared.definition.Def.TheVariants as defs
use Rattle.m4_state.specs.declared.delimiters.Delimiters.{Delimiters}
use Rattle.m4_state.specs.Builtin.{name_of}
use Rattle.m4_state.specs.State.{NumberedText}
use Rattle.m4_frozen.specs.declared.loading.Loaded.{Loaded}

-- b'\\'
abbrev pub backslash : ℕ
backslash = 92

-- whether a byte is shown as it is: it is printable, and neither a space nor the backslash
abbrev pub is_plain : ℕ → Bool
is_plain b = nat_le 33 b && (nat_le b 126 && not (b == backslash))

-- a digit below 16, in lower case
abbrev pub hex_digit : ℕ → ℕ
hex_digit n = if nat_lt n 10 then 48 + n else 87 + n

-- a byte as it is, or a backslash and two hexadecimal digits
abbrev pub show_byte : ℕ → List ℕ
show_byte b =
    if is_plain b then b ∷ [] else backslash ∷ hex_digit (b / 16) ∷ hex_digit (b % 16) ∷ []

-- a string, byte by byte; the empty string is shown as `\.`
abbrev pub show : List ℕ → List ℕ
show [] = codes "\\."
show (b ∷ bytes) = flat_map show_byte (b ∷ bytes)

-- the word, then the begin and the end; `none` if the pair is disabled
abbrev pub pair_line : List ℕ → List ℕ → List ℕ → List ℕ
pair_line word [] end = word ++ codes " none\n"
pair_line word (b ∷ begin) end =
    word ++ codes " " ++ show (b ∷ begin) ++ codes " " ++ show end ++ codes "\n"

-- the word for a pair of delimiters, then the pair
abbrev pub delimiters_line : List ℕ → Delimiters → List ℕ
delimiters_line word d = pair_line word d.begin d.end

-- a definition of a name
abbrev pub definition_line : List ℕ → Def → List ℕ
definition_line name (defs.Text text) =
    codes "text " ++ show name ++ codes " " ++ decimal (length text) ++ codes "\n"
definition_line name (defs.Builtin builtin) =
    codes "builtin " ++ show name ++ codes " " ++ show (name_of builtin) ++ codes "\n"
definition_line name (defs.Placeholder builtin) =
    codes "placeholder " ++ show name ++ codes " " ++ show builtin ++ codes "\n"

-- a diversion's number and the length of its text
abbrev pub diversion_line : NumberedText → List ℕ
diversion_line d =
    codes "diversion " ++ signed_decimal d.0 ++ codes " " ++ decimal (length d.1) ++ codes "\n"

-- the length of the text that loading issues, or nothing if it issues none
abbrev pub issued_line : List ℕ → List ℕ
issued_line [] = []
issued_line (b ∷ issued) = codes "issued " ++ decimal (length (b ∷ issued)) ++ codes "\n"

-- the quotes, the comments, the definitions, the diversions, the current number, the issued text
abbrev pub listing : Loaded → List ℕ
listing l =
    delimiters_line (codes "quotes") l.state.quotes
    ++ delimiters_line (codes "comments") l.state.comments
    ++ flat_map (λ e. flat_map (definition_line e.0) e.1) l.state.table
    ++ flat_map diversion_line l.state.diversions
    ++ codes "current " ++ signed_decimal l.state.current ++ codes "\n"
    ++ issued_line l.issued
