-- The texts that the parts of the inspector write, in the order of the code.
-- Not believed: `listing` is these texts joined (proofs/ListingParts.antt).
use Rattle.std.specs.Prelude.{ℕ, ℤ, List, [], ◌∷◌, ◌++◌, codes, decimal, length}
use Rattle.std.specs.Fmt.{signed_decimal}
use Rattle.std.specs.List.{flat_map}
use Rattle.m4_state.specs.declared.definition.Def.{Def}
use Rattle.m4_state.specs.State.{State, NumberedText}
use Rattle.m4_state.specs.Table.{Pairs}
use Rattle.m4_frozen.specs.declared.loading.Loaded.{Loaded}
use Rattle.m4_frozen.specs.Listing.{show, definition_line, diversion_line, issued_line}

-- a word and a string
abbrev pub word_line : List ℕ → List ℕ → List ℕ
word_line word bytes = word ++ show bytes

-- a word and two strings
abbrev pub two_words_line : List ℕ → List ℕ → List ℕ → List ℕ
two_words_line word first second =
    word_line word first ++ (word_line (codes " ") second ++ codes "\n")

-- the definitions of one name
abbrev pub stack_lines : List ℕ → List Def → List ℕ
stack_lines name stack = flat_map (definition_line name) stack

-- the definitions of the names
abbrev pub names_lines : Pairs → List ℕ
names_lines pairs = flat_map (λ p. stack_lines p.0 p.1) pairs

-- the diversions
abbrev pub texts_lines : List NumberedText → List ℕ
texts_lines diversions = flat_map diversion_line diversions

-- the current number
abbrev pub current_line : ℤ → List ℕ
current_line current = codes "current " ++ signed_decimal current ++ codes "\n"

-- a word with a blank, then the begin and the end, or that they are disabled
abbrev pub begin_end_line : List ℕ → List ℕ → List ℕ → List ℕ
begin_end_line word [] end = word ++ codes "none\n"
begin_end_line word (b ∷ begin) end = two_words_line word (b ∷ begin) end

-- the delimiters
abbrev pub settings_lines : State → List ℕ
settings_lines s =
    begin_end_line (codes "quotes ") s.quotes.begin s.quotes.end
    ++ begin_end_line (codes "comments ") s.comments.begin s.comments.end

-- the length of a text, and the end of the line
abbrev pub length_end : List ℕ → List ℕ
length_end text = codes " " ++ (decimal (length text) ++ codes "\n")

-- a name, then the length of its text
abbrev pub counted_line : List ℕ → List ℕ → List ℕ
counted_line name text = word_line (codes "text ") name ++ length_end text

-- the diversions, the current number, the issued text
abbrev pub diverted_lines : Loaded → List ℕ
diverted_lines l =
    texts_lines l.state.diversions ++ (current_line l.state.current ++ issued_line l.issued)

-- all of it, if the names of the state have these definitions
abbrev pub listing_text : Loaded → Pairs → List ℕ
listing_text l pairs = settings_lines l.state ++ (names_lines pairs ++ diverted_lines l)
