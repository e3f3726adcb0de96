-- The texts that the parts of the writer write, in the order of the code.
-- Not believed: `freeze` is these texts joined (proofs/FreezeParts.antt).
use Rattle.std.specs.Prelude.{ℕ, ℤ, pos, Bool, ◌&&◌, List, [], ◌∷◌, ◌++◌, codes, decimal, length}
use Rattle.std.specs.List.{flat_map}
use Rattle.std.specs.Prelude.{if◌then◌else◌}
use Rattle.std.specs.Ordering.{int_eq}
use Rattle.std.specs.Str.{bytes_eq}
use Rattle.m4_state.specs.declared.definition.Def.{Def}
use Rattle.m4_state.specs.declared.delimiters.Delimiters.{Delimiters}
use Rattle.m4_state.specs.State.{State, NumberedText}
use Rattle.m4_state.specs.Table.{Pairs}
use Rattle.m4_frozen.specs.Directive.{Directive, Diversion}
use Rattle.m4_frozen.specs.Freeze.{definition, spelling, two_strings, last_number}
use Rattle.m4_state.specs.Delimiters.{default_quotes, default_comments}
use Rattle.m4_frozen.specs.Ascii.{newline, comma, letter_C, letter_Q}

-- whether two pairs of delimiters are the same
abbrev pub same_delimiters : Delimiters → Delimiters → Bool
same_delimiters d e = bytes_eq d.begin e.begin && bytes_eq d.end e.end

-- the directive that sets the text of a diversion
abbrev pub diversion : NumberedText → Directive
diversion d = Diversion d.0 d.1

-- the first two lines
abbrev pub header : List ℕ
header = codes "# m4 frozen state\nV1\n"

-- the last line
abbrev pub end_line : List ℕ
end_line = codes "# End of frozen state file\n"

-- the directive of a pair of delimiters, or nothing if it is the default
abbrev pub delimiters_text : ℕ → Delimiters → Delimiters → List ℕ
delimiters_text letter default d =
    if same_delimiters d default then [] else two_strings letter d.begin d.end

-- the definitions of one name
abbrev pub stack_text : List ℕ → List Def → List ℕ
stack_text name stack = flat_map (λ d. spelling (definition name d)) stack

-- the definitions of the names
abbrev pub names_text : Pairs → List ℕ
names_text pairs = flat_map (λ p. stack_text p.0 p.1) pairs

-- their directives
abbrev pub texts_text : List NumberedText → List ℕ
texts_text diversions = flat_map (λ d. spelling (diversion d)) diversions

-- the directive of the current number after those of the texts, the last of which set this number
abbrev pub current_text : ℤ → ℤ → List ℕ
current_text current last =
    if int_eq current last then [] else spelling (Diversion current [])

-- the directives of both pairs of delimiters
abbrev pub settings_text : State → List ℕ
settings_text s =
    delimiters_text letter_Q default_quotes s.quotes
    ++ delimiters_text letter_C default_comments s.comments

-- the directives of the diversions and of the current number
abbrev pub diverted_text : State → List ℕ
diverted_text s =
    texts_text s.diversions ++ current_text s.current (last_number (pos 0) s.diversions)

-- all directives, if the names of the state have these definitions
unfoldable pub directives_text : State → Pairs → List ℕ
directives_text s pairs = settings_text s ++ (names_text pairs ++ diverted_text s)

-- all of it
abbrev pub frozen_text : State → Pairs → List ℕ
frozen_text s pairs = header ++ (directives_text s pairs ++ end_line)

-- a letter, two lengths and the first string
abbrev pub head_text : ℕ → List ℕ → List ℕ → List ℕ
head_text letter first second =
    letter ∷ decimal (length first) ++ comma ∷ decimal (length second) ++ newline ∷ [] ++ first

-- a text, then the second string and a newline
abbrev pub with_second : List ℕ → List ℕ → List ℕ
with_second text second = text ++ (second ++ newline ∷ [])
