-- Printing: the builtins that write messages, and those that expand to the place of a call.
-- Believed. Manual: "Displaying macro definitions", "Printing error messages", "Printing current
-- location". Words: in_byte_order, dumpdef, errprint, file, line.
-- own: a text is shown between the current quotes, also if no quotes are needed.
use Rattle.std.specs.Prelude.{ℕ, ◌==◌, List, [], ◌∷◌, ◌++◌, Option, Some, None, flat_map, codes, if◌then◌else◌}
use Rattle.std.specs.Fmt.{decimal}
use Rattle.std.specs.Ordering.{is_lt}
use Rattle.m4_state.specs.declared.definition.Def.{Def}
use Rattle.m4_state.specs.declared.definition.Def.TheVariants as defs
use Rattle.m4_state.specs.declared.delimiters.Delimiters.{Delimiters}
use Rattle.m4_state.specs.Builtin.{name_of}
use Rattle.m4_state.specs.Table.{byte_order}
use Rattle.m4_state.specs.State.{State, top_of, names_of}
use Rattle.m4_builtins.specs.declared.args.Arg.{Arg}
use Rattle.m4_builtins.specs.declared.effect.Effect.{Effect}
use Rattle.m4_builtins.specs.declared.place.Place.{Place}
use Rattle.m4_builtins.specs.Args.{texts_of, with_spaces, quoted}
use Rattle.m4_builtins.specs.Acted.{only_warning, expands}
use Rattle.m4_builtins.specs.Messages.{unknown_macro}

-- a builtin's name as it is shown
abbrev pub bracketed : List ℕ → List ℕ
bracketed name = codes "<" ++ name ++ codes ">"

-- a definition as it is shown
abbrev pub shown : Delimiters → Def → List ℕ
shown q (defs.Text x) = quoted q x
shown q (defs.Builtin b) = bracketed (name_of b)
shown q (defs.Placeholder x) = bracketed x

-- the line of a name
abbrev pub line_shown : Delimiters → List ℕ → Option Def → List ℕ
line_shown q name o = elim o [ None ↦ [] | Some d ↦ name ++ codes ":\t" ++ shown q d ++ codes "\n" ]

-- the warning on a name without a definition
abbrev pub unknown_if : Place → List ℕ → Option Def → List ℕ
unknown_if p name o = elim o [ None ↦ unknown_macro p name | Some d ↦ [] ]

-- a name inserted into names in byte order, before those that aren't below it
abbrev pub placed : List ℕ → List (List ℕ) → List (List ℕ)
placed name [] = name ∷ []
placed name (other ∷ names) = if is_lt (byte_order other name) then other ∷ placed name names else name ∷ other ∷ names

-- names in byte order; duplicates stay
abbrev pub in_byte_order : List (List ℕ) → List (List ℕ)
in_byte_order [] = []
in_byte_order (name ∷ names) = placed name (in_byte_order names)

-- the names that `dumpdef` shows: all of them if it has no arguments
abbrev pub names_shown : List Arg → State → List (List ℕ)
names_shown [] s = names_of s
names_shown list s = texts_of list

-- the warnings on names, in the given order
abbrev pub warnings_on : List (List ℕ) → Place → State → List ℕ
warnings_on names p s = flat_map (λ name. unknown_if p name (top_of s name)) names

-- the lines of names
abbrev pub lines_of : List (List ℕ) → State → List ℕ
lines_of names s = flat_map (λ name. line_shown s.quotes name (top_of s name)) names

-- `dumpdef`: the warnings in the given order of names, then the lines in byte order
abbrev pub dumpdef : List Arg → Place → State → Effect
dumpdef list p s =
    let names = names_shown list s in only_warning (warnings_on names p s ++ lines_of (in_byte_order names) s)

-- `errprint`: the arguments joined by spaces; no newline is added
abbrev pub errprint : List Arg → Effect
errprint list = only_warning (with_spaces (texts_of list))

-- `__file__`: between quotes; empty in wrapped text, whose line is 0
abbrev pub file : Place → State → Effect
file p s = expands (quoted s.quotes (if p.line == 0 then [] else p.file))

-- `__line__`: 0 in wrapped text
abbrev pub line : Place → Effect
line p = expands (decimal p.line)
