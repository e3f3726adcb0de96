-- Args: the texts and definitions of a call's arguments, by their numbers.
-- Believed. Manual: "Macro arguments". Words: IsArg, text_of_arg, text_at,
-- texts_of, joined, with_spaces, quoted.
use Rattle.std.specs.Prelude.{ℕ, List, [], ◌∷◌, ◌++◌, slice_get, map, unwrap_or}
use Rattle.m4_state.specs.Definition.{IsDefinition}
use Rattle.m4_state.specs.declared.delimiters.Delimiters.{Delimiters}
use Rattle.m4_input.specs.Ascii.{space}
use Rattle.m4_builtins.specs.declared.args.Arg.{Arg}
use Rattle.m4_builtins.specs.declared.args.Arg.TheVariants as args

-- a definition that is an argument is valid
abbrev pub IsArg : Arg → Type 0
IsArg (args.Text x) = Unit {0}
IsArg (args.Definition d) = IsDefinition d

-- an argument as text: a definition counts as empty
abbrev pub text_of_arg : Arg → List ℕ
text_of_arg (args.Text x) = x
text_of_arg (args.Definition d) = []

-- arguments as texts
abbrev pub texts_of : List Arg → List (List ℕ)
texts_of list = map text_of_arg list

-- the text of the argument at index n, from 0; empty if it is missing
abbrev pub text_at : List Arg → ℕ → List ℕ
text_at list n = unwrap_or (slice_get (texts_of list) n) []

-- texts with a separator between any two of them
abbrev pub joined_by : List ℕ → List (List ℕ) → List ℕ
joined_by separator [] = []
joined_by separator (x ∷ []) = x
joined_by separator (x ∷ y ∷ ys) = x ++ separator ++ joined_by separator (y ∷ ys)

-- texts joined by spaces
abbrev pub with_spaces : List (List ℕ) → List ℕ
with_spaces texts = joined_by (space ∷ []) texts

-- a text between quotes
abbrev pub quoted : Delimiters → List ℕ → List ℕ
quoted q x = q.begin ++ x ++ q.end
