-- Naming: the builtins that define names, delete their definitions and return them.
-- Believed. Manual: "Defining a macro", "Deleting a macro", "Temporarily redefining macros",
-- "Renaming macros". Words: define, undefine, pushdef, popdef, defn.
-- own: of several names `defn` returns only the texts, and warns of each builtin among them.
use Rattle.std.specs.Prelude.{ℕ, List, [], ◌∷◌, Option, Some, None, map, flat_map, fold}
use Rattle.m4_state.specs.declared.builtin.Builtin.TheVariants.{Define, Pushdef}
use Rattle.m4_state.specs.declared.definition.Def.{Def}
use Rattle.m4_state.specs.declared.definition.Def.TheVariants as defs
use Rattle.m4_state.specs.declared.delimiters.Delimiters.{Delimiters}
use Rattle.m4_state.specs.State.{State, pushed, defined, popped, undefined, top_of}
use Rattle.m4_input.specs.declared.pushed.Pushed.{Pushed}
use Rattle.m4_input.specs.declared.pushed.Pushed.TheVariants as pushes
use Rattle.m4_builtins.specs.declared.args.Arg.{Arg}
use Rattle.m4_builtins.specs.declared.args.Arg.TheVariants as args
use Rattle.m4_builtins.specs.declared.effect.Effect.{Effect}
use Rattle.m4_builtins.specs.declared.place.Place.{Place}
use Rattle.m4_builtins.specs.Args.{text_of_arg, texts_of, quoted}
use Rattle.m4_builtins.specs.Acted.{Acted, nothing, gives, expands, only_warning, warning_first, leaves, changes}
use Rattle.m4_builtins.specs.Messages.{dropped, bad_name}

-- the second of two arguments as a definition, or the empty text if there is none
abbrev pub definition_in : List Arg → Def
definition_in [] = defs.Text []
definition_in (args.Text x ∷ rest) = defs.Text x
definition_in (args.Definition d ∷ rest) = d

-- `define`: the first argument is the name; it can't be a definition
abbrev pub define : List Arg → Place → State → Acted
define [] p s = changes s
define (args.Text x ∷ rest) p s = changes (defined s x (definition_in rest))
define (args.Definition d ∷ rest) p s = leaves s (only_warning (bad_name p Define))

-- `pushdef`: the same, pushed onto the definitions that the name has
abbrev pub pushdef : List Arg → Place → State → Acted
pushdef [] p s = changes s
pushdef (args.Text x ∷ rest) p s = changes (pushed s x (definition_in rest))
pushdef (args.Definition d ∷ rest) p s = leaves s (only_warning (bad_name p Pushdef))

-- each argument in order, as a name, changes the state
abbrev pub for_each : (State → List ℕ → State) → List Arg → State → State
for_each change list s = fold (λ t a. change t (text_of_arg a)) s list

-- `undefine`: deletes all definitions of each name
abbrev pub undefine : List Arg → State → Acted
undefine list s = changes (for_each undefined list s)

-- `popdef`: deletes the top definition of each name
abbrev pub popdef : List Arg → State → Acted
popdef list s = changes (for_each popped list s)

-- `defn` of one name: its text between quotes, or the builtin or placeholder itself
abbrev pub definition_given : Delimiters → Option Def → Pushed
definition_given q None = pushes.Text []
definition_given q (Some (defs.Text x)) = pushes.Text (quoted q x)
definition_given q (Some d) = pushes.Definition d

-- `defn` of one name of several: its text between quotes, or nothing
abbrev pub text_given : Delimiters → Option Def → List ℕ
text_given q (Some (defs.Text x)) = quoted q x
text_given q o = []

-- and the warning on a builtin or placeholder that is left out
abbrev pub left_out : Place → Option Def → List ℕ
left_out p None = []
left_out p (Some (defs.Text x)) = []
left_out p (Some d) = dropped p

-- the top definitions of names
abbrev pub tops_of : State → List Arg → List (Option Def)
tops_of s list = map (top_of s) (texts_of list)

-- `defn`
abbrev pub defn : List Arg → Place → State → Effect
defn [] p s = nothing
defn (a ∷ []) p s = gives (definition_given s.quotes (top_of s (text_of_arg a)))
defn list p s =
    warning_first (flat_map (left_out p) (tops_of s list)) (expands (flat_map (text_given s.quotes) (tops_of s list)))
