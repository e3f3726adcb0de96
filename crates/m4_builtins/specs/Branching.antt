-- Branching: the builtins that choose among their arguments.
-- Believed. Manual: "Testing if a macro is defined", "If-else construct, or multibranch", "Recursion
-- in m4". Words: ifdef, chosen_text, ifelse, shift.
-- own: `ifelse` warns of one argument too many if two texts with no result would be left.
use Rattle.std.specs.Prelude.{ℕ, ◌%◌, ◌==◌, ◌&&◌, nat_le, Bool, List, [], ◌∷◌, Some, None, length}
use Rattle.std.specs.Prelude.{if◌then◌else◌, drop}
use Rattle.std.specs.Str.{bytes_eq}
use Rattle.m4_state.specs.declared.builtin.Builtin.TheVariants.{Ifelse}
use Rattle.m4_state.specs.State.{State, top_of}
use Rattle.m4_builtins.specs.declared.args.Arg.{Arg}
use Rattle.m4_builtins.specs.declared.effect.Effect.{Effect}
use Rattle.m4_builtins.specs.declared.place.Place.{Place}
use Rattle.m4_builtins.specs.Args.{texts_of, text_at}
use Rattle.m4_builtins.specs.Acted.{nothing, only_warning, expands, warning_first}
use Rattle.m4_builtins.specs.Messages.{too_few, excess}
use Rattle.m4_builtins.specs.Subst.{all_quoted}

-- `ifdef`: the second argument if the name has a definition, otherwise the third
abbrev pub ifdef : List Arg → State → Effect
ifdef list s = expands (elim (top_of s (text_at list 0)) [ None ↦ text_at list 2 | Some d ↦ text_at list 1 ])

-- the text that `ifelse` chooses: the third if the first two are equal; otherwise the fourth if at most
-- one more follows it, or else the choice among those after the first three
abbrev pub chosen_text : List (List ℕ) → List ℕ
chosen_text (x ∷ y ∷ same ∷ u ∷ v ∷ next ∷ rest) = if bytes_eq x y then same else chosen_text (u ∷ v ∷ next ∷ rest)
chosen_text (x ∷ y ∷ same ∷ other ∷ rest) = if bytes_eq x y then same else other
chosen_text (x ∷ y ∷ same ∷ []) = if bytes_eq x y then same else []
chosen_text few = []

-- whether an argument is left over after the last two texts and their results: at 5, 8, 11 and so on
abbrev pub has_extra : ℕ → Bool
has_extra n = nat_le 5 n && (n % 3 == 2)

-- `ifelse`
abbrev pub ifelse : List Arg → Place → Effect
ifelse [] p = nothing
ifelse (a ∷ []) p = nothing
ifelse (a ∷ b ∷ []) p = only_warning (too_few p Ifelse)
ifelse list p =
    warning_first (if has_extra (length list) then excess p Ifelse else []) (expands (chosen_text (texts_of list)))

-- `shift`: all arguments but the first, each between quotes
abbrev pub shift : List Arg → State → Effect
shift list s = expands (all_quoted s.quotes (texts_of (drop 1 list)))
