-- Diverting: the builtins that divert text and undivert it.
-- Believed. Manual: "Diverting output", "Undiverting output", "Diversion numbers".
-- Words: divert, undivert, brought_back, issued_by_all, divnum.
-- own: of several numbers of `undivert`, each invalid one is skipped with a warning.
use Rattle.std.specs.Prelude.{ℕ, ℤ, pos, List, [], ◌∷◌, ◌++◌, Some, None, map, fold, flat_map, filter_map}
use Rattle.std.specs.Fmt.{signed_decimal}
use Rattle.m4_state.specs.declared.builtin.Builtin.TheVariants.{Divert, Undivert}
use Rattle.m4_state.specs.State.{State, diverted, undiverted, issued_from}
use Rattle.m4_builtins.specs.declared.args.Arg.{Arg}
use Rattle.m4_builtins.specs.declared.effect.Effect.{Effect}
use Rattle.m4_builtins.specs.declared.number.Reading.{Reading}
use Rattle.m4_builtins.specs.declared.place.Place.{Place}
use Rattle.m4_builtins.specs.Args.{text_of_arg}
use Rattle.m4_builtins.specs.Acted.{Acted, nothing, expands, only_warning, leaves, changes}
use Rattle.m4_builtins.specs.Numeric.{reading_of, number_of_reading, reading_warning}

-- `divert`: the number is 0 if there is no argument; what is no number changes nothing
abbrev pub divert : List Arg → Place → State → Acted
divert [] p s = changes (diverted s (pos 0))
divert (a ∷ rest) p s =
    let r = reading_of (text_of_arg a) in
    leaves (elim (number_of_reading r) [ None ↦ s | Some n ↦ diverted s n ]) (only_warning (reading_warning p Divert r))

-- the state after diversions were undiverted, one after another
abbrev pub brought_back : List ℤ → State → State
brought_back numbers s = fold undiverted s numbers

-- the text that they add to the output
abbrev pub issued_by_all : List ℤ → State → List ℕ
issued_by_all [] s = []
issued_by_all (number ∷ numbers) s = issued_from s number ++ issued_by_all numbers (undiverted s number)

-- diversions are undiverted, with warnings
abbrev pub brings_back : List ℤ → List ℕ → State → Acted
brings_back numbers warnings s =
    leaves (brought_back numbers s) (record nothing { messages = warnings; output = issued_by_all numbers s })

-- the numbers of the diversions that contain text, in rising order; undiverting the current one changes nothing
abbrev pub held_numbers : State → List ℤ
held_numbers s = map (λ d. d.0) s.diversions

-- the arguments as numbers
abbrev pub readings_of : List Arg → List Reading
readings_of list = map (λ a. reading_of (text_of_arg a)) list

-- `undivert`: all diversions if there is no argument
abbrev pub undivert : List Arg → Place → State → Acted
undivert [] p s = brings_back (held_numbers s) [] s
undivert list p s =
    let r = readings_of list in brings_back (filter_map number_of_reading r) (flat_map (reading_warning p Undivert) r) s

-- `divnum`
abbrev pub divnum : State → Effect
divnum s = expands (signed_decimal s.current)
