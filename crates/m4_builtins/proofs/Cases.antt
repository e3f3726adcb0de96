-- Cases: parts of the builtins' definitions by their cases, which the definitions have in place.
use Rattle.std.specs.Prelude.{ℕ, ℤ, pos, negsuc, Bool, List, [], ◌++◌, Option, Some, None, length, map, codes}
use Rattle.std.specs.Prelude.{◌-◌, ◌^◌, if◌then◌else◌, unwrap_or}
use Rattle.std.specs.Fmt.{decimal}
use Rattle.m4_state.specs.declared.builtin.Builtin.{Builtin}
use Rattle.m4_state.specs.declared.builtin.Builtin.TheVariants.{Ifelse}
use Rattle.m4_state.specs.declared.definition.Def.{Def}
use Rattle.m4_state.specs.declared.definition.Def.TheVariants as defs
use Rattle.m4_state.specs.Builtin.{row_of}
use Rattle.m4_state.specs.State.{State, diverted}
use Rattle.m4_builtins.specs.declared.args.Arg.{Arg}
use Rattle.m4_builtins.specs.declared.args.Arg.TheVariants as args
use Rattle.m4_builtins.specs.declared.effect.Effect.{Effect}
use Rattle.m4_builtins.specs.declared.place.Place.{Place}
use Rattle.m4_builtins.specs.Args.{text_of_arg, text_at}
use Rattle.m4_builtins.specs.Acted.{Acted, nothing, only_warning, warning_first, leaves}
use Rattle.m4_builtins.specs.Act.{row, is_above, given_though_few}
use Rattle.m4_builtins.specs.Indirect.{Inner}
use Rattle.m4_builtins.specs.Messages.{too_few, excess, out_of_range, unknown_macro, unknown_builtin}
use Rattle.m4_builtins.specs.Printing.{warnings_on, lines_of, in_byte_order}

-- a text, or an empty one if there is none
abbrev pub or_empty : Option (List ℕ) → List ℕ
or_empty o = unwrap_or o []

-- a call with a message before its others
abbrev pub warned : List ℕ → Acted → Acted
warned x r = leaves r.state (warning_first x r.effect)

-- the warning on arguments above the maximum; they are ignored
abbrev pub excess_if : Bool → Place → Builtin → List ℕ
excess_if above p b = if above then excess p b else []

-- an argument of a builtin that accepts no definitions
abbrev pub only_text : Arg → Arg
only_text a = args.Text (text_of_arg a)

-- the arguments as the builtin accepts them: definitions as such, or as empty texts
abbrev pub taken : Bool → List Arg → List Arg
taken accepts list = if accepts then list else map only_text list

-- a builtin's row; `few` says that arguments are missing
abbrev pub act_unless : Inner → Bool → Builtin → List Arg → Place → State → Acted
act_unless inner few b list p s =
    if few then leaves s (record nothing { push = given_though_few b list; messages = too_few p b })
    else warned (excess_if (is_above (row_of b).most (length list)) p b)
    (row inner b (taken (row_of b).takes_tokens list) p s)

-- the argument that `ifdef` chooses, by the definition of the name
abbrev pub ifdef_by : Option Def → List Arg → List ℕ
ifdef_by o list = elim o [ None ↦ text_at list 2 | Some d ↦ text_at list 1 ]

-- the warning of `ifelse` on an argument that is left over
abbrev pub extra_warning : Place → Bool → List ℕ
extra_warning p extra = if extra then excess p Ifelse else []

-- a call of the definition of a name, if there is one
abbrev pub called_by_name : Inner → Option Def → List ℕ → Place → State → Acted
called_by_name inner o name p s =
    elim o [ None ↦ leaves s (only_warning (unknown_macro p name)) | Some d ↦ inner d name ]

-- a call of a builtin by its own name, if there is one
abbrev pub done_by_name : Inner → Option Builtin → List ℕ → Place → State → Acted
done_by_name inner o name p s =
    elim o [ None ↦ leaves s (only_warning (unknown_builtin p name)) | Some b ↦ inner (defs.Builtin b) name ]

-- with another current diversion, if there is a number
abbrev pub diverted_if : State → Option ℤ → State
diverted_if s o = elim o [ None ↦ s | Some n ↦ diverted s n ]

-- continues with a radix, if the number is one
abbrev pub if_radix : Place → (ℕ → Effect) → Option ℕ → Effect
if_radix p does o = elim o [ None ↦ only_warning (out_of_range p) | Some radix ↦ does radix ]

-- continues with a width of 0 or more; a negative one is out of range
abbrev pub if_width : Place → (ℕ → Effect) → ℤ → Effect
if_width p does z = elim z [ pos n ↦ does n | negsuc n ↦ only_warning (out_of_range p) ]

-- the greatest number of 32 bits after a sign
abbrev pub greatest : Bool → ℕ
greatest negative = if negative then 2 ^ 31 else 2 ^ 31 - 1

-- a place, or -1 if there is none
abbrev pub place_shown : Option ℕ → List ℕ
place_shown o = elim o [ None ↦ codes "-1" | Some n ↦ decimal n ]

-- what `dumpdef` writes of these names
abbrev pub dumped : List (List ℕ) → Place → State → List ℕ
dumped names p s = warnings_on names p s ++ lines_of (in_byte_order names) s
