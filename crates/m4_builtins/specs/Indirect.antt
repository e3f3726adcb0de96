-- Indirect: the builtins that call by a name given as an argument.
-- Believed. Manual: "Indirect call of macros", "Indirect call of builtins". Words: Inner, indir,
-- builtin. Each makes its call with the arguments after the first.
use Rattle.std.specs.Prelude.{ℕ, List, [], ◌∷◌, Some, None}
use Rattle.m4_state.specs.declared.builtin.Builtin.TheVariants.{Indir, IndirBuiltin}
use Rattle.m4_state.specs.declared.definition.Def.{Def}
use Rattle.m4_state.specs.declared.definition.Def.TheVariants as defs
use Rattle.m4_state.specs.Builtin.{builtin_named}
use Rattle.m4_state.specs.State.{State, top_of}
use Rattle.m4_builtins.specs.declared.args.Arg.{Arg}
use Rattle.m4_builtins.specs.declared.args.Arg.TheVariants as args
use Rattle.m4_builtins.specs.declared.place.Place.{Place}
use Rattle.m4_builtins.specs.Acted.{Acted, only_warning, leaves, changes}
use Rattle.m4_builtins.specs.Messages.{unknown_macro, unknown_builtin, bad_name}

-- how an indirect call continues: as the call of another definition, under its name
abbrev pub Inner : Type 0
Inner = Def → List ℕ → Acted

-- `indir`: the macro of that name, by its top definition
abbrev pub indir : Inner → List Arg → Place → State → Acted
indir inner [] p s = changes s
indir inner (args.Text x ∷ rest) p s =
    elim (top_of s x) [ None ↦ leaves s (only_warning (unknown_macro p x)) | Some d ↦ inner d x ]
indir inner (args.Definition d ∷ rest) p s = leaves s (only_warning (bad_name p Indir))

-- `builtin`: the builtin of that name, whatever definitions the name has
abbrev pub builtin : Inner → List Arg → Place → State → Acted
builtin inner [] p s = changes s
builtin inner (args.Text x ∷ rest) p s =
    elim (builtin_named x) [ None ↦ leaves s (only_warning (unknown_builtin p x)) | Some b ↦ inner (defs.Builtin b) x ]
builtin inner (args.Definition d ∷ rest) p s = leaves s (only_warning (bad_name p IndirBuiltin))
