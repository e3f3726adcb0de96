-- NameRead: the name that a builtin reads from its first argument.
-- Not believed: it only connects the code of `define`, `pushdef`, `indir` and `builtin` with their definitions.
-- Words: ReadsName.
use Rattle.std.specs.Prelude.{◌≡◌, ℕ, List, [], ◌∷◌, Option, Some, None}
use Rattle.m4_state.specs.declared.builtin.Builtin.{Builtin}
use Rattle.m4_builtins.specs.declared.args.Arg.{Arg}
use Rattle.m4_builtins.specs.declared.args.Arg.TheVariants as args
use Rattle.m4_builtins.specs.declared.effect.Effect.{Effect}
use Rattle.m4_builtins.specs.declared.place.Place.{Place}
use Rattle.m4_builtins.specs.Acted.{nothing, only_warning}
use Rattle.m4_builtins.specs.Messages.{bad_name}

-- the first argument is a name, and others are after it; or it is none, and the call ends with this effect
abbrev pub ReadsName : List Arg → Place → Builtin → Option (List ℕ × List Arg) → Effect → Type 0
ReadsName list p b (Some read) e = (list ≡ args.Text read.0 ∷ read.1) × (e ≡ nothing)
ReadsName [] p b None e = e ≡ nothing
ReadsName (args.Text x ∷ rest) p b None e = ⊥
ReadsName (args.Definition d ∷ rest) p b None e = e ≡ only_warning (bad_name p b)
