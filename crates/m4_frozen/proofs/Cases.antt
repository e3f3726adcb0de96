-- Cases: the cases of `definition_named` and a part of `canonical` as words of their own, so that a proof can name them.
use Rattle.std.specs.Prelude.{ℕ, List, map, Option, Some, None}
use Rattle.std.specs.List.{flat_map}
use Rattle.m4_state.specs.declared.builtin.Builtin.{Builtin}
use Rattle.m4_state.specs.declared.definition.Def.{Def}
use Rattle.m4_state.specs.declared.definition.Def.TheVariants as defs
use Rattle.m4_state.specs.State.{State}
use Rattle.m4_frozen.specs.Directive.{Directive}
use Rattle.m4_frozen.specs.Freeze.{definition}

-- `definition_named`, by the builtin of that name
abbrev pub builtin_or_placeholder : Option Builtin → List ℕ → Def
builtin_or_placeholder o name = elim o [ None ↦ defs.Placeholder name | Some b ↦ defs.Builtin b ]

-- the definitions in `canonical`
abbrev pub definitions : State → List Directive
definitions s = flat_map (λ e. map (definition e.0) e.1) s.table
