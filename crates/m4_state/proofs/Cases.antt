-- Cases: the cases of `without_top` as a word of their own, so that a proof can go by them.
use Rattle.std.specs.Prelude.{ℕ, List, [], ◌∷◌}
use Rattle.std.specs.FinMap.{put}
use Rattle.m4_state.specs.declared.definition.Def.{Def}
use Rattle.m4_state.specs.Table.{Pairs, byte_order, without}

-- `without_top`, by the definitions that are left
abbrev pub with_stack : Pairs → List ℕ → List Def → Pairs
with_stack table name stack = elim stack [ [] ↦ without table name | d ∷ ds ↦ put byte_order name (d ∷ ds) table ]
