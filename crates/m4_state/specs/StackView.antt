-- The definitions of a stack, wherever they are.
-- Not believed: it only views the code's storage as one list.
use Rattle.std.specs.Prelude.{List, [], ◌∷◌}
use Rattle.m4_state.specs.declared.definition.Def.{Def}
use Rattle.m4_state.specs.declared.stack.Kept.{Kept}
use Rattle.m4_state.specs.declared.stack.Kept.TheVariants.{One, Several}

abbrev pub definitions_of : Kept → List Def
definitions_of (One definition) = definition ∷ []
definitions_of (Several definitions) = definitions.items
