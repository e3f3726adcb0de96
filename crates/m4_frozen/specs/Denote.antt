-- Denote: the meaning of a list of directives: a state, and the text that is issued first. Its point is `denote`.
-- Believed. Its law: `FreezeLoads` (the canonical directives of a state denote it).
-- Manual: "Frozen file format". Words: with_directive, issued_by, denote.
-- own: the text of a `D` is added to its diversion; for number 0 it is issued, and for a negative
-- number it is discarded. An `F` of a builtin that isn't in the table is a placeholder.
use Rattle.std.specs.Prelude.{ℕ, zero, pos, List, [], Some, None, fold}
use Rattle.std.specs.List.{flat_map}
use Rattle.m4_state.specs.declared.definition.Def.{Def}
use Rattle.m4_state.specs.declared.definition.Def.TheVariants as defs
use Rattle.m4_state.specs.Builtin.{builtin_named}
use Rattle.m4_state.specs.State.{State, empty, pushed, with_quotes, with_comments, diverted, appended}
use Rattle.m4_frozen.specs.declared.loading.Loaded.{Loaded}
use Rattle.m4_frozen.specs.Directive.{Directive, Quotes, Comments, Text, Builtin as NamedBuiltin, Diversion}

-- the definition that an `F` of this builtin's name pushes: a placeholder that keeps the name if the table has none
abbrev pub definition_named : List ℕ → Def
definition_named name = elim (builtin_named name) [ None ↦ defs.Placeholder name | Some b ↦ defs.Builtin b ]

-- the state after a directive, one row of the table each
abbrev pub with_directive : State → Directive → State
with_directive s (Quotes begin end) = with_quotes s begin end
with_directive s (Comments begin end) = with_comments s begin end
with_directive s (Text name text) = pushed s name (defs.Text text)
with_directive s (NamedBuiltin name builtin) = pushed s name (definition_named builtin)
with_directive s (Diversion number text) = appended (diverted s number) text

-- the text that a directive issues
abbrev pub issued_by : Directive → List ℕ
issued_by (Diversion (pos zero) text) = text
issued_by d = []

-- applies the directives in order to the empty state, and joins the texts that they issue
abbrev pub denote : List Directive → Loaded
denote ds = record { state = fold with_directive empty ds; issued = flat_map issued_by ds }
