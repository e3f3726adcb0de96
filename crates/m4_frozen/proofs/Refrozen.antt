-- Refrozen: a builtin and the placeholder of its name are written alike.
use Rattle.std.proofs.Common.{◌≡◌, ℕ, Bool, true, false, List, [], ◌∷◌, ◌++◌, map, refl, sym, ap, ◌∙◌}
use Rattle.std.specs.Prelude.{if◌then◌else◌}
use Rattle.std.specs.Str.{bytes_eq}
use Rattle.std.specs.List.{flat_map}
use Rattle.m4_state.specs.declared.builtin.Builtin.{Builtin}
use Rattle.m4_state.specs.declared.definition.Def.{Def}
use Rattle.m4_state.specs.declared.definition.Def.TheVariants as defs
use Rattle.m4_state.specs.Builtin.{name_of}
use Rattle.m4_state.specs.State.{State}
use Rattle.m4_state.specs.Table.{Pairs}
use Rattle.m4_frozen.specs.Directive.{Directive, Builtin as builtin_directive}
use Rattle.m4_frozen.specs.Freeze.{definition, unless_default, current_unless_last, spelling}
use Rattle.m4_frozen.specs.Freeze.{freeze}
use Rattle.m4_frozen.specs.WriterSteps.{diversion, header, end_line}
use Rattle.m4_state.specs.Delimiters.{default_quotes, default_comments}
use Rattle.m4_frozen.specs.Directive.{Quotes, Comments}
use Rattle.m4_frozen.specs.Laws.{kept_by_older, as_older}

-- the directives of a table
abbrev table_written : Pairs → List Directive
table_written table = flat_map (λ e. map (definition e.0) e.1) table

-- the text of a state with these directives for its names
abbrev with_names : State → List Directive → List ℕ
with_names s names =
    header
    ++ flat_map spelling (unless_default Quotes default_quotes s.quotes ++ unless_default Comments default_comments s.comments
    ++ names ++ map diversion s.diversions ++ current_unless_last s)
    ++ end_line

module _ (lacking : Builtin) where
  one : (name : List ℕ) (d : Def) → definition name (kept_by_older lacking d) ≡ definition name d
  one name (defs.Text x) = refl
  one name (defs.Placeholder x) = refl
  one name (defs.Builtin b) = by (bytes_eq (name_of b) (name_of lacking))
    where
      by : (same : Bool) → definition name (if same then defs.Placeholder (name_of b) else defs.Builtin b) ≡ builtin_directive name (name_of b)
      by true = refl
      by false = refl

  each : (name : List ℕ) (stack : List Def) → map (definition name) (map (kept_by_older lacking) stack) ≡ map (definition name) stack
  each name [] = refl
  each name (d ∷ stack) = ap (λ (x : Directive). x ∷ map (definition name) (map (kept_by_older lacking) stack))
      (one name d) ∙ ap (λ (l : List Directive). definition name d ∷ l) (each name stack)

  all : (table : Pairs) → table_written (map (λ e. (e.0, map (kept_by_older lacking) e.1)) table) ≡ table_written table
  all [] = refl
  all (e ∷ table) =
      ap (λ (l : List Directive). l ++ table_written (map (λ e. (e.0, map (kept_by_older lacking) e.1)) table)) (each e.0 e.1)
      ∙ ap (λ (l : List Directive). map (definition e.0) e.1 ++ l) (all table)

  same_text : (s : State) → freeze (as_older lacking s) ≡ freeze s
  same_text s = ap (with_names s) (all s.table)

-- the law
pub refreeze_older : (lacking : Builtin) (s t : State) → as_older lacking s ≡ as_older lacking t → freeze s ≡ freeze t
refreeze_older lacking s t same = sym (same_text lacking s) ∙ ap freeze same ∙ same_text lacking t
