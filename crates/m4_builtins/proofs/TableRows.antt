-- TableRows: the table of builtins, a row for each of its columns, and what definitions need a list.
use Rattle.std.proofs.Common.{◌≡◌, ℕ, List, [], ◌∷◌, Option, Some, None, true, false, refl}
use Rattle.std.specs.Prelude.{codes, map}
use Rattle.m4_state.specs.declared.builtin.Builtin.{Builtin}
use Rattle.m4_state.specs.declared.definition.Def.TheVariants as defs
use Rattle.m4_state.specs.Builtin.{table, name_of}
use Rattle.m4_state.specs.Columns.{takes_tokens, least_of, most_of}
use Rattle.m4_builtins.specs.Act.{needs_list}

-- a column of the table, beside the names
abbrev column : {A : Type 0} → (Builtin → A) → List (List ℕ × A)
column f = map (λ b. (name_of b, f b)) table

-- whether a name without a list is text
names_that_need_a_list : column (λ b. needs_list (defs.Builtin b))
    ≡ (codes "define", true) ∷ (codes "undefine", true) ∷ (codes "pushdef", true) ∷ (codes "popdef", true)
    ∷ (codes "defn", true) ∷ (codes "indir", true) ∷ (codes "builtin", true) ∷ (codes "ifdef", true)
    ∷ (codes "ifelse", true) ∷ (codes "shift", true) ∷ (codes "dumpdef", false) ∷ (codes "dnl", false)
    ∷ (codes "changequote", false) ∷ (codes "changecom", false) ∷ (codes "divert", false)
    ∷ (codes "undivert", false) ∷ (codes "divnum", false) ∷ (codes "len", true) ∷ (codes "index", true)
    ∷ (codes "substr", true) ∷ (codes "translit", true) ∷ (codes "incr", true) ∷ (codes "decr", true)
    ∷ (codes "eval", true) ∷ (codes "errprint", true) ∷ (codes "m4wrap", true) ∷ (codes "m4exit", false)
    ∷ (codes "__file__", false) ∷ (codes "__line__", false) ∷ []
names_that_need_a_list = refl

-- whether a definition may be an argument
names_that_take_definitions : column takes_tokens
    ≡ (codes "define", true) ∷ (codes "undefine", false) ∷ (codes "pushdef", true) ∷ (codes "popdef", false)
    ∷ (codes "defn", false) ∷ (codes "indir", true) ∷ (codes "builtin", true) ∷ (codes "ifdef", false)
    ∷ (codes "ifelse", false) ∷ (codes "shift", false) ∷ (codes "dumpdef", false) ∷ (codes "dnl", false)
    ∷ (codes "changequote", false) ∷ (codes "changecom", false) ∷ (codes "divert", false)
    ∷ (codes "undivert", false) ∷ (codes "divnum", false) ∷ (codes "len", false) ∷ (codes "index", false)
    ∷ (codes "substr", false) ∷ (codes "translit", false) ∷ (codes "incr", false) ∷ (codes "decr", false)
    ∷ (codes "eval", false) ∷ (codes "errprint", false) ∷ (codes "m4wrap", false) ∷ (codes "m4exit", false)
    ∷ (codes "__file__", false) ∷ (codes "__line__", false) ∷ []
names_that_take_definitions = refl

-- the least and the greatest number of arguments
counts_of_arguments : column {A = ℕ × Option ℕ} (λ b. (least_of b, most_of b))
    ≡ (codes "define", (1, Some 2)) ∷ (codes "undefine", (1, None)) ∷ (codes "pushdef", (1, Some 2))
    ∷ (codes "popdef", (1, None)) ∷ (codes "defn", (1, None)) ∷ (codes "indir", (1, None))
    ∷ (codes "builtin", (1, None)) ∷ (codes "ifdef", (2, Some 3)) ∷ (codes "ifelse", (0, None))
    ∷ (codes "shift", (0, None)) ∷ (codes "dumpdef", (0, None)) ∷ (codes "dnl", (0, Some 0))
    ∷ (codes "changequote", (0, Some 2)) ∷ (codes "changecom", (0, Some 2)) ∷ (codes "divert", (0, Some 1))
    ∷ (codes "undivert", (0, None)) ∷ (codes "divnum", (0, Some 0)) ∷ (codes "len", (1, Some 1))
    ∷ (codes "index", (2, Some 2)) ∷ (codes "substr", (2, Some 3)) ∷ (codes "translit", (2, Some 3))
    ∷ (codes "incr", (1, Some 1)) ∷ (codes "decr", (1, Some 1)) ∷ (codes "eval", (1, Some 3))
    ∷ (codes "errprint", (0, None)) ∷ (codes "m4wrap", (0, None)) ∷ (codes "m4exit", (0, Some 1))
    ∷ (codes "__file__", (0, Some 0)) ∷ (codes "__line__", (0, Some 0)) ∷ []
counts_of_arguments = refl
