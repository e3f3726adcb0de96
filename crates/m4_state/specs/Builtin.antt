-- The table of builtins: what each is called, and how it may be called.
-- Believed. Its lemma `builtin_named-name_of`: each builtin is found by its own name.
-- Manual: "Builtins", "Macro invocation". Words: row_of, table, name_of, builtin_named.
-- One row for each builtin.
-- own: `ifelse` warns about arguments by its own rules, so this table sets no limits for it.
use Rattle.std.specs.Prelude.{ℕ, Bool, true, false, List, [], ◌∷◌, Option, Some, None, find, codes}
use Rattle.std.specs.Str.{bytes_eq}
use Rattle.m4_state.specs.declared.builtin.Builtin.{Builtin}
use Rattle.m4_state.specs.declared.builtin.Builtin.TheVariants.{Define, Undefine, Pushdef, Popdef, Defn, Indir}
use Rattle.m4_state.specs.declared.builtin.Builtin.TheVariants.{IndirBuiltin, Ifdef, Ifelse, Shift, Dumpdef, Dnl}
use Rattle.m4_state.specs.declared.builtin.Builtin.TheVariants.{Changequote, Changecom, Divert, Undivert, Divnum, Len}
use Rattle.m4_state.specs.declared.builtin.Builtin.TheVariants.{Index, Substr, Translit, Incr, Decr, Eval, Errprint}
use Rattle.m4_state.specs.declared.builtin.Builtin.TheVariants.{M4wrap, M4exit, File, Line}

-- how a builtin is called: its own name; whether it is recognised only with parameters; whether a definition may be an
-- argument, or else counts as an empty text; the least number of arguments, and the greatest, if there is a limit
pub record Row : Type 0 where
  pub name : List ℕ
  pub needs_args : Bool
  pub takes_tokens : Bool
  pub least : ℕ
  pub most : Option ℕ

-- a row of the table, its columns in the order above
abbrev pub row_with : List ℕ → Bool → Bool → ℕ → Option ℕ → Row
row_with name needs_args takes_tokens least most =
    record { name = name; needs_args = needs_args; takes_tokens = takes_tokens; least = least; most = most }

-- the table
abbrev pub row_of : Builtin → Row
row_of Define = row_with (codes "define") true true 1 (Some 2)
row_of Undefine = row_with (codes "undefine") true false 1 None
row_of Pushdef = row_with (codes "pushdef") true true 1 (Some 2)
row_of Popdef = row_with (codes "popdef") true false 1 None
row_of Defn = row_with (codes "defn") true false 1 None
row_of Indir = row_with (codes "indir") true true 1 None
row_of IndirBuiltin = row_with (codes "builtin") true true 1 None
row_of Ifdef = row_with (codes "ifdef") true false 2 (Some 3)
row_of Ifelse = row_with (codes "ifelse") true false 0 None
row_of Shift = row_with (codes "shift") true false 0 None
row_of Dumpdef = row_with (codes "dumpdef") false false 0 None
row_of Dnl = row_with (codes "dnl") false false 0 (Some 0)
row_of Changequote = row_with (codes "changequote") false false 0 (Some 2)
row_of Changecom = row_with (codes "changecom") false false 0 (Some 2)
row_of Divert = row_with (codes "divert") false false 0 (Some 1)
row_of Undivert = row_with (codes "undivert") false false 0 None
row_of Divnum = row_with (codes "divnum") false false 0 (Some 0)
row_of Len = row_with (codes "len") true false 1 (Some 1)
row_of Index = row_with (codes "index") true false 2 (Some 2)
row_of Substr = row_with (codes "substr") true false 2 (Some 3)
row_of Translit = row_with (codes "translit") true false 2 (Some 3)
row_of Incr = row_with (codes "incr") true false 1 (Some 1)
row_of Decr = row_with (codes "decr") true false 1 (Some 1)
row_of Eval = row_with (codes "eval") true false 1 (Some 3)
row_of Errprint = row_with (codes "errprint") true false 0 None
row_of M4wrap = row_with (codes "m4wrap") true false 0 None
row_of M4exit = row_with (codes "m4exit") false false 0 (Some 1)
row_of File = row_with (codes "__file__") false false 0 (Some 0)
row_of Line = row_with (codes "__line__") false false 0 (Some 0)

-- the builtins of the table
abbrev pub table : List Builtin
table =
    Define ∷ Undefine ∷ Pushdef ∷ Popdef ∷ Defn ∷ Indir ∷ IndirBuiltin ∷ Ifdef ∷ Ifelse ∷ Shift ∷
    Dumpdef ∷ Dnl ∷ Changequote ∷ Changecom ∷ Divert ∷ Undivert ∷ Divnum ∷ Len ∷ Index ∷ Substr ∷
    Translit ∷ Incr ∷ Decr ∷ Eval ∷ Errprint ∷ M4wrap ∷ M4exit ∷ File ∷ Line ∷ []

-- a builtin's own name
abbrev pub name_of : Builtin → List ℕ
name_of b = (row_of b).name

-- the builtin of that name
abbrev pub builtin_named : List ℕ → Option Builtin
builtin_named name = find (λ b. bytes_eq (name_of b) name) table
