-- Act: the effect of a call on the state, and its effects that the run still has to apply. Its point is `act`.
-- Believed. Its lemmas: `ActKeeps` (a valid state stays valid, and pushes valid definitions).
-- Manual: "Deleting whitespace in input", "Arguments to macros", "Macro invocation"; the sections of
-- the other builtins are named at their own definitions, a file for each chapter.
-- Words: row, act_with, goes_on, act, needs_list, given_though_few. One line for each builtin, and one for
-- each kind of definition.
-- own: a placeholder, which names a builtin of another m4, expands to nothing with a warning.
-- own: with one argument `index` expands to 0, `substr` and `translit` to it, after the warning.
use Rattle.std.specs.Prelude.{ℕ, Bool, true, false, nat_lt, List, [], ◌∷◌, Option, Some, None, length, map, codes}
use Rattle.std.specs.Prelude.{if◌then◌else◌}
use Rattle.m4_state.specs.declared.builtin.Builtin.{Builtin}
use Rattle.m4_state.specs.declared.builtin.Builtin.TheVariants.{Define, Undefine, Pushdef, Popdef, Defn, Indir}
use Rattle.m4_state.specs.declared.builtin.Builtin.TheVariants.{IndirBuiltin, Ifdef, Ifelse, Shift, Dumpdef, Dnl}
use Rattle.m4_state.specs.declared.builtin.Builtin.TheVariants.{Changequote, Changecom, Divert, Undivert, Divnum, Len}
use Rattle.m4_state.specs.declared.builtin.Builtin.TheVariants.{Index, Substr, Translit, Incr, Decr, Eval, Errprint}
use Rattle.m4_state.specs.declared.builtin.Builtin.TheVariants.{M4wrap, M4exit, File, Line}
use Rattle.m4_state.specs.declared.definition.Def.{Def}
use Rattle.m4_state.specs.declared.definition.Def.TheVariants as defs
use Rattle.m4_state.specs.Builtin.{row_of}
use Rattle.m4_state.specs.State.{State}
use Rattle.m4_input.specs.declared.pushed.Pushed.{Pushed}
use Rattle.m4_input.specs.declared.pushed.Pushed.TheVariants as pushes
use Rattle.m4_builtins.specs.declared.args.Arg.{Arg}
use Rattle.m4_builtins.specs.declared.args.Arg.TheVariants as args
use Rattle.m4_builtins.specs.declared.place.Place.{Place}
pub use Rattle.m4_builtins.specs.Acted.{Acted, IsPushed, nothing, expands, only_warning, warning_first, leaves, changes}
use Rattle.m4_builtins.specs.Args.{text_of_arg}
use Rattle.m4_builtins.specs.Arithmetic.{incr, decr}
use Rattle.m4_builtins.specs.Branching.{ifdef, ifelse, shift}
use Rattle.m4_builtins.specs.Delimiting.{changequote, changecom}
use Rattle.m4_builtins.specs.Diverting.{divert, undivert, divnum}
use Rattle.m4_builtins.specs.Ending.{m4wrap, m4exit}
use Rattle.m4_builtins.specs.Eval.{eval}
use Rattle.m4_builtins.specs.Indirect.{Inner, indir, builtin}
use Rattle.m4_builtins.specs.Messages.{too_few, excess, unsupported}
use Rattle.m4_builtins.specs.Naming.{define, undefine, pushdef, popdef, defn}
use Rattle.m4_builtins.specs.Printing.{dumpdef, errprint, file, line}
use Rattle.m4_builtins.specs.Subst.{subst}
use Rattle.m4_builtins.specs.Texts.{len, index, substr}
use Rattle.m4_builtins.specs.Translit.{translit}

-- whether a definition is recognised only with parameters: without a list its name is text
abbrev pub needs_list : Def → Bool
needs_list (defs.Builtin b) = (row_of b).needs_args
needs_list d = false

-- the effect of a builtin with enough arguments
abbrev pub row : Inner → Builtin → List Arg → Place → State → Acted
row inner Define list p s = define list p s
row inner Undefine list p s = undefine list s
row inner Pushdef list p s = pushdef list p s
row inner Popdef list p s = popdef list s
row inner Defn list p s = leaves s (defn list p s)
row inner Indir list p s = indir inner list p s
row inner IndirBuiltin list p s = builtin inner list p s
row inner Ifdef list p s = leaves s (ifdef list s)
row inner Ifelse list p s = leaves s (ifelse list p)
row inner Shift list p s = leaves s (shift list s)
row inner Dumpdef list p s = leaves s (dumpdef list p s)
row inner Dnl list p s = leaves s (record nothing { skip = true })
row inner Changequote list p s = changes (changequote list s)
row inner Changecom list p s = changes (changecom list s)
row inner Divert list p s = divert list p s
row inner Undivert list p s = undivert list p s
row inner Divnum list p s = leaves s (divnum s)
row inner Len list p s = leaves s (len list)
row inner Index list p s = leaves s (index list)
row inner Substr list p s = leaves s (substr list p)
row inner Translit list p s = leaves s (translit list)
row inner Incr list p s = leaves s (incr list p)
row inner Decr list p s = leaves s (decr list p)
row inner Eval list p s = leaves s (eval list p)
row inner Errprint list p s = leaves s (errprint list)
row inner M4wrap list p s = leaves s (m4wrap list)
row inner M4exit list p s = leaves s (m4exit list p)
row inner File list p s = leaves s (file p s)
row inner Line list p s = leaves s (line p)

-- whether a count is above the maximum
abbrev pub is_above : Option ℕ → ℕ → Bool
is_above o n = elim o [ None ↦ false | Some most ↦ nat_lt most n ]

-- the value that a call with missing arguments still expands to
abbrev pub given_though_few : Builtin → List Arg → Option Pushed
given_though_few Index (a ∷ []) = Some (pushes.Text (codes "0"))
given_though_few Substr (a ∷ []) = Some (pushes.Text (text_of_arg a))
given_though_few Translit (a ∷ []) = Some (pushes.Text (text_of_arg a))
given_though_few b list = None

-- a call of a definition under a name; `inner` continues an indirect call. A builtin warns of missing arguments, and
-- the state stays; it warns of excess ones and ignores them. A definition counts as empty unless the builtin accepts it
abbrev pub act_with : Inner → Def → List ℕ → List Arg → Place → State → Acted
act_with inner (defs.Text x) name list p s = leaves s (expands (subst x name list s.quotes))
act_with inner (defs.Builtin b) name list p s =
    if nat_lt (length list) (row_of b).least
    then leaves s (record nothing { push = given_though_few b list; messages = too_few p b })
    else (let given = if (row_of b).takes_tokens then list else map (λ a. args.Text (text_of_arg a)) list in
    let r = row inner b given p s in
    leaves r.state (warning_first (if is_above (row_of b).most (length list) then excess p b else []) r.effect))
act_with inner (defs.Placeholder x) name list p s = leaves s (only_warning (unsupported p x))

-- how an indirect call with these arguments continues: with those after the first; without any it does nothing
abbrev pub goes_on : List Arg → Place → State → Inner
goes_on [] p s d name = changes s
goes_on (a ∷ rest) p s d name = act_with (goes_on rest p s) d name rest p s

-- a call of a definition under a name
abbrev pub act : Def → List ℕ → List Arg → Place → State → Acted
act d name list p s = act_with (goes_on list p s) d name list p s
