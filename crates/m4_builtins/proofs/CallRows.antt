-- CallRows: worked calls, computed from the definitions. Each says the whole state and effect; a text
-- that is pushed counts as none where it is empty.
use Prim.Native.String.{String}
use Rattle.std.proofs.Common.{Some, None, ◌≡◌, ℕ, ℤ, List, [], ◌∷◌, ◌++◌, map, Option, Bool, false, refl}
use Rattle.std.specs.Prelude.{codes, pos, negsuc}
use Rattle.std.specs.Fmt.{digits}
use Rattle.m4_state.specs.declared.builtin.Builtin.{Builtin}
use Rattle.m4_state.specs.declared.builtin.Builtin.TheVariants.{Define, Defn, Dnl, Dumpdef, Ifdef, Ifelse, Indir}
use Rattle.m4_state.specs.declared.builtin.Builtin.TheVariants.{IndirBuiltin, Len, Popdef, Pushdef, Shift, Undefine}
use Rattle.m4_state.specs.declared.definition.Def.{Def}
use Rattle.m4_state.specs.declared.definition.Def.TheVariants as defs
use Rattle.m4_state.specs.Delimiters.{default_quotes, default_comments}
use Rattle.m4_state.specs.State.{State, NumberedText}
use Rattle.m4_state.specs.Table.{Pairs}
use Rattle.m4_input.specs.declared.pushed.Pushed.{Pushed}
use Rattle.m4_input.specs.declared.pushed.Pushed.TheVariants as pushes
use Rattle.m4_builtins.specs.declared.args.Arg.{Arg}
use Rattle.m4_builtins.specs.declared.args.Arg.TheVariants as args
use Rattle.m4_builtins.specs.declared.place.Place.{Place}
use Rattle.m4_builtins.specs.Act.{Acted, act}

-- what a call leaves to be seen
pub record Seen : Type 0 where
  pub state : State
  pub text : List ℕ
  pub definition : Option Def
  pub messages : List ℕ
  pub output : List ℕ
  pub wrap : Option (List ℕ)
  pub skip : Bool
  pub exit : Option ℕ

abbrev text_of_push : Option Pushed → List ℕ
text_of_push None = []
text_of_push (Some (pushes.Text x)) = x
text_of_push (Some (pushes.Definition d)) = []

abbrev definition_of_push : Option Pushed → Option Def
definition_of_push None = None
definition_of_push (Some (pushes.Text x)) = None
definition_of_push (Some (pushes.Definition d)) = Some d

abbrev pub seen : Acted → Seen
seen r = record {
  state = r.state;
  text = text_of_push (r.effect).push;
  definition = definition_of_push (r.effect).push;
  messages = (r.effect).messages;
  output = (r.effect).output;
  wrap = (r.effect).wrap;
  skip = (r.effect).skip;
  exit = (r.effect).exit;
}

-- nothing is left to be done, in a state
abbrev pub still : State → Seen
still s = record {
  state = s;
  text = [];
  definition = None;
  messages = [];
  output = [];
  wrap = None;
  skip = false;
  exit = None;
}

abbrev pub here : Place
here = record { file = codes "a.m4"; line = 1 }

abbrev pub below : Place
below = record { file = codes "b.m4"; line = 12 }

abbrev pub wrapped : Place
wrapped = record { file = []; line = 0 }

-- a name with its definitions, and a definition that is text
abbrev pub macro : String → List Def → List ℕ × List Def
macro name stack = (codes name, stack)

abbrev pub body : String → Def
body x = defs.Text (codes x)

-- a state with these macros, and one with these diversions
abbrev pub over : Pairs → State
over table = record {
  table = table;
  quotes = default_quotes;
  comments = default_comments;
  diversions = [];
  current = pos 0;
}

abbrev pub diverted : List NumberedText → ℤ → State
diverted diversions current = record (over []) { diversions = diversions; current = current }

abbrev pub bare : State
bare = over []

abbrev pub named : State
named = over (
    macro "a" (body "1" ∷ []) ∷ macro "b" (body "1" ∷ body "2" ∷ [])
    ∷ macro "cut" (defs.Builtin Shift ∷ []) ∷ macro "old" (defs.Placeholder (codes "regexp") ∷ []) ∷ [])

abbrev pub bracketed : State
bracketed = record {
  table = (codes "a", defs.Text (codes "1") ∷ []) ∷ [];
  quotes = record { begin = codes "["; end = codes "]" };
  comments = default_comments;
  diversions = [];
  current = pos 0;
}

abbrev pub unquoted : State
unquoted = record {
  table = (codes "a", defs.Text (codes "1") ∷ []) ∷ [];
  quotes = record { begin = []; end = [] };
  comments = default_comments;
  diversions = [];
  current = pos 0;
}

abbrev pub split : State
split = diverted ((pos 1, codes "one\n") ∷ (pos 2, codes "two\n") ∷ (pos 5, codes "five") ∷ []) (pos 0)

abbrev pub diverting : State
diverting = diverted ((pos 1, codes "one\n") ∷ (pos 2, codes "two\n") ∷ []) (pos 2)

abbrev pub discarding : State
discarding = diverted ((pos 1, codes "one\n") ∷ (pos 2, codes "two\n") ∷ []) (negsuc 0)

abbrev pub indirect : State
indirect = over (
    macro "a b" (body "<$0:$1>" ∷ []) ∷ macro "define" (defs.Builtin Define ∷ [])
    ∷ macro "i" (defs.Builtin Indir ∷ []) ∷ macro "j" (defs.Builtin IndirBuiltin ∷ []) ∷ [])

-- an argument that is text, and one that is a builtin's definition
abbrev pub text : String → Arg
text x = args.Text (codes x)

abbrev pub texts : List String → List Arg
texts xs = map text xs

abbrev pub token : Builtin → Arg
token b = args.Definition (defs.Builtin b)

-- warnings at `here`, a line each
abbrev pub warnings : List String → List ℕ
warnings [] = []
warnings (w ∷ ws) = codes "m4:a.m4:1: Warning: " ++ codes w ++ codes "\n" ++ warnings ws

-- a text is pushed, and these warnings come
abbrev pub answer : State → String → List String → Seen
answer s x ws = record (still s) { text = codes x; messages = warnings ws }

-- A row of texts: what it shows, the arguments, the text that is pushed and the warnings. The state stays.
abbrev pub Answers : Builtin → State → List (String × List String × String × List String) → Type 0
Answers b s rows =
    map (λ row. seen (act (defs.Builtin b) [] (texts row.1) here s)) rows
    ≡ map (λ row. answer s row.2 row.3) rows

-- A row of any call: what it shows, the builtin, the arguments, the place, the state and what is to be seen.
abbrev pub Call : Type 0
Call = String × Builtin × List Arg × Place × State × Seen

abbrev pub row : String → Builtin → List Arg → Place → State → Seen → Call
row shows b xs p s r = (shows, b, xs, p, s, r)

abbrev pub Calls : List Call → Type 0
Calls rows = map (λ row. seen (act (defs.Builtin row.1) [] row.2 row.3 row.4)) rows ≡ map (λ row. row.5) rows

-- `pushdef` and `define`
define_rows : Calls (
    row "pushdef adds to a name's definitions" Pushdef (texts ("a" ∷ "2" ∷ [])) here named
    (still (over (macro "a" (body "1" ∷ body "2" ∷ []) ∷ macro "b" (body "1" ∷ body "2" ∷ [])
    ∷ macro "cut" (defs.Builtin Shift ∷ []) ∷ macro "old" (defs.Placeholder (codes "regexp") ∷ []) ∷ [])))
    ∷ row "pushdef of a new name goes to its place" Pushdef (texts ("bb" ∷ "x" ∷ [])) here named
    (still (over (macro "a" (body "1" ∷ []) ∷ macro "b" (body "1" ∷ body "2" ∷ []) ∷ macro "bb" (body "x" ∷ [])
    ∷ macro "cut" (defs.Builtin Shift ∷ []) ∷ macro "old" (defs.Placeholder (codes "regexp") ∷ []) ∷ [])))
    ∷ row "pushdef without a text" Pushdef (texts ("a" ∷ [])) here bare (still (over (macro "a" (body "" ∷ []) ∷ [])))
    ∷ row "pushdef of a builtin" Pushdef (text "a" ∷ token Shift ∷ []) here named
    (still (over (macro "a" (body "1" ∷ defs.Builtin Shift ∷ []) ∷ macro "b" (body "1" ∷ body "2" ∷ [])
    ∷ macro "cut" (defs.Builtin Shift ∷ []) ∷ macro "old" (defs.Placeholder (codes "regexp") ∷ []) ∷ [])))
    ∷ row "pushdef cannot name a builtin" Pushdef (token Shift ∷ text "x" ∷ []) here named
    (answer named "" ("invalid macro name ignored in builtin `pushdef'" ∷ []))
    ∷ row "pushdef with one argument too many" Pushdef (texts ("a" ∷ "b" ∷ "c" ∷ [])) here bare
    (answer (over (macro "a" (body "b" ∷ []) ∷ [])) "" ("excess arguments to builtin `pushdef' ignored" ∷ []))
    ∷ row "define keeps what lies below the top" Define (texts ("b" ∷ "3" ∷ [])) here named
    (still (over (macro "a" (body "1" ∷ []) ∷ macro "b" (body "1" ∷ body "3" ∷ [])
    ∷ macro "cut" (defs.Builtin Shift ∷ []) ∷ macro "old" (defs.Placeholder (codes "regexp") ∷ []) ∷ [])))
    ∷ row "define without arguments" Define [] here bare (answer bare "" ("too few arguments to builtin `define'" ∷ []))
    ∷ row "define cannot name a builtin, and has one argument too many" Define
    (token Dnl ∷ text "x" ∷ text "y" ∷ []) wrapped bare
    (record (still bare) {
      messages = codes "m4: Warning: excess arguments to builtin `define' ignored\n"
          ++ codes "m4: Warning: invalid macro name ignored in builtin `define'\n";
    })
    ∷ [])
unfolding digits
define_rows = refl

-- `popdef` and `undefine`
undefine_rows : Calls (
    row "popdef takes the top one" Popdef (texts ("b" ∷ [])) here named
    (still (over (macro "a" (body "1" ∷ []) ∷ macro "b" (body "1" ∷ []) ∷ macro "cut" (defs.Builtin Shift ∷ [])
    ∷ macro "old" (defs.Placeholder (codes "regexp") ∷ []) ∷ [])))
    ∷ row "popdef of the last one takes the name away" Popdef (texts ("a" ∷ [])) here named
    (still (over (macro "b" (body "1" ∷ body "2" ∷ []) ∷ macro "cut" (defs.Builtin Shift ∷ [])
    ∷ macro "old" (defs.Placeholder (codes "regexp") ∷ []) ∷ [])))
    ∷ row "popdef of several, an unknown one and one twice" Popdef (texts ("z" ∷ "b" ∷ "b" ∷ "cut" ∷ [])) here named
    (still (over (macro "a" (body "1" ∷ []) ∷ macro "old" (defs.Placeholder (codes "regexp") ∷ []) ∷ [])))
    ∷ row "popdef of a definition token pops the empty name" Popdef (token Shift ∷ []) here named (still named)
    ∷ row "undefine takes all away" Undefine (texts ("b" ∷ "old" ∷ [])) here named
    (still (over (macro "a" (body "1" ∷ []) ∷ macro "cut" (defs.Builtin Shift ∷ []) ∷ [])))
    ∷ [])
unfolding digits
undefine_rows = refl

-- `defn` of texts, and the warning of each builtin that it drops
abbrev dropped : String
dropped = "builtin dropped from text"

defn_rows : Answers Defn named (
    ("defn of a text", "b" ∷ [], "`2'", [])
    ∷ ("defn of an unknown name", "z" ∷ [], "", [])
    ∷ ("defn of several drops the builtins", "a" ∷ "cut" ∷ "b" ∷ "old" ∷ "z" ∷ [], "`1'`2'", dropped ∷ dropped ∷ [])
    ∷ ("defn of several that hold no builtin", "a" ∷ "z" ∷ [], "`1'", [])
    ∷ ("defn without arguments", [], "", "too few arguments to builtin `defn'" ∷ [])
    ∷ [])
unfolding digits
defn_rows = refl

-- `defn` of builtins, and with other quotes
other_defn_rows : Calls (
    row "defn of a builtin" Defn (texts ("cut" ∷ [])) here named
    (record (still named) { definition = Some (defs.Builtin Shift) })
    ∷ row "defn of a placeholder" Defn (texts ("old" ∷ [])) here named
    (record (still named) { definition = Some (defs.Placeholder (codes "regexp")) })
    ∷ row "defn with other quotes" Defn (texts ("a" ∷ [])) here bracketed (answer bracketed "[1]" [])
    ∷ row "defn with quotes disabled" Defn (texts ("a" ∷ [])) here unquoted (answer unquoted "1" [])
    ∷ [])
unfolding digits
other_defn_rows = refl

-- `dumpdef`
dumpdef_rows : Calls (
    row "dumpdef of several, one unknown, one twice" Dumpdef
    (texts ("b" ∷ "z" ∷ "a" ∷ "y" ∷ "b" ∷ "cut" ∷ "old" ∷ [])) here named
    (record (still named) {
      messages = warnings ("undefined macro `z'" ∷ "undefined macro `y'" ∷ [])
          ++ codes "a:\t`1'\nb:\t`2'\nb:\t`2'\ncut:\t<shift>\nold:\t<regexp>\n";
    })
    ∷ row "dumpdef of all" Dumpdef [] here named
    (record (still named) { messages = codes "a:\t`1'\nb:\t`2'\ncut:\t<shift>\nold:\t<regexp>\n" })
    ∷ row "dumpdef of all where there is none" Dumpdef [] here bare (still bare)
    ∷ row "dumpdef with other quotes" Dumpdef (texts ("a" ∷ [])) here bracketed
    (record (still bracketed) { messages = codes "a:\t[1]\n" })
    ∷ [])
unfolding digits
dumpdef_rows = refl

-- `indir`
indir_rows : Answers Indir indirect (
    ("indir of a text: the name is that of the inner call", "a b" ∷ "x" ∷ [], "<a b:x>", [])
    ∷ ("indir of an unknown name", "no" ∷ "x" ∷ [], "", "undefined macro `no'" ∷ [])
    ∷ ("indir without arguments", [], "", "too few arguments to builtin `indir'" ∷ [])
    ∷ ("indir of the empty name", "" ∷ [], "", "undefined macro `'" ∷ [])
    ∷ ("indir of define without arguments", "define" ∷ [], "", "too few arguments to builtin `define'" ∷ [])
    ∷ ("indir of indir of builtin of indir of a text", "i" ∷ "j" ∷ "indir" ∷ "a b" ∷ "x" ∷ "y" ∷ [], "<a b:x>", [])
    ∷ ("indir of builtin without more", "j" ∷ [], "", "too few arguments to builtin `builtin'" ∷ [])
    ∷ [])
unfolding digits
indir_rows = refl

-- `indir` of a builtin that changes the state, and of a placeholder
other_indir_rows : Calls (
    row "indir of define" Indir (texts ("define" ∷ "a b" ∷ "$1" ∷ [])) here indirect
    (still (over (macro "a b" (body "$1" ∷ []) ∷ macro "define" (defs.Builtin Define ∷ [])
    ∷ macro "i" (defs.Builtin Indir ∷ []) ∷ macro "j" (defs.Builtin IndirBuiltin ∷ []) ∷ [])))
    ∷ row "indir of a placeholder" Indir (texts ("old" ∷ "x" ∷ [])) here named
    (answer named "" ("builtin `regexp' requested by frozen file is not supported" ∷ []))
    ∷ [])
unfolding digits
other_indir_rows = refl

-- `builtin`
builtin_rows : Answers IndirBuiltin bare (
    ("builtin by its own name, though no macro has it", "shift" ∷ "p" ∷ "q" ∷ [], "`q'", [])
    ∷ ("builtin of an unknown name", "shfit" ∷ "p" ∷ [], "", "undefined builtin `shfit'" ∷ [])
    ∷ ("builtin of a name that another m4 has", "regexp" ∷ "p" ∷ [], "", "undefined builtin `regexp'" ∷ [])
    ∷ ("builtin without arguments", [], "", "too few arguments to builtin `builtin'" ∷ [])
    ∷ [])
unfolding digits
builtin_rows = refl

-- `builtin` of a definition, and of a builtin that changes the state
other_builtin_rows : Calls (
    row "builtin of a definition" IndirBuiltin (token Shift ∷ []) here bare
    (answer bare "" ("invalid macro name ignored in builtin `builtin'" ∷ []))
    ∷ row "builtin of define with one argument too many" IndirBuiltin
    (texts ("define" ∷ "x" ∷ "y" ∷ "z" ∷ [])) here bare
    (answer (over (macro "x" (body "y" ∷ []) ∷ [])) "" ("excess arguments to builtin `define' ignored" ∷ []))
    ∷ [])
unfolding digits
other_builtin_rows = refl

-- `ifdef`
ifdef_rows : Answers Ifdef named (
    ("ifdef of a name that has a definition", "a" ∷ "y" ∷ "n" ∷ [], "y", [])
    ∷ ("ifdef of one that has none", "z" ∷ "y" ∷ "n" ∷ [], "n", [])
    ∷ ("ifdef without a third argument", "z" ∷ "y" ∷ [], "", [])
    ∷ ("ifdef with one argument", "a" ∷ [], "", "too few arguments to builtin `ifdef'" ∷ [])
    ∷ ("ifdef with four", "a" ∷ "y" ∷ "n" ∷ "m" ∷ [], "y", "excess arguments to builtin `ifdef' ignored" ∷ [])
    ∷ [])
unfolding digits
ifdef_rows = refl

-- `ifelse`, and the warning of an argument too many
abbrev excess : String
excess = "excess arguments to builtin `ifelse' ignored"

ifelse_rows : Answers Ifelse bare (
    ("ifelse with one argument", "a" ∷ [], "", [])
    ∷ ("ifelse with two", "a" ∷ "b" ∷ [], "", "too few arguments to builtin `ifelse'" ∷ [])
    ∷ ("ifelse of equal texts", "a" ∷ "a" ∷ "y" ∷ [], "y", [])
    ∷ ("ifelse of texts that differ", "a" ∷ "b" ∷ "y" ∷ [], "", [])
    ∷ ("ifelse with another result", "a" ∷ "b" ∷ "1" ∷ "2" ∷ [], "2", [])
    ∷ ("ifelse with one argument too many", "a" ∷ "b" ∷ "c" ∷ "d" ∷ "e" ∷ [], "d", excess ∷ [])
    ∷ ("ifelse with one too many where the first pair is equal", "a" ∷ "a" ∷ "c" ∷ "d" ∷ "e" ∷ [], "c", excess ∷ [])
    ∷ ("ifelse of two pairs", "a" ∷ "b" ∷ "1" ∷ "c" ∷ "c" ∷ "2" ∷ "3" ∷ [], "2", [])
    ∷ ("ifelse of two pairs that differ, without another result", "a" ∷ "b" ∷ "1" ∷ "c" ∷ "d" ∷ "2" ∷ [], "", [])
    ∷ ("ifelse of eight", "a" ∷ "b" ∷ "1" ∷ "c" ∷ "d" ∷ "2" ∷ "3" ∷ "4" ∷ [], "3", excess ∷ [])
    ∷ ("ifelse of ten", "a" ∷ "b" ∷ "1" ∷ "c" ∷ "d" ∷ "2" ∷ "e" ∷ "e" ∷ "3" ∷ "4" ∷ [], "3", [])
    ∷ [])
unfolding digits
ifelse_rows = refl

-- `shift`
shift_rows : Answers Shift bare (
    ("shift quotes each argument but the first", "a" ∷ "b" ∷ "" ∷ "c" ∷ [], "`b',`',`c'", [])
    ∷ ("shift of one argument", "a" ∷ [], "", [])
    ∷ ("shift without arguments", [], "", [])
    ∷ [])
unfolding digits
shift_rows = refl

-- Another place, and definitions as arguments.
other_rows : Calls (
    row "a warning at a place" Indir (texts ("q" ∷ [])) below bare
    (record (still bare) { messages = codes "m4:b.m4:12: Warning: undefined macro `q'\n" })
    ∷ row "indir hands definitions through" Indir (text "define" ∷ text "q" ∷ token Len ∷ []) here indirect
    (still (over (macro "a b" (body "<$0:$1>" ∷ []) ∷ macro "define" (defs.Builtin Define ∷ [])
    ∷ macro "i" (defs.Builtin Indir ∷ []) ∷ macro "j" (defs.Builtin IndirBuiltin ∷ [])
    ∷ macro "q" (defs.Builtin Len ∷ []) ∷ [])))
    ∷ row "indir of a definition" Indir (token Len ∷ text "x" ∷ []) here indirect
    (answer indirect "" ("invalid macro name ignored in builtin `indir'" ∷ []))
    ∷ row "ifelse takes a definition as an empty text" Ifelse (token Len ∷ text "" ∷ text "y" ∷ text "n" ∷ []) here bare
    (answer bare "y" [])
    ∷ row "shift with other quotes, of a definition" Shift (text "a" ∷ token Len ∷ text "b" ∷ []) here bracketed
    (answer bracketed "[],[b]" [])
    ∷ [])
unfolding digits
other_rows = refl

-- a placeholder with arguments
a_placeholder_with_arguments :
    seen (act (defs.Placeholder (codes "regexp")) [] (texts ("a" ∷ "b" ∷ [])) here bare)
    ≡ answer bare "" ("builtin `regexp' requested by frozen file is not supported" ∷ [])
unfolding digits
a_placeholder_with_arguments = refl

-- a text with all arguments quoted
a_text_with_all_arguments_quoted :
    seen (act (defs.Text (codes "$@;$*;$#;$0")) (codes "f") (text "a" ∷ token Len ∷ text "b" ∷ []) here bracketed)
    ≡ answer bracketed "[a],[],[b];a,,b;3;f" []
unfolding digits
a_text_with_all_arguments_quoted = refl
