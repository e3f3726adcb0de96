-- ActKeeps: a call leaves a state that was in order in order, and pushes definitions in order.
use Rattle.std.proofs.Common.{◌≡◌, ℕ, Bool, true, false, List, [], ◌∷◌, Option, Some, None, length, refl, rules}
use Rattle.std.specs.Prelude.{nat_lt, nat_le, ℤ, pos, negsuc, filter_map, slice_get, if◌then◌else◌}
use Rattle.std.specs.List.{AllByRecursion, list_all}
use Rattle.m4_state.specs.declared.builtin.Builtin.{Builtin}
use Rattle.m4_state.specs.declared.builtin.Builtin.TheVariants.{Define, Undefine, Pushdef, Popdef, Defn, Indir}
use Rattle.m4_state.specs.declared.builtin.Builtin.TheVariants.{IndirBuiltin, Ifdef, Ifelse, Shift, Dumpdef, Dnl}
use Rattle.m4_state.specs.declared.builtin.Builtin.TheVariants.{Changequote, Changecom, Divert, Undivert, Divnum, Len}
use Rattle.m4_state.specs.declared.builtin.Builtin.TheVariants.{Index, Substr, Translit, Incr, Decr, Eval, Errprint}
use Rattle.m4_state.specs.declared.builtin.Builtin.TheVariants.{M4wrap, M4exit, File, Line}
use Rattle.m4_state.specs.declared.definition.Def.{Def}
use Rattle.m4_state.specs.declared.definition.Def.TheVariants as defs
use Rattle.m4_state.specs.declared.delimiters.Delimiters.{Delimiters}
use Rattle.m4_state.specs.Definition.{IsDefinition}
use Rattle.m4_state.specs.Builtin.{builtin_named}
use Rattle.m4_state.specs.Columns.{takes_tokens, least_of}
use Rattle.m4_state.specs.State.{State, top_of, popped, undefined, undiverted, IsState}
use Rattle.m4_state.proofs.StaysInOrder.{IsState-defined, IsState-pushed, IsState-popped, IsState-undefined}
use Rattle.m4_state.proofs.StaysInOrder.{IsState-with_quotes, IsState-with_comments, IsState-default_quotes}
use Rattle.m4_state.proofs.StaysInOrder.{IsState-diverted, IsState-undiverted, top_definition}
use Rattle.m4_input.specs.Ascii.{is_space}
use Rattle.m4_eval.specs.declared.evaluate.Evaluated.{Evaluated}
use Rattle.m4_eval.specs.declared.evaluate.Evaluated.TheVariants.{Value, DivideByZero, BadExpression}
use Rattle.m4_eval.specs.Evaluated.{evaluated}
use Rattle.m4_eval.specs.InRadix.{radix_at, in_radix}
use Rattle.m4_builtins.specs.declared.args.Arg.{Arg}
use Rattle.m4_builtins.specs.declared.args.Arg.TheVariants as args
use Rattle.m4_builtins.specs.declared.effect.Effect.{Effect}
use Rattle.m4_builtins.specs.declared.number.Reading.{Reading}
use Rattle.m4_builtins.specs.declared.number.Reading.TheVariants.{Number, Empty, NotNumeric}
use Rattle.m4_builtins.specs.declared.place.Place.{Place}
use Rattle.m4_builtins.specs.Args.{IsArg, text_of_arg, texts_of, text_at}
use Rattle.m4_builtins.specs.Acted.{Acted, IsPushed, expands, warning_first}
use Rattle.m4_builtins.specs.Numeric.{reading_of, number_of_reading, with_number}
use Rattle.m4_builtins.specs.Naming.{define, pushdef, for_each, definition_in, definition_given, defn}
use Rattle.m4_builtins.specs.Branching.{ifelse}
use Rattle.m4_builtins.specs.Delimiting.{changequote}
use Rattle.m4_builtins.specs.Diverting.{divert, undivert, brought_back, held_numbers, readings_of}
use Rattle.m4_builtins.specs.Arithmetic.{incr, decr}
use Rattle.m4_builtins.specs.Texts.{substr}
use Rattle.m4_builtins.specs.Messages.{bad_status, empty_number}
use Rattle.m4_builtins.specs.Ending.{exits, exits_reading, m4exit}
use Rattle.m4_builtins.specs.Eval.{with_radix, with_width, if_value, with_expression, eval}
use Rattle.m4_builtins.specs.Indirect.{Inner, indir, builtin}
use Rattle.m4_builtins.specs.Act.{row, given_though_few, act_with, goes_on, act}
use Rattle.m4_builtins.proofs.Cases.{taken, act_unless, called_by_name, done_by_name, diverted_if, if_radix, if_width}
use Rattle.m4_builtins.proofs.NumbersFit.{IsReading, reading_fits}

-- what a call makes is in order
pub record IsActed (r : Acted) : Type 0 where
  pub state : IsState r.state
  pub push : IsPushed (r.effect).push

-- what an indirect call goes on as leaves everything in order
abbrev IsInner : Inner → Type 0
IsInner inner = (d : Def) (name : List ℕ) → IsActed (inner d name)

pub second_valid : (rest : List Arg) → AllByRecursion IsArg rest → IsDefinition (definition_in rest)
second_valid [] h = tt
second_valid (args.Text x ∷ rest) h = tt
second_valid (args.Definition d ∷ rest) h = h.0

taken_valid : (b : Bool) (list : List Arg) → AllByRecursion IsArg list → AllByRecursion IsArg (taken b list)
taken_valid true list h = h
taken_valid false [] h = tt
taken_valid false (a ∷ list) h = (tt, taken_valid false list h.1)

module _ (p : Place) where
  define_is : (list : List Arg) (s : State) → IsState s → AllByRecursion IsArg list → IsActed (define list p s)
  define_is [] s h v = record { state = h; push = tt }
  define_is (args.Text x ∷ rest) s h v = record { state = IsState-defined s x (definition_in rest) h (second_valid rest v.1); push = tt }
  define_is (args.Definition d ∷ rest) s h v = record { state = h; push = tt }

  pushdef_is : (list : List Arg) (s : State) → IsState s → AllByRecursion IsArg list → IsActed (pushdef list p s)
  pushdef_is [] s h v = record { state = h; push = tt }
  pushdef_is (args.Text x ∷ rest) s h v = record { state = IsState-pushed s x (definition_in rest) h (second_valid rest v.1); push = tt }
  pushdef_is (args.Definition d ∷ rest) s h v = record { state = h; push = tt }

  given_is : (q : Delimiters) (o : Option Def) → ((d : Def) → o ≡ Some d → IsDefinition d) → IsPushed (Some (definition_given q o))
  given_is q None h = tt
  given_is q (Some (defs.Text x)) h = tt
  given_is q (Some (defs.Builtin b)) h = h (defs.Builtin b) refl
  given_is q (Some (defs.Placeholder x)) h = h (defs.Placeholder x) refl

  defn_is : (list : List Arg) (s : State) → IsState s → IsPushed (defn list p s).push
  defn_is [] s h = tt
  defn_is (a ∷ []) s h = given_is s.quotes (top_of s (text_of_arg a)) (λ d e. top_definition s (text_of_arg a) d h e)
  defn_is (a ∷ b ∷ rest) s h = tt

  ifelse_is : (list : List Arg) → IsPushed (ifelse list p).push
  ifelse_is [] = tt
  ifelse_is (a ∷ []) = tt
  ifelse_is (a ∷ b ∷ []) = tt
  ifelse_is (a ∷ b ∷ c ∷ rest) = tt

  divert_by : (r : Reading) (s : State) → IsState s → IsReading r → IsState (diverted_if s (number_of_reading r))
  divert_by (Number n) s h fits = IsState-diverted s n h fits
  divert_by Empty s h fits = IsState-diverted s (pos 0) h (search rules)
  divert_by NotNumeric s h fits = h

  divert_is : (list : List Arg) (s : State) → IsState s → IsActed (divert list p s)
  divert_is [] s h = record { state = IsState-diverted s (pos 0) h (search rules); push = tt }
  divert_is (a ∷ rest) s h = record { state = divert_by (reading_of (text_of_arg a)) s h (reading_fits (text_of_arg a)); push = tt }

  brought_back_is : (numbers : List ℤ) (s : State) → IsState s → IsState (brought_back numbers s)
  brought_back_is [] s h = h
  brought_back_is (n ∷ numbers) s h = brought_back_is numbers (undiverted s n) (IsState-undiverted s n h)

  undivert_is : (list : List Arg) (s : State) → IsState s → IsActed (undivert list p s)
  undivert_is [] s h = record { state = brought_back_is (held_numbers s) s h; push = tt }
  undivert_is (a ∷ rest) s h = record { state = brought_back_is (filter_map number_of_reading (readings_of (a ∷ rest))) s h; push = tt }

  number_is : (b : Builtin) (r : Reading) (does : ℤ → Effect) → ((n : ℤ) → IsPushed (does n).push) → IsPushed (with_number p b r does).push
  number_is b (Number n) does each = each n
  number_is b Empty does each = each (pos 0)
  number_is b NotNumeric does each = tt

  substr_is : (list : List Arg) → IsPushed (substr list p).push
  substr_is [] = tt
  substr_is (a ∷ []) = tt
  substr_is (a ∷ b ∷ []) = number_is Substr (reading_of (text_of_arg b)) _ (λ n. tt)
  substr_is (a ∷ b ∷ c ∷ rest) =
      number_is Substr (reading_of (text_of_arg b)) _ (λ n. number_is Substr (reading_of (text_of_arg c)) _ (λ m. tt))

  incr_is : (list : List Arg) → IsPushed (incr list p).push
  incr_is list = number_is Incr (reading_of (text_at list 0)) _ (λ n. tt)

  decr_is : (list : List Arg) → IsPushed (decr list p).push
  decr_is list = number_is Decr (reading_of (text_at list 0)) _ (λ n. tt)

  radix_is : (does : ℕ → Effect) (o : Option ℕ) → ((radix : ℕ) → IsPushed (does radix).push) → IsPushed (if_radix p does o).push
  radix_is does (Some radix) each = each radix
  radix_is does None each = tt

  width_is : (does : ℕ → Effect) (n : ℤ) → ((width : ℕ) → IsPushed (does width).push) → IsPushed (if_width p does n).push
  width_is does (pos n) each = each n
  width_is does (negsuc n) each = tt

  value_is : (does : ℤ → Effect) (v : Evaluated) → ((n : ℤ) → IsPushed (does n).push) → IsPushed (if_value p does v).push
  value_is does (Value n) each = each n
  value_is does DivideByZero each = tt
  value_is does BadExpression each = tt

  with_radix_is : (x : List ℕ) (does : ℕ → Effect) → ((radix : ℕ) → IsPushed (does radix).push) → IsPushed (with_radix p x does).push
  with_radix_is [] does each = each 10
  with_radix_is (b ∷ x) does each = number_is Eval (reading_of (b ∷ x)) _ (λ n. radix_is does (radix_at n) each)

  with_width_is : (o : Option (List ℕ)) (does : ℕ → Effect) → ((width : ℕ) → IsPushed (does width).push) → IsPushed (with_width p o does).push
  with_width_is None does each = each 0
  with_width_is (Some x) does each = number_is Eval (reading_of x) _ (λ n. width_is does n each)

  with_value_is : (x : List ℕ) (does : ℤ → Effect) → ((n : ℤ) → IsPushed (does n).push) → IsPushed (with_expression p x does).push
  with_value_is x does each = by (list_all is_space x)
    where
      by : (b : Bool) → IsPushed (if b then warning_first (empty_number p Eval) (does (pos 0)) else if_value p does (evaluated x)).push
      by true = each (pos 0)
      by false = value_is does (evaluated x) each

  eval_is : (list : List Arg) → IsPushed (eval list p).push
  eval_is list =
      let written : ℕ → ℕ → ℤ → Effect = λ radix width n. expands (in_radix radix width n) in
      let after_width : ℕ → ℕ → Effect = λ radix width. with_expression p (text_at list 0) (written radix width) in
      let after_radix : ℕ → Effect = λ radix. with_width p (slice_get (texts_of list) 2) (after_width radix) in
      with_radix_is (text_at list 1) after_radix
      (λ radix. with_width_is (slice_get (texts_of list) 2) (after_width radix)
      (λ width. with_value_is (text_at list 0) (written radix width) (λ n. tt)))

  exits_reading_is : (r : Reading) → IsPushed (exits_reading r p).push
  exits_reading_is (Number (pos n)) = by (nat_le n 255)
    where
      by : (b : Bool) → IsPushed (if b then exits n else warning_first (bad_status p) (exits 1)).push
      by true = tt
      by false = tt
  exits_reading_is (Number (negsuc n)) = tt
  exits_reading_is Empty = tt
  exits_reading_is NotNumeric = tt

  m4exit_is : (list : List Arg) → IsPushed (m4exit list p).push
  m4exit_is [] = tt
  m4exit_is (a ∷ rest) = exits_reading_is (reading_of (text_of_arg a))

  few_is : (b : Builtin) (list : List Arg) → IsPushed (given_though_few b list)
  few_is Index (a ∷ []) = tt
  few_is Substr (a ∷ []) = tt
  few_is Translit (a ∷ []) = tt
  few_is b list = tt

  each_is : (change : State → List ℕ → State) → ((s : State) (name : List ℕ) → IsState s → IsState (change s name))
      → (list : List Arg) (s : State) → IsState s → IsState (for_each change list s)
  each_is change keeps [] s h = h
  each_is change keeps (a ∷ list) s h = each_is change keeps list (change s (text_of_arg a)) (keeps s (text_of_arg a) h)

  quotes_keep : (list : List Arg) (s : State) → IsState s → IsState (changequote list s)
  quotes_keep [] s h = IsState-default_quotes s h
  quotes_keep (a ∷ rest) s h = IsState-with_quotes s (text_of_arg a) (text_at rest 0) h

  module _ (inner : Inner) (goes_on : IsInner inner) where
    called_is : (o : Option Def) (name : List ℕ) (s : State) → IsState s → IsActed (called_by_name inner o name p s)
    called_is None name s h = record { state = h; push = tt }
    called_is (Some d) name s h = goes_on d name

    indir_is : (list : List Arg) (s : State) → IsState s → IsActed (indir inner list p s)
    indir_is [] s h = record { state = h; push = tt }
    indir_is (args.Text x ∷ rest) s h = called_is (top_of s x) x s h
    indir_is (args.Definition d ∷ rest) s h = record { state = h; push = tt }

    done_is : (o : Option Builtin) (name : List ℕ) (s : State) → IsState s → IsActed (done_by_name inner o name p s)
    done_is None name s h = record { state = h; push = tt }
    done_is (Some b) name s h = goes_on (defs.Builtin b) name

    builtin_is : (list : List Arg) (s : State) → IsState s → IsActed (builtin inner list p s)
    builtin_is [] s h = record { state = h; push = tt }
    builtin_is (args.Text x ∷ rest) s h = done_is (builtin_named x) x s h
    builtin_is (args.Definition d ∷ rest) s h = record { state = h; push = tt }

    row_is : (b : Builtin) (list : List Arg) (s : State) → IsState s → AllByRecursion IsArg list → IsActed (row inner b list p s)
    row_is Define list s h v = define_is list s h v
    row_is Undefine list s h v = record { state = each_is undefined (λ t name is. IsState-undefined t name is) list s h; push = tt }
    row_is Dnl list s h v = record { state = h; push = tt }
    row_is Changequote list s h v = record { state = quotes_keep list s h; push = tt }
    row_is Changecom list s h v = record { state = IsState-with_comments s (text_at list 0) (text_at list 1) h; push = tt }
    row_is Pushdef list s h v = pushdef_is list s h v
    row_is Popdef list s h v = record { state = each_is popped (λ t name is. IsState-popped t name is) list s h; push = tt }
    row_is Defn list s h v = record { state = h; push = defn_is list s h }
    row_is Indir list s h v = indir_is list s h
    row_is IndirBuiltin list s h v = builtin_is list s h
    row_is Ifdef list s h v = record { state = h; push = tt }
    row_is Ifelse list s h v = record { state = h; push = ifelse_is list }
    row_is Shift list s h v = record { state = h; push = tt }
    row_is Dumpdef list s h v = record { state = h; push = tt }
    row_is Divert list s h v = divert_is list s h
    row_is Undivert list s h v = undivert_is list s h
    row_is Divnum list s h v = record { state = h; push = tt }
    row_is Len list s h v = record { state = h; push = tt }
    row_is Index list s h v = record { state = h; push = tt }
    row_is Substr list s h v = record { state = h; push = substr_is list }
    row_is Translit list s h v = record { state = h; push = tt }
    row_is Incr list s h v = record { state = h; push = incr_is list }
    row_is Decr list s h v = record { state = h; push = decr_is list }
    row_is Eval list s h v = record { state = h; push = eval_is list }
    row_is Errprint list s h v = record { state = h; push = tt }
    row_is M4wrap list s h v = record { state = h; push = tt }
    row_is M4exit list s h v = record { state = h; push = m4exit_is list }
    row_is File list s h v = record { state = h; push = tt }
    row_is Line list s h v = record { state = h; push = tt }

    unless_is : (few : Bool) (b : Builtin) (list : List Arg) (s : State) → IsState s → AllByRecursion IsArg list → IsActed (act_unless inner few b list p s)
    unless_is true b list s h v = record { state = h; push = few_is b list }
    unless_is false b list s h v =
        let done : IsActed (row inner b (taken (takes_tokens b) list) p s) = row_is b (taken (takes_tokens b) list) s h (taken_valid (takes_tokens b) list v) in
        record { state = done.state; push = done.push }

    with_is : (d : Def) (name : List ℕ) (list : List Arg) (s : State) → IsState s → AllByRecursion IsArg list → IsActed (act_with inner d name list p s)
    with_is (defs.Text x) name list s h v = record { state = h; push = tt }
    with_is (defs.Builtin b) name list s h v = unless_is (nat_lt (length list) (least_of b)) b list s h v
    with_is (defs.Placeholder x) name list s h v = record { state = h; push = tt }

  goes_is : (list : List Arg) (s : State) → IsState s → AllByRecursion IsArg list → IsInner (goes_on list p s)
  goes_is [] s h v d name = record { state = h; push = tt }
  goes_is (a ∷ rest) s h v d name = with_is (goes_on rest p s) (goes_is rest s h v.1) d name rest s h v.1

  acts : (list : List Arg) (d : Def) (name : List ℕ) (s : State) → IsState s → AllByRecursion IsArg list → IsActed (act d name list p s)
  acts list d name s h v = with_is (goes_on list p s) (goes_is list s h v) d name list s h v

pub act_keeps : (d : Def) (name : List ℕ) (list : List Arg) (p : Place) (s : State) → IsState s
    → AllByRecursion IsArg list → IsState (act d name list p s).state
act_keeps d name list p s h v = (acts p list d name s h v).state

pub act_pushes : (d : Def) (name : List ℕ) (list : List Arg) (p : Place) (s : State) → IsState s
    → AllByRecursion IsArg list → IsPushed ((act d name list p s).effect).push
act_pushes d name list p s h v = (acts p list d name s h v).push
