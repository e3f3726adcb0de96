-- RowsTaken: a builtin reads its arguments alike, whether their definitions were emptied before or
-- count as empty as they are read. So a call does what the row does with the arguments as they are.
use Rattle.std.proofs.Common.{◌≡◌, ℕ, suc, Bool, true, false, List, [], ◌∷◌, ◌++◌, Option, Some, None, map, length}
use Rattle.std.proofs.Common.{refl, sym, ap, ◌∙◌}
use Rattle.std.specs.Prelude.{slice_get, nat_lt, flat_map, filter_map, pos}
use Rattle.std.specs.Fmt.{decimal, signed_decimal}
use Rattle.std.specs.Int.{w32, int_wrapping_add, int_wrapping_sub}
use Rattle.m4_state.specs.declared.builtin.Builtin.{Builtin}
use Rattle.m4_state.specs.declared.builtin.Builtin.TheVariants.{Define, Undefine, Pushdef, Popdef, Defn, Indir}
use Rattle.m4_state.specs.declared.builtin.Builtin.TheVariants.{IndirBuiltin, Ifdef, Ifelse, Shift, Dumpdef, Dnl}
use Rattle.m4_state.specs.declared.builtin.Builtin.TheVariants.{Changequote, Changecom, Divert, Undivert, Divnum, Len}
use Rattle.m4_state.specs.declared.builtin.Builtin.TheVariants.{Index, Substr, Translit, Incr, Decr, Eval, Errprint}
use Rattle.m4_state.specs.declared.builtin.Builtin.TheVariants.{M4wrap, M4exit, File, Line}
use Rattle.m4_state.specs.declared.definition.Def.{Def}
use Rattle.m4_state.specs.Columns.{takes_tokens, least_of, most_of}
use Rattle.m4_state.specs.State.{State, popped, undefined, with_quotes, with_comments, top_of}
use Rattle.m4_eval.specs.InRadix.{in_radix}
use Rattle.m4_builtins.specs.declared.args.Arg.{Arg}
use Rattle.m4_builtins.specs.declared.effect.Effect.{Effect}
use Rattle.m4_builtins.specs.declared.number.Reading.{Reading}
use Rattle.m4_builtins.specs.declared.place.Place.{Place}
use Rattle.m4_builtins.specs.Args.{text_of_arg, texts_of, text_at, with_spaces}
use Rattle.m4_builtins.proofs.Cases.{or_empty}
use Rattle.m4_builtins.specs.Acted.{Acted, nothing, expands, only_warning, warning_first, leaves, changes}
use Rattle.m4_builtins.specs.Messages.{excess}
use Rattle.m4_builtins.specs.Numeric.{reading_of, number_of_reading, reading_warning, with_number}
use Rattle.m4_builtins.specs.Subst.{all_quoted}
use Rattle.m4_builtins.specs.Naming.{for_each, defn, text_given, left_out}
use Rattle.m4_builtins.specs.Branching.{ifdef, ifelse, chosen_text, has_extra, shift}
use Rattle.m4_builtins.specs.Delimiting.{changequote}
use Rattle.m4_builtins.specs.Diverting.{divert, undivert, readings_of, brings_back}
use Rattle.m4_builtins.specs.Printing.{dumpdef}
use Rattle.m4_builtins.specs.Texts.{place_in, substr}
use Rattle.m4_builtins.specs.Translit.{ranges, translated}
use Rattle.m4_builtins.specs.Ending.{m4exit}
use Rattle.m4_builtins.specs.Eval.{with_radix, with_width, with_expression, eval}
use Rattle.m4_builtins.specs.Indirect.{Inner}
use Rattle.m4_builtins.specs.Act.{row, is_above}
use Rattle.m4_builtins.proofs.Cases.{only_text, warned, excess_if, taken, act_unless, ifdef_by, extra_warning, place_shown, dumped}

texts_taken : (list : List Arg) → texts_of (map only_text list) ≡ texts_of list
texts_taken [] = refl
texts_taken (a ∷ list) = ap (λ (texts : List (List ℕ)). text_of_arg a ∷ texts) (texts_taken list)

text_taken : (list : List Arg) (n : ℕ) → text_at (map only_text list) n ≡ text_at list n
text_taken list n = ap (λ (texts : List (List ℕ)). or_empty (slice_get texts n)) (texts_taken list)

length_taken : (list : List Arg) → length (map only_text list) ≡ length list
length_taken [] = refl
length_taken (a ∷ list) = ap (λ (n : ℕ). suc n) (length_taken list)

each_taken : (change : State → List ℕ → State) (list : List Arg) (s : State) → for_each change (map only_text list) s ≡ for_each change list s
each_taken change [] s = refl
each_taken change (a ∷ list) s = each_taken change list (change s (text_of_arg a))

changequote_taken : (list : List Arg) (s : State) → changequote (map only_text list) s ≡ changequote list s
changequote_taken [] s = refl
changequote_taken (a ∷ rest) s = ap (λ (end : List ℕ). with_quotes s (text_of_arg a) end) (text_taken rest 0)

-- several names of `defn`
abbrev several : Place → State → List (List ℕ) → Effect
several p s names =
    warning_first (flat_map (left_out p) (map (top_of s) names))
    (expands (flat_map (text_given s.quotes) (map (top_of s) names)))

defn_taken : (list : List Arg) (p : Place) (s : State) → defn (map only_text list) p s ≡ defn list p s
defn_taken [] p s = refl
defn_taken (a ∷ []) p s = refl
defn_taken (a ∷ b ∷ rest) p s = ap (λ (texts : List (List ℕ)). several p s (text_of_arg a ∷ text_of_arg b ∷ texts)) (texts_taken rest)

dumpdef_taken : (list : List Arg) (p : Place) (s : State) → dumpdef (map only_text list) p s ≡ dumpdef list p s
dumpdef_taken [] p s = refl
dumpdef_taken (a ∷ rest) p s = ap (λ (texts : List (List ℕ)). only_warning (dumped (text_of_arg a ∷ texts) p s)) (texts_taken rest)

ifdef_by_taken : (o : Option Def) (list : List Arg) → ifdef_by o (map only_text list) ≡ ifdef_by o list
ifdef_by_taken None list = text_taken list 2
ifdef_by_taken (Some d) list = text_taken list 1

ifdef_taken : (list : List Arg) (s : State) → ifdef (map only_text list) s ≡ ifdef list s
ifdef_taken list s =
    ap (λ (name : List ℕ). expands (ifdef_by (top_of s name) (map only_text list))) (text_taken list 0)
    ∙ ap (λ (x : List ℕ). expands x) (ifdef_by_taken (top_of s (text_at list 0)) list)

ifelse_taken : (list : List Arg) (p : Place) → ifelse (map only_text list) p ≡ ifelse list p
ifelse_taken [] p = refl
ifelse_taken (a ∷ []) p = refl
ifelse_taken (a ∷ b ∷ []) p = refl
ifelse_taken (a ∷ b ∷ c ∷ rest) p = λ i.
    warning_first (extra_warning p (has_extra (suc (suc (suc (length_taken rest i))))))
    (expands (chosen_text (text_of_arg a ∷ text_of_arg b ∷ text_of_arg c ∷ texts_taken rest i)))

shift_taken : (list : List Arg) (s : State) → shift (map only_text list) s ≡ shift list s
shift_taken [] s = refl
shift_taken (a ∷ rest) s = ap (λ (texts : List (List ℕ)). expands (all_quoted s.quotes texts)) (texts_taken rest)

divert_taken : (list : List Arg) (p : Place) (s : State) → divert (map only_text list) p s ≡ divert list p s
divert_taken [] p s = refl
divert_taken (a ∷ rest) p s = refl

readings_taken : (list : List Arg) → readings_of (map only_text list) ≡ readings_of list
readings_taken [] = refl
readings_taken (a ∷ list) = ap (λ (rs : List Reading). reading_of (text_of_arg a) ∷ rs) (readings_taken list)

undivert_taken : (list : List Arg) (p : Place) (s : State) → undivert (map only_text list) p s ≡ undivert list p s
undivert_taken [] p s = refl
undivert_taken (a ∷ rest) p s =
    ap (λ (rs : List Reading). brings_back (filter_map number_of_reading rs) (flat_map (reading_warning p Undivert) rs) s) (readings_taken (a ∷ rest))

substr_taken : (list : List Arg) (p : Place) → substr (map only_text list) p ≡ substr list p
substr_taken [] p = refl
substr_taken (a ∷ []) p = refl
substr_taken (a ∷ b ∷ []) p = refl
substr_taken (a ∷ b ∷ c ∷ rest) p = refl

eval_taken : (list : List Arg) (p : Place) → eval (map only_text list) p ≡ eval list p
eval_taken list p = λ i.
    with_radix p (text_taken list 1 i)
    (λ radix. with_width p (slice_get (texts_taken list i) 2)
    (λ width. with_expression p (text_taken list 0 i)
    (λ n. expands (in_radix radix width n))))

m4exit_taken : (list : List Arg) (p : Place) → m4exit (map only_text list) p ≡ m4exit list p
m4exit_taken [] p = refl
m4exit_taken (a ∷ rest) p = refl

pub row_taken : (inner : Inner) (b : Builtin) (list : List Arg) (p : Place) (s : State) → row inner b (taken (takes_tokens b) list) p s ≡ row inner b list p s
row_taken inner Define list p s = refl
row_taken inner Undefine list p s = ap changes (each_taken undefined list s)
row_taken inner Pushdef list p s = refl
row_taken inner Popdef list p s = ap changes (each_taken popped list s)
row_taken inner Defn list p s = ap (leaves s) (defn_taken list p s)
row_taken inner Indir list p s = refl
row_taken inner IndirBuiltin list p s = refl
row_taken inner Ifdef list p s = ap (leaves s) (ifdef_taken list s)
row_taken inner Ifelse list p s = ap (leaves s) (ifelse_taken list p)
row_taken inner Shift list p s = ap (leaves s) (shift_taken list s)
row_taken inner Dumpdef list p s = ap (leaves s) (dumpdef_taken list p s)
row_taken inner Dnl list p s = refl
row_taken inner Changequote list p s = ap changes (changequote_taken list s)
row_taken inner Changecom list p s = λ i. changes (with_comments s (text_taken list 0 i) (text_taken list 1 i))
row_taken inner Divert list p s = divert_taken list p s
row_taken inner Undivert list p s = undivert_taken list p s
row_taken inner Divnum list p s = refl
row_taken inner Len list p s = ap (λ (x : List ℕ). leaves s (expands (decimal (length x)))) (text_taken list 0)
row_taken inner Index list p s = λ i. leaves s (expands (place_shown (place_in (text_taken list 0 i) (text_taken list 1 i))))
row_taken inner Substr list p s = ap (leaves s) (substr_taken list p)
row_taken inner Translit list p s = λ i. leaves s (expands (translated (text_taken list 0 i) (ranges (text_taken list 1 i)) (ranges (text_taken list 2 i))))
row_taken inner Incr list p s = ap (λ (x : List ℕ). leaves s
    (with_number p Incr (reading_of x) (λ n. expands (signed_decimal (int_wrapping_add w32 n (pos 1)))))) (text_taken list 0)
row_taken inner Decr list p s = ap (λ (x : List ℕ). leaves s
    (with_number p Decr (reading_of x) (λ n. expands (signed_decimal (int_wrapping_sub w32 n (pos 1)))))) (text_taken list 0)
row_taken inner Eval list p s = ap (leaves s) (eval_taken list p)
row_taken inner Errprint list p s = ap (λ (texts : List (List ℕ)). leaves s (only_warning (with_spaces texts))) (texts_taken list)
row_taken inner M4wrap list p s = ap (λ (texts : List (List ℕ)). leaves s (record nothing { wrap = Some (with_spaces texts) })) (texts_taken list)
row_taken inner M4exit list p s = ap (leaves s) (m4exit_taken list p)
row_taken inner File list p s = refl
row_taken inner Line list p s = refl

-- with arguments that are enough, and not too many
pub acts_plainly : (inner : Inner) (b : Builtin) (list : List Arg) (p : Place) (s : State)
    → nat_lt (length list) (least_of b) ≡ false → is_above (most_of b) (length list) ≡ false
    → act_unless inner (nat_lt (length list) (least_of b)) b list p s ≡ row inner b list p s
acts_plainly inner b list p s enough is =
    ap (λ (few : Bool). act_unless inner few b list p s) enough
    ∙ ap (λ (r : Acted). warned (excess_if (is_above (most_of b) (length list)) p b) r) (row_taken inner b list p s)
    ∙ ap (λ (more : Bool). warned (excess_if more p b) (row inner b list p s)) is

module _ (inner : Inner) (b : Builtin) (list : List Arg) (p : Place) (s t : State) (e : Effect)
    (enough : nat_lt (length list) (least_of b) ≡ false) (does : row inner b list p s ≡ leaves t e) where
  acts : (above : Bool) → is_above (most_of b) (length list) ≡ above
      → act_unless inner (nat_lt (length list) (least_of b)) b list p s ≡ warned (excess_if above p b) (leaves t e)
  acts above is =
      ap (λ (few : Bool). act_unless inner few b list p s) enough
      ∙ ap (λ (r : Acted). warned (excess_if (is_above (most_of b) (length list)) p b) r) (row_taken inner b list p s ∙ does)
      ∙ ap (λ (more : Bool). warned (excess_if more p b) (leaves t e)) is

  -- arguments above the most
  pub acts_warning : (f : Effect) → is_above (most_of b) (length list) ≡ true
      → f ≡ record e { messages = excess p b ++ e.messages }
      → act_unless inner (nat_lt (length list) (least_of b)) b list p s ≡ leaves t f
  acts_warning f is made = acts true is ∙ ap (leaves t) (sym made)
