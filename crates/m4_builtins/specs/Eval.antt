-- Eval: the builtin that computes an expression. m4_eval defines expressions and their values. Its point is `eval`.
-- Believed. Manual: "Evaluating integer expressions".
-- Words: with_radix, with_width, with_expression, with_digits, eval.
-- own: the radix is read first, then the width, then the expression; the first invalid one ends the
-- call. An empty radix is 10 without a warning; an empty width or expression is 0, with one.
use Rattle.std.specs.Prelude.{ℕ, ℤ, pos, negsuc, List, [], ◌∷◌, Option, Some, None, slice_get, if◌then◌else◌}
use Rattle.std.specs.List.{list_all}
use Rattle.m4_state.specs.declared.builtin.Builtin.TheVariants.{Eval}
use Rattle.m4_input.specs.Ascii.{is_space}
use Rattle.m4_eval.specs.declared.evaluate.Evaluated.{Evaluated}
use Rattle.m4_eval.specs.declared.evaluate.Evaluated.TheVariants.{Value, DivideByZero, BadExpression}
use Rattle.m4_eval.specs.Evaluated.{evaluated}
use Rattle.m4_eval.specs.InRadix.{radix_at, in_radix}
use Rattle.m4_builtins.specs.declared.args.Arg.{Arg}
use Rattle.m4_builtins.specs.declared.effect.Effect.{Effect}
use Rattle.m4_builtins.specs.declared.place.Place.{Place}
use Rattle.m4_builtins.specs.Args.{texts_of, text_at}
use Rattle.m4_builtins.specs.Acted.{only_warning, expands, warning_first}
use Rattle.m4_builtins.specs.Messages.{empty_number, divide_by_zero, bad_expression, out_of_range}
use Rattle.m4_builtins.specs.Numeric.{reading_of, with_number}

-- continues with the radix, which is 10 if its argument is missing or empty
abbrev pub with_radix : Place → List ℕ → (ℕ → Effect) → Effect
with_radix p [] does = does 10
with_radix p (b ∷ x) does =
    with_number p Eval (reading_of (b ∷ x))
    (λ n. elim (radix_at n) [ None ↦ only_warning (out_of_range p) | Some radix ↦ does radix ])

-- continues with the width, the minimum number of digits: 0 if its argument is missing; a negative one is out of range
abbrev pub with_width : Place → Option (List ℕ) → (ℕ → Effect) → Effect
with_width p None does = does 0
with_width p (Some x) does =
    with_number p Eval (reading_of x) (λ z. elim z [ pos n ↦ does n | negsuc n ↦ only_warning (out_of_range p) ])

-- continues with the value of an expression, if it has one
abbrev pub if_value : Place → (ℤ → Effect) → Evaluated → Effect
if_value p does (Value n) = does n
if_value p does DivideByZero = only_warning (divide_by_zero p)
if_value p does BadExpression = only_warning (bad_expression p)

-- continues with the value of a text, which is 0 if the text is empty or only white space
abbrev pub with_expression : Place → List ℕ → (ℤ → Effect) → Effect
with_expression p x does =
    if list_all is_space x then warning_first (empty_number p Eval) (does (pos 0))
    else if_value p does (evaluated x)

-- continues with the value of the first argument, written in the radix of the second and with the width of the third
abbrev pub with_digits : List Arg → Place → (List ℕ → Effect) → Effect
with_digits list p does =
    with_radix p (text_at list 1)
    (λ radix. with_width p (slice_get (texts_of list) 2)
    (λ width. with_expression p (text_at list 0)
    (λ n. does (in_radix radix width n))))

-- `eval`
abbrev pub eval : List Arg → Place → Effect
eval list p = with_digits list p expands
