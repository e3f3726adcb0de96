-- EvalReads: the radix, the width and the value of `eval`, as the code reads them one after the other.
use Rattle.std.proofs.Common.{Bor, ◌≡◌, ◌≢◌, ℕ, ℤ, List, [], ◌∷◌, true, false, Option, Some, None, refl, sym}
use Rattle.std.proofs.Common.{ap, subst, ◌∙◌}
use Rattle.std.specs.Prelude.{IfSome, ◌<◌, ◌≤◌, get_or, length, is_none, option_copied, option_map, slice_get}
use Rattle.std.specs.Option.{MatchOption}
use Rattle.std.proofs.lemmas.Option.{slice_get_past, slice_get_read, slice_get-map}
use Rattle.m4_state.specs.declared.builtin.Builtin.TheVariants.{Eval}
use Rattle.m4_eval.specs.InRadix.{radix_at, in_radix}
use Rattle.m4_builtins.specs.declared.args.Arg.{Arg}
use Rattle.m4_builtins.specs.declared.effect.Effect.{Effect}
use Rattle.m4_builtins.specs.declared.place.Place.{Place}
use Rattle.m4_builtins.specs.Args.{text_of_arg, texts_of, text_at}
use Rattle.m4_builtins.specs.Eval.{with_radix, with_width, with_expression, with_digits}
use Rattle.m4_builtins.specs.Messages.{out_of_range}
use Rattle.m4_builtins.specs.Numeric.{reading_of, number_of_reading, reading_warning, with_number}
use Rattle.m4_builtins.specs.ReadsAs.{ReadsAs}
use Rattle.m4_builtins.specs.Warned.{with_messages}
use Rattle.m4_builtins.proofs.Cases.{if_radix}
use Rattle.m4_builtins.proofs.ReadsOn.{reads_at_once, reads_wrong, reads_no_more, reads_on, reads_number}

-- the third argument as text, by what the look-up says of it
module _ (list : List Arg) where
  third_copied : (o : Option (Bor Arg)) (H : Bor Arg → Type 0)
      → MatchOption o (length list ≤ 2) (λ x. (2 < length list) × H x) → IfSome o (λ x. x.now ≡ get_or list 2 x.now)
      → option_copied o ≡ slice_get list 2
  third_copied None H m i = sym (slice_get_past list 2 m)
  third_copied (Some x) H m i = sym (slice_get_read list (length list) 2 x.now refl m.0 i)

  pub third : (o : Option (Bor Arg)) (H : Bor Arg → Type 0)
      → MatchOption o (length list ≤ 2) (λ x. (2 < length list) × H x) → IfSome o (λ x. x.now ≡ get_or list 2 x.now)
      → option_map text_of_arg (option_copied o) ≡ slice_get (texts_of list) 2
  third o H m i = ap (option_map text_of_arg) (third_copied o H m i) ∙ sym (slice_get-map text_of_arg list 2)

-- the same argument, and the same answer
pub reads_same : {X A : Type 0} (argument : X → (A → Effect) → Effect) (x y : X) (o q : Option A) (before now : Effect) → x ≡ y → o ≡ q
    → ReadsAs (argument x) o before now → ReadsAs (argument y) q before now
reads_same argument x y o q before now same answer r =
    subst (λ z. ReadsAs (argument z) q before now) same (subst (λ z. ReadsAs (argument x) z before now) answer r)

module _ (p : Place) where
  -- what is done with a number as a radix
  abbrev pub radix_of_number : ℤ → (ℕ → Effect) → Effect
  radix_of_number n does = if_radix p does (radix_at n)

  -- a number that is a radix, or none and its warning
  module _ (between now : Effect) where
    pub radix_kept : (o : Option ℕ) → is_none o ≡ false → now ≡ between → ReadsAs (λ does. if_radix p does o) o between now
    radix_kept None h e = cc
    radix_kept (Some radix) h e = subst (ReadsAs (λ does. does radix) (Some radix) between) (sym e) (reads_at_once radix between)

    pub radix_lost : (o : Option ℕ) → is_none o ≡ true → now ≡ with_messages between (out_of_range p) → ReadsAs (λ does. if_radix p does o) o between now
    radix_lost None h e = reads_wrong (out_of_range p) between now e
    radix_lost (Some radix) h e = cc

  -- a text that is not empty is read as a number, and that as a radix
  pub radix_read : (text : List ℕ) (n : ℤ) (before between now : Effect) → text ≢ []
      → Some n ≡ number_of_reading (reading_of text) → between ≡ with_messages before (reading_warning p Eval (reading_of text))
      → ReadsAs (radix_of_number n) (radix_at n) between now → ReadsAs (with_radix p text) (radix_at n) before now
  radix_read [] n before between now some e warned after_it = absurd (some refl)
  radix_read (b ∷ x) n before between now some e warned after_it =
      reads_on (with_number p Eval (reading_of (b ∷ x))) radix_of_number n (radix_at n) before between now
      (reads_number p Eval (reading_of (b ∷ x)) (Some n) before between e warned) after_it

  -- the three of them, and the digits
  module _ (list : List Arg) where
    -- what is read after the radix, and after the width
    abbrev value_after : ℕ → ℕ → (List ℕ → Effect) → Effect
    value_after radix width does = with_expression p (text_at list 0) (λ n. does (in_radix radix width n))

    abbrev width_after : ℕ → (List ℕ → Effect) → Effect
    width_after radix does = with_width p (slice_get (texts_of list) 2) (λ width. value_after radix width does)

    pub width_missing : (radix : ℕ) (before between now : Effect) → ReadsAs (with_radix p (text_at list 1)) (Some radix) before between
        → ReadsAs (with_width p (slice_get (texts_of list) 2)) None between now → ReadsAs (with_digits list p) None before now
    width_missing radix before between now r w =
        reads_on (with_radix p (text_at list 1)) width_after radix None before between now r
        (reads_no_more (with_width p (slice_get (texts_of list) 2)) (value_after radix) between now w)

    value_then : (radix width : ℕ) (o : Option ℤ) (before now : Effect)
        → ReadsAs (with_expression p (text_at list 0)) o before now
        → ReadsAs (value_after radix width) (option_map (in_radix radix width) o) before now
    value_then radix width None before now v = reads_no_more (with_expression p (text_at list 0)) (λ n does. does (in_radix radix width n)) before now v
    value_then radix width (Some n) before now v =
        reads_on (with_expression p (text_at list 0)) (λ m does. does (in_radix radix width m)) n
        (Some (in_radix radix width n)) before now now v (reads_at_once (in_radix radix width n) now)

    pub digits_read : (radix width : ℕ) (o : Option ℤ) (before first second now : Effect) → ReadsAs (with_radix p (text_at list 1)) (Some radix) before first
        → ReadsAs (with_width p (slice_get (texts_of list) 2)) (Some width) first second → ReadsAs (with_expression p (text_at list 0)) o second now
        → ReadsAs (with_digits list p) (option_map (in_radix radix width) o) before now
    digits_read radix width o before first second now r w v =
        reads_on (with_radix p (text_at list 1)) width_after radix (option_map (in_radix radix width) o) before first now r
        (reads_on (with_width p (slice_get (texts_of list) 2)) (value_after radix) width (option_map (in_radix radix width) o) first second now w
        (value_then radix width o second now v))
