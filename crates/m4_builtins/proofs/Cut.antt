-- Cut: what `substr` gives, by the numbers that were read.
use Rattle.std.proofs.Common.{◌≡◌, ℕ, ◌-◌, ◌<◌, ◌≤◌, ℤ, List, [], ◌∷◌, ◌++◌, append-nil, append_assoc, length}
use Rattle.std.proofs.Common.{length-drop, take, drop, get_or, Option, Some, None, refl, sym, ap, ◌∙◌, arith}
use Rattle.std.proofs.lemmas.List.{take_all}
use Rattle.m4_state.specs.declared.builtin.Builtin.TheVariants.{Substr}
use Rattle.m4_input.specs.declared.pushed.Pushed.TheVariants as pushes
use Rattle.m4_builtins.specs.declared.args.Arg.{Arg}
use Rattle.m4_builtins.specs.declared.effect.Effect.{Effect}
use Rattle.m4_builtins.specs.declared.place.Place.{Place}
use Rattle.m4_builtins.specs.Args.{text_of_arg}
use Rattle.m4_builtins.specs.Acted.{nothing, only_warning, expands, warning_first}
use Rattle.m4_builtins.specs.Numeric.{reading_of, number_of_reading, reading_warning, with_number}
use Rattle.m4_builtins.specs.Warned.{with_messages}
use Rattle.m4_builtins.specs.Texts.{substr, from_place, at_most}
use Rattle.m4_builtins.proofs.WithNumber.{with_number-some, with_number-none}

-- the number of an argument, and the warning on it
abbrev pub number_of : Arg → Option ℤ
number_of a = number_of_reading (reading_of (text_of_arg a))

abbrev pub warning_on : Place → Arg → List ℕ
warning_on p a = reading_warning p Substr (reading_of (text_of_arg a))

-- what was read of an argument's text
pub read_of : (o r : Option ℤ) (x : List ℕ) (a : Arg) → o ≡ r → o ≡ number_of_reading (reading_of x) → x ≡ text_of_arg a → r ≡ number_of a
read_of o r x a is read same =
    sym is ∙ read ∙ ap (λ (y : List ℕ). number_of_reading (reading_of y)) same

-- and the effect with the warning on it
pub warned_of : (p : Place) (e f : Effect) (messages x : List ℕ) (a : Arg) → e ≡ only_warning messages
    → f ≡ with_messages e (reading_warning p Substr (reading_of x)) → x ≡ text_of_arg a → f ≡ only_warning (messages ++ warning_on p a)
warned_of p e f messages x a was warned same =
    warned ∙ (λ i. with_messages (was i) (reading_warning p Substr (reading_of (same i))))

-- a part is pushed after warnings
pub pushed_with : (e f : Effect) (warnings text part : List ℕ) → e ≡ only_warning warnings
    → f ≡ record e { push = Some (pushes.Text text) } → text ≡ part → warning_first warnings (expands part) ≡ f
pushed_with e f warnings text part was gives same =
    ap (λ (x : List ℕ). (record nothing { push = Some (pushes.Text part); messages = x })) (append-nil warnings)
    ∙ sym (gives ∙ (λ i. record (was i) { push = Some (pushes.Text (same i)) }))

-- a part of a text, by the arguments after its place
abbrev counted : Place → List Arg → List ℕ → Effect
counted p [] part = expands part
counted p (c ∷ rest) part =
    with_number p Substr (reading_of (text_of_arg c)) (λ count. expands (at_most count part))

-- all that comes after the second
after_second : (list : List Arg) → take (length list - 2) (drop 2 list) ≡ drop 2 list
after_second list = take_all (length list - 2) (drop 2 list) (omega (arith, length-drop 2 list))

module _ (p : Place) where
  counted-none : (counts : List Arg) (part : List ℕ) → length counts < 1 → counted p counts part ≡ expands part
  counted-none [] part none = refl
  counted-none (c ∷ rest) part none = absurd (omega arith)

  counted-some : (counts : List Arg) (c : Arg) (count : ℤ) (part : List ℕ) → 1 ≤ length counts → c ≡ get_or counts 0 c → Some count ≡ number_of c
      → counted p counts part ≡ warning_first (warning_on p c) (expands (at_most count part))
  counted-some [] c count part some is number = absurd (omega arith)
  counted-some (d ∷ rest) c count part some is number =
      ap (λ (a : Arg). counted p (a ∷ rest) part) (sym is)
      ∙ with_number-some p Substr (λ count. expands (at_most count part)) (reading_of (text_of_arg c)) count number

  counted-bad : (counts : List Arg) (c : Arg) (part : List ℕ) → 1 ≤ length counts → c ≡ get_or counts 0 c → None ≡ number_of c
      → counted p counts part ≡ only_warning (warning_on p c)
  counted-bad [] c part some is number = absurd (omega arith)
  counted-bad (d ∷ rest) c part some is number =
      ap (λ (a : Arg). counted p (a ∷ rest) part) (sym is)
      ∙ with_number-none p Substr (λ count. expands (at_most count part)) (reading_of (text_of_arg c)) number

  -- of two arguments or more
  by_counts : (list : List Arg) (a b : Arg) → 2 ≤ length list → a ≡ get_or list 0 a → b ≡ get_or list 1 b
      → substr list p ≡ with_number p Substr (reading_of (text_of_arg b)) (λ from. counted p (drop 2 list) (from_place from (text_of_arg a)))
  by_counts [] a b le first second = absurd (omega arith)
  by_counts (x ∷ []) a b le first second = absurd (omega arith)
  by_counts (x ∷ y ∷ []) a b le first second =
      (λ i. substr (sym first i ∷ sym second i ∷ []) p)
  by_counts (x ∷ y ∷ z ∷ rest) a b le first second =
      (λ i. substr (sym first i ∷ sym second i ∷ z ∷ rest) p)

module _ (p : Place) (list counts : List Arg) (a b : Arg) (le : 2 ≤ length list) (first : a ≡ get_or list 0 a)
    (second : b ≡ get_or list 1 b) (rest : counts ≡ take (length list - 2) (drop 2 list)) where
  by_place : substr list p ≡ with_number p Substr (reading_of (text_of_arg b)) (λ from. counted p counts (from_place from (text_of_arg a)))
  by_place =
      by_counts p list a b le first second
      ∙ ap (λ (cs : List Arg). with_number p Substr (reading_of (text_of_arg b))
      (λ from. counted p cs (from_place from (text_of_arg a)))) (sym (rest ∙ after_second list))

  -- the place is no number
  pub substr-no_place : None ≡ number_of b → substr list p ≡ only_warning (warning_on p b)
  substr-no_place number =
      by_place
      ∙ with_number-none p Substr (λ from. counted p counts (from_place from (text_of_arg a))) (reading_of (text_of_arg b)) number

  module _ (from : ℤ) (place : Some from ≡ number_of b) where
    by_count : substr list p ≡ warning_first (warning_on p b) (counted p counts (from_place from (text_of_arg a)))
    by_count =
        by_place
        ∙ with_number-some p Substr (λ from. counted p counts (from_place from (text_of_arg a))) (reading_of (text_of_arg b)) from place

    -- there is no count
    pub substr-rest : length counts < 1 → substr list p ≡ warning_first (warning_on p b) (expands (from_place from (text_of_arg a)))
    substr-rest none =
        by_count ∙ ap (warning_first (warning_on p b)) (counted-none p counts (from_place from (text_of_arg a)) none)

    -- the count is no number
    pub substr-no_count : (c : Arg) → 1 ≤ length counts → c ≡ get_or counts 0 c → None ≡ number_of c
        → substr list p ≡ warning_first (warning_on p b) (only_warning (warning_on p c))
    substr-no_count c some third number =
        by_count ∙ ap (warning_first (warning_on p b)) (counted-bad p counts c (from_place from (text_of_arg a)) some third number)

    -- both are numbers
    pub substr-counted : (c : Arg) (count : ℤ) → 1 ≤ length counts → c ≡ get_or counts 0 c → Some count ≡ number_of c
        → substr list p ≡ warning_first (warning_on p b ++ warning_on p c) (expands (at_most count (from_place from (text_of_arg a))))
    substr-counted c count some third number =
        by_count
        ∙ ap (warning_first (warning_on p b)) (counted-some p counts c count (from_place from (text_of_arg a)) some third number)
        ∙ ap (λ (x : List ℕ). (record nothing
        { push = Some (pushes.Text (at_most count (from_place from (text_of_arg a)))); messages = x }))
        (sym (append_assoc (warning_on p b) (warning_on p c) []))
