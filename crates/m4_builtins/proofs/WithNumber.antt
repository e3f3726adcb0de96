-- WithNumber: what is done with a number that may be missing, by the number itself and by the warning
-- that its reading gives.
use Rattle.std.proofs.Common.{◌≡◌, ℕ, List, Option, Some, None, refl, sym, ap, ◌∙◌, append-nil}
use Rattle.std.specs.Prelude.{ℤ}
use Rattle.m4_state.specs.declared.builtin.Builtin.{Builtin}
use Rattle.m4_input.specs.declared.pushed.Pushed.TheVariants as pushes
use Rattle.m4_builtins.specs.declared.effect.Effect.{Effect}
use Rattle.m4_builtins.specs.declared.number.Reading.{Reading}
use Rattle.m4_builtins.specs.declared.number.Reading.TheVariants.{Number, Empty, NotNumeric}
use Rattle.m4_builtins.specs.declared.place.Place.{Place}
use Rattle.m4_builtins.specs.Acted.{nothing, only_warning, expands, warning_first}
use Rattle.m4_builtins.specs.Numeric.{number_of_reading, reading_warning, with_number}

-- a call that expands to a text, with messages
abbrev pub expands_with_messages : List ℕ → List ℕ → Effect
expands_with_messages x messages = record nothing { push = Some (pushes.Text x); messages = messages }

module _ (p : Place) (b : Builtin) where
  module _ (does : ℤ → Effect) where
    -- by the number that was read, if there is one
    abbrev by_number : Option ℤ → Reading → Effect
    by_number None r = only_warning (reading_warning p b r)
    by_number (Some n) r = warning_first (reading_warning p b r) (does n)

    by_reading : (r : Reading) → with_number p b r does ≡ by_number (number_of_reading r) r
    by_reading (Number n) = refl
    by_reading Empty = refl
    by_reading NotNumeric = refl

    -- with the number that was read
    pub with_number-some : (r : Reading) (n : ℤ) → Some n ≡ number_of_reading r → with_number p b r does ≡ warning_first (reading_warning p b r) (does n)
    with_number-some r n e = by_reading r ∙ ap (λ (o : Option ℤ). by_number o r) (sym e)

    -- without a number
    pub with_number-none : (r : Reading) → None ≡ number_of_reading r → with_number p b r does ≡ only_warning (reading_warning p b r)
    with_number-none r e = by_reading r ∙ ap (λ (o : Option ℤ). by_number o r) (sym e)

  -- with the number that was read, where the call expands to a text
  pub with_number-expands : (text : ℤ → List ℕ) (r : Reading) (n : ℤ) (messages : List ℕ) → Some n ≡ number_of_reading r → messages ≡ reading_warning p b r
      → with_number p b r (λ m. expands (text m)) ≡ expands_with_messages (text n) messages
  with_number-expands text r n messages e warned =
      with_number-some (λ m. expands (text m)) r n e
      ∙ ap (λ (x : List ℕ). expands_with_messages (text n) x) (append-nil (reading_warning p b r) ∙ sym warned)
