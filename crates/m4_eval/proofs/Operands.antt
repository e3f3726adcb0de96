-- Operands: a step at a byte before an operand, from the code's literals.
use Rattle.std.proofs.Common.{◌≡◌, ℕ, zero, suc, ℤ, pos, Bool, true, false, cond, List, [], ◌∷◌, Option, Some, None}
use Rattle.std.proofs.Common.{option_map, option_and_then, drop, refl, sym, ap, ◌∙◌}
use Rattle.std.specs.Prelude.{◌==◌}
use Rattle.m4_input.specs.Ascii.{open_parenthesis, is_space}
use Rattle.m4_eval.specs.declared.frame.Frame.{Frame}
use Rattle.m4_eval.specs.declared.frame.Frame.TheVariants.{Opened, Prefixed}
use Rattle.m4_eval.specs.declared.operator.Sign.{Sign}
use Rattle.m4_eval.specs.declared.value.Value.{Value}
use Rattle.m4_eval.specs.declared.value.Value.TheVariants.{Number}
use Rattle.m4_eval.specs.Value.{wrapped}
use Rattle.m4_eval.specs.ReadExpression.{literal_at, sign_at}
use Rattle.m4_eval.specs.EvaluateSteps.{Place, with_signs, before_step, step_from, values_from}

-- a literal's number, in 32 bits
abbrev pub in_bits : ℕ × ℕ → ℤ × ℕ
in_bits n = (wrapped (pos n.0), n.1)

-- an operand by its value
abbrev operand_of : List Frame → Option (ℤ × ℕ) → Option (Place × ℕ)
operand_of w o = option_and_then (λ n. Some (with_signs w (Number n.0), n.1)) o

abbrev operand_case : List Frame → ℕ → List ℕ → Bool → Option Sign → Option (Place × ℕ)
operand_case w b x t s =
    cond t (Some (record { waiting = Opened ∷ w; current = None }, 0)) (elim s [
      | Some s ↦ Some (record { waiting = Prefixed s ∷ w; current = None }, 0)
      | None ↦ option_and_then (λ n. Some (with_signs w (Number (wrapped (pos n.0))), n.1)) (literal_at b x)
    ])

in_bits_first : (w : List Frame) (o : Option (ℕ × ℕ))
    → option_and_then (λ n. Some (with_signs w (Number (wrapped (pos n.0))), n.1)) o ≡ operand_of w (option_map in_bits o)
in_bits_first w None = refl
in_bits_first w (Some n) = refl

pub operand_is : (w : List Frame) (b : ℕ) (x : List ℕ) (r : Option (ℤ × ℕ)) → (b == open_parenthesis) ≡ false → sign_at b ≡ None
    → r ≡ option_map in_bits (literal_at b x) → before_step w b x ≡ operand_of w r
operand_is w b x r f g h =
    ap (λ t. operand_case w b x t (sign_at b)) f ∙ ap (operand_case w b x false) g
    ∙ in_bits_first w (literal_at b x) ∙ ap (operand_of w) (sym h)

-- no sign was found
pub no_sign : (o : Option Sign) → ((s : Sign) → o ≡ Some s → ⊥) → o ≡ None
no_sign None h = refl
no_sign (Some s) h = absurd (h s refl)

-- the bytes that a token took are after it
pub after_token : (k : ℕ) (p : Place) (x : List ℕ) → values_from k p x ≡ values_from zero p (drop k x)
after_token zero p x = refl
after_token (suc k) p [] = refl
after_token (suc k) p (b ∷ x) = after_token k p x

-- a byte, by whether it is white space
abbrev pub turn : Place → ℕ → List ℕ → Bool → Option Value
turn p b x t =
    elim t [
      | true ↦ values_from zero p x
      | false ↦ option_and_then (λ q. values_from q.1 q.0 x) (step_from p.current p.waiting b x)
    ]

-- a token leads from one place to another
pub stepped : (p q : Place) (b k : ℕ) (x y : List ℕ) → is_space b ≡ false
    → step_from p.current p.waiting b x ≡ Some (q, k) → y ≡ drop k x
    → values_from zero q y ≡ values_from zero p (b ∷ x)
stepped p q b k x y f g h =
    ap (values_from zero q) h ∙ sym (after_token k q x)
    ∙ sym (ap (turn p b x) f ∙ ap (option_and_then (λ q. values_from q.1 q.0 x)) g)
