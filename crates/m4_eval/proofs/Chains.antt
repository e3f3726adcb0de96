-- Chains: literals and operators, with white space around them, lead from one place to the next.
use Rattle.std.proofs.Common.{◌≡◌, ◌<◌, ◌≤◌, ℕ, zero, suc, ℤ, pos, Bool, true, false, cond, List, [], ◌∷◌, Option}
use Rattle.std.proofs.Common.{Some, None, option_map, option_and_then, drop, length, refl, sym, ap, ◌∙◌, arith}
use Rattle.std.proofs.Common.{true≢false}
use Rattle.std.specs.Prelude.{◌==◌, ◌||◌}
use Rattle.std.proofs.lemmas.Bool.{ne_eqb, lt-ltb}
use Rattle.std.proofs.lemmas.Option.{none-some}
use Rattle.m4_input.specs.Ascii.{open_parenthesis, close_parenthesis, is_space}
use Rattle.m4_input.specs.Token.{run_length}
use Rattle.m4_eval.specs.declared.frame.Frame.{Frame}
use Rattle.m4_eval.specs.declared.operator.Operator.{Operator}
use Rattle.m4_eval.specs.declared.value.Value.{Value}
use Rattle.m4_eval.specs.declared.value.Value.TheVariants.{Number}
use Rattle.m4_eval.specs.ReadExpression.{literal_at, sign_at, operator_at, is_alphanumeric, run_of, is_either}
use Rattle.m4_eval.specs.ReadExpression.{in_radix_from}
use Rattle.m4_eval.specs.EvaluateSteps.{Place, with_signs, after_step, alone, closed_place, operated_place}
use Rattle.m4_eval.specs.EvaluateSteps.{joined_while, values_from}
use Rattle.m4_eval.specs.Expression.{level_of}
use Rattle.m4_eval.specs.GrammarView.{place}
use Rattle.m4_eval.specs.ChainView.{frames_of}
use Rattle.m4_eval.proofs.Symbols.{space_below}
use Rattle.m4_eval.specs.LexerView.{bits_after}
use Rattle.std.specs.Char.{digit_value, is_digit}
use Rattle.m4_eval.proofs.Numbers.{small, from_digit_is}
use Rattle.m4_eval.proofs.Operands.{in_bits, operand_is, stepped, turn}

-- white space does not change the place
pub spaces_skipped : (p : Place) (x : List ℕ) → values_from zero p (drop (run_length is_space x) x) ≡ values_from zero p x
spaces_skipped p [] = refl
spaces_skipped p (b ∷ x) = go (spaces_skipped p x) (is_space b) refl
  where
    rest : Bool → List ℕ
    rest t = drop (elim t [ true ↦ suc (run_length is_space x) | false ↦ 0 ]) (b ∷ x)

    go : values_from zero p (drop (run_length is_space x) x) ≡ values_from zero p x
        → (t : Bool) → is_space b ≡ t → values_from zero p (rest (is_space b)) ≡ values_from zero p (b ∷ x)
    go again true e = ap (λ t. values_from zero p (rest t)) e ∙ again ∙ sym (ap (turn p b x) e)
    go again false e = ap (λ t. values_from zero p (rest t)) e

-- a digit is neither white space nor a parenthesis nor a sign
digit_no_space : (b : ℕ) → 48 ≤ b → is_space b ≡ false
digit_no_space b l = go (is_space b) refl
  where
    go : (t : Bool) → is_space b ≡ t → is_space b ≡ false
    go true e = let m = space_below b e in absurd (omega (arith, l, m))
    go false e = e

digit_no_parenthesis : (b : ℕ) → 48 ≤ b → (b == open_parenthesis) ≡ false
digit_no_parenthesis b l = ne_eqb b open_parenthesis (λ e. omega (arith, e, l))

digit_no_sign : (b : ℕ) → 48 ≤ b → b ≤ 57 → sign_at b ≡ None
digit_no_sign b l m =
    rw (
      ne_eqb b 43 (λ e. omega (arith, e, l)),
      ne_eqb b 45 (λ e. omega (arith, e, l)),
      ne_eqb b 126 (λ e. omega (arith, e, m)),
      ne_eqb b 33 (λ e. omega (arith, e, l)),
    ) refl

-- a literal is an operand, after which the open signs are applied
pub literal_read : (w : List Frame) (b k : ℕ) (x y : List ℕ) (z : ℤ) → 48 ≤ b → b ≤ 57
    → Some (z, k) ≡ option_map in_bits (literal_at b x) → y ≡ drop k x
    → values_from zero (with_signs w (Number z)) y ≡ values_from zero (place w None) (b ∷ x)
literal_read w b k x y z l m e d =
    stepped (place w None) (with_signs w (Number z)) b k x y (digit_no_space b l)
    (operand_is w b x (Some (z, k)) (digit_no_parenthesis b l) (digit_no_sign b l m) e) d

pub digit_below : (b : ℕ) → 48 ≤ b → b ≤ 57 → digit_value b < 10
digit_below b l m = grind arith

-- the same for a decimal one, by the digits after the first
pub decimal_read : (w : List Frame) (b : ℕ) (x y : List ℕ) (z : ℤ) → 48 ≤ b → b ≤ 57 → (b == 48) ≡ false
    → digit_value b < 10 → bits_after 10 (pos (digit_value b)) (run_of x) ≡ Some z → y ≡ drop (length (run_of x)) x
    → values_from zero (place w None) (b ∷ x) ≡ values_from zero (with_signs w (Number z)) y
decimal_read w b x y z l m n d h e =
    let t : is_digit b 10 ≡ true = lt-ltb (digit_value b) 10 d in
    let at : literal_at b x ≡ in_radix_from 10 b x = rw (n, t) refl in
    let f = from_digit_is 10 b x (run_of x) (Some z) (omega arith) t (omega (arith, d)) refl (sym h) in
    sym (literal_read w b (length (run_of x)) x y z l m (f ∙ ap (option_map in_bits) (sym at)) e)

no_letter : (c d : ℕ) → is_alphanumeric c ≡ false → is_alphanumeric d ≡ true → (c == d) ≡ false
no_letter c d n t = ne_eqb c d (λ e. true≢false (sym t ∙ ap is_alphanumeric (sym e) ∙ n))

neither : (c small capital : ℕ) → (c == small) ≡ false → (c == capital) ≡ false → is_either c small capital ≡ false
neither c small capital e f = ap (λ t. t || (c == capital)) e ∙ f

-- the same with white space around the literal
pub operand_read : (w : List Frame) (text begin : List ℕ) (b : ℕ) (x y rest : List ℕ) (z : ℤ)
    → begin ≡ drop (run_length is_space text) text → begin ≡ b ∷ x
    → values_from zero (place w None) (b ∷ x) ≡ values_from zero (with_signs w (Number z)) y
    → rest ≡ drop (run_length is_space y) y
    → values_from zero (place w None) text ≡ values_from zero (with_signs w (Number z)) rest
operand_read w text begin b x y rest z g f e r =
    let p = place w None in
    let q = with_signs w (Number z) in
    sym (spaces_skipped p text) ∙ ap (values_from zero p) (sym g ∙ f)
    ∙ e ∙ sym (spaces_skipped q y) ∙ ap (values_from zero q) (sym r)

-- no operator begins with white space or with a parenthesis
operator_no_space : (b : ℕ) (x : List ℕ) (o : Operator × ℕ) → operator_at b x ≡ Some o → is_space b ≡ false
operator_no_space b x o h = go (is_space b) refl
  where
    low : b ≤ 32 → operator_at b x ≡ None
    low l =
        rw (
          ne_eqb b 42 (λ e. omega (arith, e, l)),
          ne_eqb b 47 (λ e. omega (arith, e, l)),
          ne_eqb b 37 (λ e. omega (arith, e, l)),
          ne_eqb b 43 (λ e. omega (arith, e, l)),
          ne_eqb b 45 (λ e. omega (arith, e, l)),
          ne_eqb b 60 (λ e. omega (arith, e, l)),
          ne_eqb b 62 (λ e. omega (arith, e, l)),
          ne_eqb b 61 (λ e. omega (arith, e, l)),
          ne_eqb b 33 (λ e. omega (arith, e, l)),
          ne_eqb b 38 (λ e. omega (arith, e, l)),
          ne_eqb b 94 (λ e. omega (arith, e, l)),
          ne_eqb b 124 (λ e. omega (arith, e, l)),
        ) refl

    go : (t : Bool) → is_space b ≡ t → is_space b ≡ false
    go true e = absurd (none-some o (sym (low (space_below b e)) ∙ h))
    go false e = e

operator_no_parenthesis : (b : ℕ) (x : List ℕ) (o : Operator × ℕ) → operator_at b x ≡ Some o → (b == close_parenthesis) ≡ false
operator_no_parenthesis b x o h =
    ne_eqb b close_parenthesis (λ e. none-some o (sym (ap (λ c. operator_at c x) e) ∙ h))

-- the step at a byte after an operand, by whether it is a parenthesis and by the operator that begins with it
abbrev operator_case : List Frame → Value → Bool → Option (Operator × ℕ) → Option (Place × ℕ)
operator_case w a t o =
    cond t (option_and_then (λ r. Some (r, 0)) (closed_place (joined_while 1 w a)))
    (option_and_then (λ p. Some (operated_place p.0 (joined_while (level_of p.0) w a), p.1)) o)

-- an operator makes of the operand, joined with the open left operands, an open left operand
pub operator_read : (w v : List Frame) (a d : Value) (o : Operator) (b k : ℕ) (x y : List ℕ)
    → operator_at b x ≡ Some (o, k) → joined_while (level_of o) w a ≡ (v, d) → y ≡ drop k x
    → values_from zero (operated_place o (v, d)) y ≡ values_from zero (place w (Some a)) (b ∷ x)
operator_read w v a d o b k x y h j e =
    let n = operator_no_parenthesis b x (o, k) h in
    let step : after_step w a b x ≡ Some (operated_place o (v, d), k) =
    ap (λ t. operator_case w a t (operator_at b x)) n ∙ ap (operator_case w a false) h
    ∙ ap (λ q. Some (operated_place o q, k)) j in
    stepped (place w (Some a)) (operated_place o (v, d)) b k x y (operator_no_space b x (o, k) h) step e

-- there is no sign before the operands of a chain
no_sign_left : (l : Option (Value × Operator)) (a : Value) → with_signs (frames_of l) a ≡ place (frames_of l) (Some a)
no_sign_left None a = refl
no_sign_left (Some l) a = refl

-- a literal of a chain leads to the place after its operand
pub operand_left : (l : Option (Value × Operator)) (text rest : List ℕ) (z : ℤ)
    → ((w : List Frame) → values_from zero (place w None) text ≡ values_from zero (with_signs w (Number z)) rest)
    → values_from zero (place (frames_of l) None) text ≡ values_from zero (place (frames_of l) (Some (Number z))) rest
operand_left l text rest z h = h (frames_of l) ∙ ap (λ p. values_from zero p rest) (no_sign_left l (Number z))

-- at the end the operand is joined with all open left operands
pub chain_ended : (w : List Frame) (a v : Value) (x : List ℕ) → length x ≡ 0 → joined_while 1 w a ≡ ([], v)
    → values_from zero (place w (Some a)) x ≡ Some v
chain_ended w a v [] h j = ap alone j
chain_ended w a v (b ∷ x) h j = absurd (omega (arith, h))
