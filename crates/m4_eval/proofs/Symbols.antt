-- Symbols: which bytes begin an operand, and that an operator before one of them is read whole.
use Rattle.std.proofs.Common.{◌≡◌, ℕ, ◌≤◌, ◌<◌, true, false, List, [], ◌∷◌, ◌++◌, length, Some, refl, arith, ◌⊎◌, inl}
use Rattle.std.proofs.Common.{inr}
use Rattle.std.specs.Prelude.{◌==◌, nat_le}
use Rattle.std.proofs.lemmas.Bool.{and_parts, ne_eqb, or_cases, eqb-true, leb-true}
use Rattle.std.specs.Char.{is_digit}
use Rattle.m4_input.specs.Ascii.{is_space, in_range, close_parenthesis}
use Rattle.m4_eval.specs.declared.operator.Sign.{Sign}
use Rattle.m4_eval.specs.declared.operator.Sign.TheVariants.{Positive, Negative, Complement, Not}
use Rattle.m4_eval.specs.declared.operator.Operator.{Operator}
use Rattle.m4_eval.specs.declared.operator.Operator.TheVariants.{Multiply, Divide, Remainder, Add, Subtract}
use Rattle.m4_eval.specs.declared.operator.Operator.TheVariants.{ShiftLeft, ShiftRight, Less, LessOrEqual, Greater}
use Rattle.m4_eval.specs.declared.operator.Operator.TheVariants.{GreaterOrEqual, Equal, NotEqual, BitAnd, BitXor}
use Rattle.m4_eval.specs.declared.operator.Operator.TheVariants.{BitOr, And, Or}
use Rattle.m4_eval.specs.Expression.{byte_of, symbol_of}
use Rattle.m4_eval.specs.ReadExpression.{operator_at, is_alphanumeric}

-- a byte that is not the second of an operator
pub record IsNoSecond (c : ℕ) : Type 0 where
  pub equals : (c == 61) ≡ false
  pub less : (c == 60) ≡ false
  pub greater : (c == 62) ≡ false
  pub and : (c == 38) ≡ false
  pub or : (c == 124) ≡ false

-- the operator at the front is o, and then comes c
pub record AtSymbol (o : Operator) (c : ℕ) (y : List ℕ) : Type 0 where
  pub first : ℕ
  pub more : List ℕ
  pub symbol : symbol_of o ≡ first ∷ more
  pub no_space : is_space first ≡ false
  pub no_close : (first == close_parenthesis) ≡ false
  pub no_letter : is_alphanumeric first ≡ false
  pub read : operator_at first (more ++ c ∷ y) ≡ Some (o, length more)

abbrev symbol_with : (o : Operator) (c : ℕ) (y : List ℕ) (first : ℕ) (more : List ℕ)
    → symbol_of o ≡ first ∷ more → is_space first ≡ false → (first == close_parenthesis) ≡ false
    → is_alphanumeric first ≡ false → operator_at first (more ++ c ∷ y) ≡ Some (o, length more) → AtSymbol o c y
symbol_with o c y first more a b d f e =
    record { first = first; more = more; symbol = a; no_space = b; no_close = d; no_letter = f; read = e }

pub at_symbol : (o : Operator) (c : ℕ) (y : List ℕ) → IsNoSecond c → AtSymbol o c y
at_symbol Multiply c y h = symbol_with Multiply c y 42 [] refl refl refl refl refl
at_symbol Divide c y h = symbol_with Divide c y 47 [] refl refl refl refl refl
at_symbol Remainder c y h = symbol_with Remainder c y 37 [] refl refl refl refl refl
at_symbol Add c y h = symbol_with Add c y 43 [] refl refl refl refl refl
at_symbol Subtract c y h = symbol_with Subtract c y 45 [] refl refl refl refl refl
at_symbol ShiftLeft c y h = symbol_with ShiftLeft c y 60 (60 ∷ []) refl refl refl refl refl
at_symbol ShiftRight c y h = symbol_with ShiftRight c y 62 (62 ∷ []) refl refl refl refl refl
at_symbol Less c y h = symbol_with Less c y 60 [] refl refl refl refl (rw (h.less, h.equals) refl)
at_symbol LessOrEqual c y h = symbol_with LessOrEqual c y 60 (61 ∷ []) refl refl refl refl refl
at_symbol Greater c y h = symbol_with Greater c y 62 [] refl refl refl refl (rw (h.greater, h.equals) refl)
at_symbol GreaterOrEqual c y h = symbol_with GreaterOrEqual c y 62 (61 ∷ []) refl refl refl refl refl
at_symbol Equal c y h = symbol_with Equal c y 61 (61 ∷ []) refl refl refl refl refl
at_symbol NotEqual c y h = symbol_with NotEqual c y 33 (61 ∷ []) refl refl refl refl refl
at_symbol BitAnd c y h = symbol_with BitAnd c y 38 [] refl refl refl refl (rw h.and refl)
at_symbol BitXor c y h = symbol_with BitXor c y 94 [] refl refl refl refl refl
at_symbol BitOr c y h = symbol_with BitOr c y 124 [] refl refl refl refl (rw h.or refl)
at_symbol And c y h = symbol_with And c y 38 (38 ∷ []) refl refl refl refl refl
at_symbol Or c y h = symbol_with Or c y 124 (124 ∷ []) refl refl refl refl refl

-- a byte below 60 is no second byte but `&`
by_bounds : (c : ℕ) → c < 60 → (c == 38) ≡ false → IsNoSecond c
by_bounds c h e = record {
  equals = ne_eqb c 61 (λ f. omega (arith, f));
  less = ne_eqb c 60 (λ f. omega (arith, f));
  greater = ne_eqb c 62 (λ f. omega (arith, f));
  and = e;
  or = ne_eqb c 124 (λ f. omega (arith, f));
}

pub space_below : (c : ℕ) → is_space c ≡ true → c ≤ 32
space_below c h = go (or_cases (c == 32) (in_range 9 c 13) h)
  where
    go : ((c == 32) ≡ true) ⊎ (in_range 9 c 13 ≡ true) → c ≤ 32
    go (inl e) = let f = eqb-true c 32 e in omega (arith, f)
    go (inr e) = let p = and_parts (nat_le 9 c) (nat_le c 13) e in let f = leb-true c 13 p.1 in omega (arith, f)

pub space_is_no_second : (c : ℕ) → is_space c ≡ true → IsNoSecond c
space_is_no_second c h =
    let l = space_below c h in
    by_bounds c (omega (arith, l)) (ne_eqb c 38 (λ f. omega (arith, f, l)))

-- a byte that begins a literal
pub digit_bounds : (c : ℕ) → is_digit c 10 ≡ true → (48 ≤ c) × (c < 58)
digit_bounds c h = (grind arith, grind arith)

pub digit_is_no_second : (c : ℕ) → is_digit c 10 ≡ true → IsNoSecond c
digit_is_no_second c h =
    let l = digit_bounds c h in
    by_bounds c (omega (arith, l.1)) (ne_eqb c 38 (λ f. omega (arith, f, l.0)))

pub sign_is_no_second : (s : Sign) → IsNoSecond (byte_of s)
sign_is_no_second Positive = record { equals = refl; less = refl; greater = refl; and = refl; or = refl }
sign_is_no_second Negative = record { equals = refl; less = refl; greater = refl; and = refl; or = refl }
sign_is_no_second Complement = record { equals = refl; less = refl; greater = refl; and = refl; or = refl }
sign_is_no_second Not = record { equals = refl; less = refl; greater = refl; and = refl; or = refl }
