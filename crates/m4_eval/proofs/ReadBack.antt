-- ReadBack: the digits that are written spell the number, with any zeros in front.
use Rattle.std.proofs.Common.{◌≡◌, ◌≢◌, ◌≤◌, ◌<◌, ◌+◌, ◌-◌, ◌*◌, ◌/◌, ◌%◌, ◌^◌, ℕ, zero, suc, List, [], ◌∷◌, ◌++◌}
use Rattle.std.proofs.Common.{map, refl, sym, ap, subst, ◌∙◌, Bool, true, false, cond, arith, ◌==◌, eqb-true, lt-ltb}
use Rattle.std.proofs.Common.{IsTrue, replicate, length, unsigned_abs, mod-lt, mul-le-mul, pow-suc, div-lt_iff_lt-mul}
use Rattle.std.proofs.Common.{div-add-mod'}
use Rattle.std.proofs.Math.Nat.{pow-zero}
use Rattle.std.proofs.lemmas.Str.{digit_value-digit_char}
use Rattle.std.specs.List.{list_all}
use Rattle.std.specs.Char.{digit_value, is_digit}
use Rattle.std.specs.Int.Digits.{number_from_digits_after}
use Rattle.std.specs.Fmt.{digits_onto, digits, digit_glyph}
use Rattle.m4_eval.specs.Literal.{AreDigitsOf}
use Rattle.m4_eval.specs.InRadix.{padded}
use Rattle.m4_eval.specs.Laws.{DigitsAreRead}
use Rattle.m4_eval.proofs.WrittenDigits.{digits_onto-nil}

-- the number of digits that come after those of n
abbrev number_after : ℕ → ℕ → List ℕ → ℕ
number_after base n x = number_from_digits_after base n (map digit_value x)

-- each is a digit of the radix
abbrev AreBelow : ℕ → List ℕ → Type 0
AreBelow base x = IsTrue (list_all (λ b. is_digit b base) x)

abbrev first : (base b : ℕ) (x : List ℕ) → digit_value b < base → AreBelow base x → AreBelow base (b ∷ x)
first base b x h a = rw (lt-ltb (digit_value b) base h) a

some_are : (x : List ℕ) → 0 < length x → x ≢ []
some_are x h e = let none = ap (λ (l : List ℕ). length l) e in omega (arith, h, none)

module _ (base : ℕ) (low : 2 ≤ base) (high : base ≤ 36) where
  -- the digits that were written so far, and all of them
  abbrev Reads : ℕ → ℕ → List ℕ → List ℕ → Type 0
  Reads k n acc x = (number_after base 0 x ≡ number_after base n acc) × AreBelow base x × (0 < k + length acc → 0 < length x)

  -- one more digit in front of those that are written
  one_more : (k n : ℕ) (acc : List ℕ) → n < base ^ suc k → AreBelow base acc
      → (n / base < base ^ k → AreBelow base (digit_glyph false (n % base) ∷ acc)
      → Reads k (n / base) (digit_glyph false (n % base) ∷ acc) (digits_onto k base false (n / base) (digit_glyph false (n % base) ∷ acc)))
      → Reads (suc k) n acc (digits_onto (suc k) base false n acc)
  one_more k n acc h a before = by (n / base == 0) refl
    where
      some : 0 < base
      some = omega arith

      g : ℕ
      g = digit_glyph false (n % base)

      rest : n % base < base
      rest = mod-lt n some

      is : digit_value g ≡ n % base
      is = digit_value-digit_char (n % base) (omega (arith, rest))

      below : AreBelow base (g ∷ acc)
      below = first base g acc (omega (arith, is, rest)) a

      whole : n / base * base + digit_value g ≡ n
      whole = ap (λ (m : ℕ). n / base * base + m) is ∙ div-add-mod' n base

      more : Reads k (n / base) (g ∷ acc) (digits_onto k base false (n / base) (g ∷ acc))
      more = before ((div-lt_iff_lt-mul some).1 (omega (arith, h, pow-suc base k))) below

      by : (t : Bool) → (n / base == 0) ≡ t → Reads (suc k) n acc (cond (n / base == 0) (g ∷ acc) (digits_onto k base false (n / base) (g ∷ acc)))
      by true e =
          subst (λ (b : Bool). Reads (suc k) n acc (cond b (g ∷ acc) (digits_onto k base false (n / base) (g ∷ acc)))) (sym e)
          (ap (λ (m : ℕ). number_after base m acc) (ap (λ (q : ℕ). q * base + digit_value g) (sym (eqb-true _ 0 e)) ∙ whole), below, λ _. omega arith)
      by false e =
          subst (λ (b : Bool). Reads (suc k) n acc (cond b (g ∷ acc) (digits_onto k base false (n / base) (g ∷ acc)))) (sym e)
          (more.0 ∙ ap (λ (m : ℕ). number_after base m acc) whole, more.1, λ _. more.2 (omega arith))

  to_the_none : base ^ 0 ≡ 1
  to_the_none = pow-zero base

  reads : (k n : ℕ) (acc : List ℕ) → n < base ^ k → AreBelow base acc → Reads k n acc (digits_onto k base false n acc)
  reads zero n acc h a = (ap (λ (m : ℕ). number_after base m acc) {x = 0} {y = n} (omega (arith, h, to_the_none)), a, λ l. omega (arith, l))
  reads (suc k) n acc h a =
      one_more k n acc h a (λ l b. reads k (n / base) (digit_glyph false (n % base) ∷ acc) l b)

  -- zeros in front change nothing
  with_zeros : (j : ℕ) (x : List ℕ) → number_after base 0 (replicate j 48 ++ x) ≡ number_after base 0 x
  with_zeros zero x = refl
  with_zeros (suc j) x =
      ap (λ (m : ℕ). number_after base m (replicate j 48 ++ x)) {x = 0 * base + 0} {y = 0} (omega arith) ∙ with_zeros j x

  zeros_below : (j : ℕ) (x : List ℕ) → AreBelow base x → AreBelow base (replicate j 48 ++ x)
  zeros_below zero x a = a
  zeros_below (suc j) x a = first base 48 (replicate j 48 ++ x) (omega arith) (zeros_below j x a)

  zeros_some : (j : ℕ) (x : List ℕ) → 0 < length x → 0 < length (replicate j 48 ++ x)
  zeros_some zero x h = h
  zeros_some (suc j) x h = omega arith

  powers : (k : ℕ) → 2 ^ k ≤ base ^ k
  powers zero = omega (arith, to_the_none)
  powers (suc k) = let m = mul-le-mul (powers k) low in omega (arith, m, pow-suc base k, pow-suc 2 k)

  pub spelled : (width n : ℕ) → n < 2 ^ 32 → AreDigitsOf base n (padded width (digits base false n))
  spelled width n h =
      let r = reads 64 n [] (let p = powers 64 in omega (arith, h, p)) refl in
      subst (λ (l : List ℕ). AreDigitsOf base n (padded width l)) (digits_onto-nil base n)
      (let x = digits_onto 64 base false n [] in
      let j = width - length x in
      record {
        some = some_are (replicate j 48 ++ x) (zeros_some j x (r.2 (omega arith)));
        below = zeros_below j x r.1;
        value = with_zeros j x ∙ r.0;
      })

pub digits_read : DigitsAreRead
digits_read radix width z low high h = spelled radix low high width (unsigned_abs z) h
