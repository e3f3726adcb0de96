-- Literals: a literal with no digit or letter after it is read to its end, as its number.
use Rattle.std.proofs.Common.{◌≡◌, ℕ, suc, ◌≤◌, ◌+◌, Bool, true, false, cond, ◌&&◌, List, [], ◌∷◌, ◌++◌, length, drop}
use Rattle.std.proofs.Common.{Some, None, option_and_then, refl, sym, ap, ◌∙◌, subst, arith, append_assoc, ◌⊎◌, inl}
use Rattle.std.proofs.Common.{inr, true≢false, le-leb}
use Rattle.std.specs.Prelude.{⊤, nat_le, codes}
use Rattle.std.proofs.lemmas.Bool.{and_parts, ne_eqb, lt-ltb, ltb-true}
use Rattle.std.proofs.lemmas.List.{length-append}
use Rattle.std.specs.List.{list_all}
use Rattle.std.specs.Char.{digit_value, is_digit}
use Rattle.m4_input.specs.Ascii.{digit_zero}
use Rattle.m4_eval.specs.ReadExpression.{colon, number_in}
use Rattle.m4_eval.specs.Literal.{AreDigitsOf, BeginsWithZero, SaysRadix, IsRadixPrefix, decimal, octal}
use Rattle.m4_eval.specs.Literal.{hexadecimal, binary, stated, IsLiteral}
use Rattle.m4_eval.specs.ReadExpression.{is_alphanumeric, run_of, number_of, of_length, after_radix, in_stated_radix}
use Rattle.m4_eval.specs.ReadExpression.{in_marked_radix, in_radix_from, is_either, after_zero, literal_at}

-- the first byte is no digit or letter
abbrev pub EndsRun : List ℕ → Type 0
EndsRun [] = ⊤
EndsRun (b ∷ x) = is_alphanumeric b ≡ false

-- a digit of a radix is a digit or a letter
pub digit_is_alphanumeric : (b radix : ℕ) → radix ≤ 36 → is_digit b radix ≡ true → is_alphanumeric b ≡ true
digit_is_alphanumeric b radix h e =
    let f = ltb-true (digit_value b) radix e in lt-ltb (digit_value b) 36 (omega (arith, f))

abbrev run_case : ℕ → List ℕ → Bool → List ℕ
run_case b x t = cond t (b ∷ run_of x) []

-- what ends a run is not in it
run_ends : (rest : List ℕ) → EndsRun rest → run_of rest ≡ []
run_ends [] h = refl
run_ends (b ∷ rest) h = ap (run_case b rest) h

-- digits are the whole run
pub run_is : (radix : ℕ) (digits rest : List ℕ) → radix ≤ 36 → list_all (λ b. is_digit b radix) digits ≡ true
    → EndsRun rest → run_of (digits ++ rest) ≡ digits
run_is radix [] rest l h e = run_ends rest e
run_is radix (b ∷ digits) rest l h e =
    let p = and_parts (is_digit b radix) (list_all (λ d. is_digit d radix) digits) h in
    ap (run_case b (digits ++ rest)) (digit_is_alphanumeric b radix l p.0)
    ∙ ap (λ y. b ∷ y) (run_is radix digits rest l p.1 e)

-- digits are a number
pub number_is : (radix n : ℕ) (digits : List ℕ) → AreDigitsOf radix n digits → number_of radix digits ≡ Some n
number_is radix n [] h = absurd (h.some refl)
number_is radix n (b ∷ digits) h =
    ap (λ t. cond t (Some (number_in radix (b ∷ digits))) None) h.below ∙ ap Some h.value

-- a literal, split after its first byte
pub record ReadWhole (n : ℕ) (literal rest : List ℕ) : Type 0 where
  pub first : ℕ
  pub more : List ℕ
  pub split : literal ≡ first ∷ more
  pub digit : is_digit first 10 ≡ true
  pub read : literal_at first (more ++ rest) ≡ Some (n, length more)

-- after a mark of one byte
pub marked : (radix n : ℕ) (digits rest : List ℕ) → radix ≤ 36 → AreDigitsOf radix n digits → EndsRun rest
    → in_marked_radix radix (digits ++ rest) ≡ Some (n, suc (length digits))
marked radix n digits rest l h e =
    ap (λ y. of_length (suc (length y)) (number_of radix y)) (run_is radix digits rest l h.below e)
    ∙ ap (of_length (suc (length digits))) (number_is radix n digits h)

-- after a first digit
pub from_digit : (radix n b : ℕ) (digits rest : List ℕ) → radix ≤ 36 → AreDigitsOf radix n (b ∷ digits) → EndsRun rest
    → in_radix_from radix b (digits ++ rest) ≡ Some (n, length digits)
from_digit radix n b digits rest l h e =
    let p = and_parts (is_digit b radix) (list_all (λ d. is_digit d radix) digits) h.below in
    ap (λ y. of_length (length y) (number_of radix (b ∷ y))) (run_is radix digits rest l p.1 e)
    ∙ ap (of_length (length digits)) (number_is radix n (b ∷ digits) h)

-- a byte that is no mark of a radix
pub record IsNoMark (c : ℕ) : Type 0 where
  pub x : is_either c 120 88 ≡ false
  pub b : is_either c 98 66 ≡ false
  pub r : is_either c 114 82 ≡ false

no_either : (c m n : ℕ) → (c ≡ m → ⊥) → (c ≡ n → ⊥) → is_either c m n ≡ false
no_either c m n f g = rw (ne_eqb c m f, ne_eqb c n g) refl

pub no_mark_of_end : (c : ℕ) → is_alphanumeric c ≡ false → IsNoMark c
no_mark_of_end c h = record {
  x = no_either c 120 88 (λ e. no 120 refl e) (λ e. no 88 refl e);
  b = no_either c 98 66 (λ e. no 98 refl e) (λ e. no 66 refl e);
  r = no_either c 114 82 (λ e. no 114 refl e) (λ e. no 82 refl e);
}
  where
    no : (m : ℕ) → is_alphanumeric m ≡ true → c ≡ m → ⊥
    no m f e = true≢false (sym f ∙ ap is_alphanumeric (sym e) ∙ h)

pub no_mark_of_octal : (c : ℕ) → is_digit c 8 ≡ true → IsNoMark c
no_mark_of_octal c h = record {
  x = no_either c 120 88 (λ e. no 120 refl e) (λ e. no 88 refl e);
  b = no_either c 98 66 (λ e. no 98 refl e) (λ e. no 66 refl e);
  r = no_either c 114 82 (λ e. no 114 refl e) (λ e. no 82 refl e);
}
  where
    no : (m : ℕ) → is_digit m 8 ≡ false → c ≡ m → ⊥
    no m f e = true≢false (sym h ∙ ap (λ k. is_digit k 8) e ∙ f)

-- after a zero: where no mark follows, octal digits
zero_octal : (c : ℕ) (x : List ℕ) → IsNoMark c → after_zero (c ∷ x) ≡ in_radix_from 8 digit_zero (c ∷ x)
zero_octal c x h = rw (h.x, h.b, h.r) refl

pub octal_zero : (n : ℕ) (digits rest : List ℕ) → AreDigitsOf 8 n (digit_zero ∷ digits) → EndsRun rest
    → after_zero (digits ++ rest) ≡ Some (n, length digits)
octal_zero n [] [] h e = ap (λ v. Some (v, 0)) h.value
octal_zero n [] (c ∷ rest) h e =
    zero_octal c rest (no_mark_of_end c e) ∙ from_digit 8 n digit_zero [] (c ∷ rest) (omega arith) h e
octal_zero n (c ∷ digits) rest h e =
    let p = and_parts (is_digit digit_zero 8) (list_all (λ d. is_digit d 8) (c ∷ digits)) h.below in
    let q = and_parts (is_digit c 8) (list_all (λ d. is_digit d 8) digits) p.1 in
    zero_octal c (digits ++ rest) (no_mark_of_octal c q.0)
    ∙ from_digit 8 n digit_zero (c ∷ digits) rest (omega arith) h e

-- after `0r`
pub in_radix_said : (n radix : ℕ) (said digits rest : List ℕ) → AreDigitsOf 10 radix said → 2 ≤ radix → radix ≤ 36
    → AreDigitsOf radix n digits → EndsRun rest
    → in_stated_radix (said ++ (colon ∷ digits ++ rest)) ≡ Some (n, suc (suc (length said + length digits)))
in_radix_said n radix said digits rest a l m d e =
    let run = run_is 10 said (colon ∷ digits ++ rest) (omega arith) a.below refl in
    ap (λ y. option_and_then (λ k. after_radix k y (drop (length y) (said ++ (colon ∷ digits ++ rest)))) (number_of 10 y)) run
    ∙ ap (λ o. option_and_then (λ k. after_radix k said (drop (length said) (said ++ (colon ∷ digits ++ rest)))) o) (number_is 10 radix said a)
    ∙ ap (after_radix radix said) (dropped said (colon ∷ digits ++ rest))
    ∙ ap (λ t. cond t (of_length (suc (suc (length said + length (run_of (digits ++ rest))))) (number_of radix (run_of (digits ++ rest)))) None) both
    ∙ ap (λ y. of_length (suc (suc (length said + length y))) (number_of radix y)) (run_is radix digits rest m d.below e)
    ∙ ap (of_length (suc (suc (length said + length digits)))) (number_is radix n digits d)
  where
    dropped : (x y : List ℕ) → drop (length x) (x ++ y) ≡ y
    dropped [] y = refl
    dropped (b ∷ x) y = dropped x y

    both : (nat_le 2 radix && nat_le radix 36) ≡ true
    both = rw (le-leb 2 radix l, le-leb radix 36 m) refl

-- a decimal literal
decimal_whole : (n : ℕ) (digits rest : List ℕ) → AreDigitsOf 10 n digits → (BeginsWithZero digits → ⊥) → EndsRun rest
    → ReadWhole n digits rest
decimal_whole n [] rest h z e = absurd (h.some refl)
decimal_whole n (b ∷ digits) rest h z e =
    let p = and_parts (is_digit b 10) (list_all (λ d. is_digit d 10) digits) h.below in
    record {
      first = b;
      more = digits;
      split = refl;
      digit = p.0;
      read = ap (λ t. cond t (after_zero (digits ++ rest)) (cond (is_digit b 10) (in_radix_from 10 b (digits ++ rest)) None)) (ne_eqb b digit_zero z)
          ∙ ap (λ t. cond t (in_radix_from 10 b (digits ++ rest)) None) p.0
          ∙ from_digit 10 n b digits rest (omega arith) h e;
    }

octal_whole : (n : ℕ) (digits rest : List ℕ) → AreDigitsOf 8 n digits → BeginsWithZero digits → EndsRun rest
    → ReadWhole n digits rest
octal_whole n [] rest h z e = absurd z
octal_whole n (b ∷ digits) rest h z e =
    let h' : AreDigitsOf 8 n (digit_zero ∷ digits) = subst (λ c. AreDigitsOf 8 n (c ∷ digits)) z h in
    record { first = digit_zero; more = digits; split = ap (λ c. c ∷ digits) z; digit = refl; read = octal_zero n digits rest h' e }

-- `0`, a mark and digits
marked_whole : (radix n mark : ℕ) (prefix digits rest : List ℕ) → radix ≤ 36 → AreDigitsOf radix n digits → EndsRun rest
    → ((x : List ℕ) → literal_at digit_zero (mark ∷ x) ≡ in_marked_radix radix x)
    → prefix ≡ digit_zero ∷ mark ∷ []
    → ReadWhole n (prefix ++ digits) rest
marked_whole radix n mark prefix digits rest l h e f p =
    record {
      first = digit_zero;
      more = mark ∷ digits;
      split = ap (λ y. y ++ digits) p;
      digit = refl;
      read = f (digits ++ rest) ∙ marked radix n digits rest l h e;
    }

-- `0r`, a radix, `:` and digits
said_whole : (radix n mark : ℕ) (prefix said digits rest : List ℕ) → AreDigitsOf 10 radix said → 2 ≤ radix → radix ≤ 36
    → AreDigitsOf radix n digits → EndsRun rest
    → ((x : List ℕ) → literal_at digit_zero (mark ∷ x) ≡ in_stated_radix x)
    → prefix ≡ (digit_zero ∷ mark ∷ []) ++ said ++ colon ∷ []
    → ReadWhole n (prefix ++ digits) rest
said_whole radix n mark prefix said digits rest a l m d e f p =
    record {
      first = digit_zero;
      more = mark ∷ (said ++ (colon ∷ digits));
      split = ap (λ y. y ++ digits) p ∙ ap (λ y. digit_zero ∷ mark ∷ y) (append_assoc said (colon ∷ []) digits);
      digit = refl;
      read = f ((said ++ (colon ∷ digits)) ++ rest)
          ∙ ap in_stated_radix (append_assoc said (colon ∷ digits) rest)
          ∙ in_radix_said n radix said digits rest a l m d e
          ∙ ap (λ k. Some (n, k)) (lengths said digits);
    }
  where
    lengths : (x y : List ℕ) → suc (suc (length x + length y)) ≡ suc (length (x ++ (colon ∷ y)))
    lengths x y = let f = length-append x (colon ∷ y) in omega (arith, f)

-- each literal
pub literal_whole : (n : ℕ) (literal rest : List ℕ) → IsLiteral n literal → EndsRun rest → ReadWhole n literal rest
literal_whole n literal rest h e = subst (λ y. ReadWhole n y rest) (sym h.spelled) (by_prefix h.is_prefix)
  where
    ends : (radix : ℕ) → h.radix ≡ radix → AreDigitsOf radix n h.digits
    ends radix f = subst (λ k. AreDigitsOf k n h.digits) f h.are_digits

    by_prefix : IsRadixPrefix h.radix h.prefix h.digits → ReadWhole n (h.prefix ++ h.digits) rest
    by_prefix (decimal a b z) = subst (λ y. ReadWhole n (y ++ h.digits) rest) (sym b) (decimal_whole n h.digits rest (ends 10 a) z e)
    by_prefix (octal a b z) = subst (λ y. ReadWhole n (y ++ h.digits) rest) (sym b) (octal_whole n h.digits rest (ends 8 a) z e)
    by_prefix (hexadecimal a (inl b)) = marked_whole 16 n 120 h.prefix h.digits rest (omega arith) (ends 16 a) e (λ x. refl) b
    by_prefix (hexadecimal a (inr b)) = marked_whole 16 n 88 h.prefix h.digits rest (omega arith) (ends 16 a) e (λ x. refl) b
    by_prefix (binary a (inl b)) = marked_whole 2 n 98 h.prefix h.digits rest (omega arith) (ends 2 a) e (λ x. refl) b
    by_prefix (binary a (inr b)) = marked_whole 2 n 66 h.prefix h.digits rest (omega arith) (ends 2 a) e (λ x. refl) b
    by_prefix (stated s) = by_mark s s.is_mark
      where
        by_mark : (s : SaysRadix h.radix h.prefix) → (s.mark ≡ codes "0r") ⊎ (s.mark ≡ codes "0R") → ReadWhole n (h.prefix ++ h.digits) rest
        by_mark s (inl f) = said_whole h.radix n 114 h.prefix s.digits h.digits rest s.are_digits s.least s.most
            h.are_digits e (λ x. refl) (s.spelled ∙ ap (λ y. y ++ s.digits ++ colon ∷ []) f)
        by_mark s (inr f) = said_whole h.radix n 82 h.prefix s.digits h.digits rest s.are_digits s.least s.most
            h.are_digits e (λ x. refl) (s.spelled ∙ ap (λ y. y ++ s.digits ++ colon ∷ []) f)
