-- A part is read, or a row of the table fits there.
use Rattle.std.proofs.Common.{◌≡◌, ℕ, zero, suc, ◌+◌, ◌<◌, ◌^◌, Bool, true, false, cond, ◌&&◌, not, ltb, eqb, List}
use Rattle.std.proofs.Common.{[], ◌∷◌, ◌++◌, length, take, Result, Ok, Err, refl, sym, ap, subst, ◌∙◌, append_assoc}
use Rattle.std.proofs.Common.{arith, inl, inr, ◌⊎◌}
use Rattle.std.specs.Prelude.{IsTrue, FitsSigned, ℤ}
use Rattle.std.specs.Int.{w32}
use Rattle.std.specs.Char.{is_ascii_digit}
use Rattle.std.proofs.lemmas.List.{take-append-drop, length-take-le, append-nil}
use Rattle.std.proofs.lemmas.Int.{ints}
use Rattle.std.proofs.lemmas.Bool.Decides.{nat_tests}
use Rattle.m4_frozen.specs.Ascii.{newline, comma, minus_sign}
use Rattle.m4_frozen.specs.declared.fault.Refusal.{Refusal}
use Rattle.m4_frozen.specs.declared.fault.FrozenKind.{FrozenKind}
use Rattle.m4_frozen.specs.declared.fault.FrozenKind.TheVariants as kinds
use Rattle.m4_frozen.specs.Spells.{is_blank, AreBlanks, AreDigits, value_of, signed, with_sign}
use Rattle.m4_frozen.specs.ReaderSteps.{◌>>=◌, Step, refused, skip_blanks, digits_at, some_digits_at}
use Rattle.m4_frozen.specs.ReaderSteps.{length_at, expect_byte, string_at, magnitude_at, signed_at, version_at}
use Rattle.m4_frozen.specs.ReaderSteps.{part_at, layout_at}
use Rattle.m4_frozen.specs.Layout.{Part, Version, Length, Number, Comma, NewLine, String, Value, Layout, Done, Then}
use Rattle.m4_frozen.specs.Layout.{IsPart, IsEnded, no_digit_first, first_is, IsWrong, IsWrongWithin}
use Rattle.m4_frozen.proofs.ByteTests.{by_test, test, eq_of, lt_of, ge_of}
use Rattle.m4_frozen.proofs.Digits.{digits_are}
use Rattle.m4_frozen.proofs.ReadBack.{magnitude_fits}

-- the meaning of the result at a part: it is correct, or a row of the table fits
abbrev pub PartSays : (p : Part) → List ℕ → Step (Value p) → Type 0
PartSays p bytes (Ok v) = (one : List ℕ) × IsPart p v.0 one × IsEnded p v.1 × (bytes ≡ one ++ v.1)
PartSays p bytes (Err e) = (before : List ℕ) × (here : List ℕ) × IsWrong e.kind p before here
    × (bytes ≡ before ++ here) × (e.bytes_left ≡ length here)

-- what follows is no blank
abbrev pub no_blank : List ℕ → Bool
no_blank [] = true
no_blank (b ∷ bs) = not (is_blank b)

-- blanks are at the front, and no blank follows them
pub record HasBlanks (bytes : List ℕ) : Type 0 where
  pub blanks : List ℕ
  pub are_blanks : AreBlanks blanks
  pub spelled : bytes ≡ blanks ++ skip_blanks bytes
  pub apart : IsTrue (no_blank (skip_blanks bytes))

-- neither 1 nor above
zero_of : (v : ℕ) → ltb 1 v ≡ false → eqb v 1 ≡ false → v ≡ 0
zero_of v e f = grind (arith, nat_tests)

-- one more byte in front
blanks_step : (b : ℕ) (bs : List ℕ) → HasBlanks bs → HasBlanks (b ∷ bs)
blanks_step b bs r = elim (test (is_blank b)) [
  | inl e ↦ record {
    blanks = b ∷ r.blanks;
    are_blanks = rw e r.are_blanks;
    spelled =
        rw e (ap (λ (xs : List ℕ). b ∷ xs) r.spelled);
    apart = rw e r.apart;
  }
  | inr e ↦ record { blanks = []; are_blanks = refl; spelled = rw e refl; apart = rw (e, e) refl }
]

-- all bytes have their blanks in front
pub has_blanks : (bytes : List ℕ) → HasBlanks bytes
has_blanks [] = record { blanks = []; are_blanks = refl; spelled = refl; apart = refl }
has_blanks (b ∷ bs) = blanks_step b bs (has_blanks bs)

-- the digits at the front are followed by none
pub record HasFront (bytes : List ℕ) : Type 0 where
  pub spelled : bytes ≡ (digits_at bytes).0 ++ (digits_at bytes).1
  pub apart : IsTrue (no_digit_first (digits_at bytes).1)

-- one more byte in front
digits_step : (b : ℕ) (bs : List ℕ) → HasFront bs → HasFront (b ∷ bs)
digits_step b bs r = elim (test (is_ascii_digit b)) [
  | inl e ↦ record { spelled = rw e (ap (λ (xs : List ℕ). b ∷ xs) r.spelled); apart = rw e r.apart }
  | inr e ↦ record { spelled = rw e refl; apart = rw (e, e) refl }
]

-- all bytes have their digits in front
pub has_front : (bytes : List ℕ) → HasFront bytes
has_front [] = record { spelled = refl; apart = refl }
has_front (b ∷ bs) = digits_step b bs (has_front bs)

-- what holds of a step and of what it was given holds of both
pub by_bind : {A B : Type 0} (P : Result A Refusal → Type 0) (Q : Result B Refusal → Type 0)
    (r : Result A Refusal) (f : A → Result B Refusal)
    → P r → ((x : A) → P (Ok x) → Q (f x)) → ((e : Refusal) → P (Err e) → Q (Err e)) → Q (r >>= f)
by_bind P Q (Ok x) f p g h = g x p
by_bind P Q (Err e) f p g h = h e p

-- digits, or none
abbrev pub DigitsSay : List ℕ → Step (List ℕ) → Type 0
DigitsSay bytes (Ok d) = AreDigits d.0 × IsTrue (no_digit_first d.1) × (bytes ≡ d.0 ++ d.1)
DigitsSay bytes (Err e) =
    ((e.kind ≡ kinds.DigitExpected) × IsTrue (first_is (λ b. not (is_ascii_digit b)) bytes)
    × (e.bytes_left ≡ length bytes))
    ⊎ ((e.kind ≡ kinds.PrematureEnd) × (bytes ≡ []) × (e.bytes_left ≡ 0))

-- digits are read, or there is none
pub digits_say : (bytes : List ℕ) → DigitsSay bytes (some_digits_at bytes)
digits_say [] = inr (refl, refl, refl)
digits_say (b ∷ bs) = let front = has_front (b ∷ bs) in
    by_test (DigitsSay (b ∷ bs)) (is_ascii_digit b) _ _
    (λ e. ((rw e (λ k. cc), digits_are (b ∷ bs)), front.apart, front.spelled))
    (λ e. inl (refl, rw e refl, refl))

-- neither a blank nor a digit
neither_first : (bytes : List ℕ) → IsTrue (no_blank bytes)
    → IsTrue (first_is (λ b. not (is_ascii_digit b)) bytes)
    → IsTrue (first_is (λ b. not (is_blank b) && not (is_ascii_digit b)) bytes)
neither_first [] h k = absurd cc
neither_first (b ∷ bs) h k = rw (h, k) refl

-- no digit after blanks
module _ (blanks rest : List ℕ) (are : AreBlanks blanks) (apart : IsTrue (no_blank rest)) where
  -- a part that needs a digit is wrong without one
  no_digit_says : (p : Part) (e : Refusal)
      → (IsTrue (first_is (λ b. not (is_blank b) && not (is_ascii_digit b)) rest)
      → IsWrong kinds.DigitExpected p blanks rest)
      → IsWrong kinds.PrematureEnd p blanks []
      → DigitsSay rest (Err e) → PartSays p (blanks ++ rest) (Err e)
  no_digit_says p e f g (inl h) = (
    blanks,
    rest,
    subst (λ (k : FrozenKind). IsWrong k p blanks rest) (sym h.0)
        (f (neither_first rest apart h.1)),
    refl,
    h.2,
  )
  no_digit_says p e f g (inr h) =
      (blanks, [], subst (λ (k : FrozenKind). IsWrong k p blanks []) (sym h.0) g, rw h.1 refl, h.2)

  -- a length is read, or a row fits
  length_says : PartSays Length (blanks ++ rest)
      (some_digits_at rest >>= λ d. cond (ltb (value_of d.0) (2 ^ 64)) (Ok (value_of d.0, d.1))
      (refused kinds.NumberTooLarge rest))
  length_says = by_bind (DigitsSay rest) (PartSays Length (blanks ++ rest)) (some_digits_at rest) _
      (digits_say rest)
      (λ d h. by_test (PartSays Length (blanks ++ rest)) (ltb (value_of d.0) (2 ^ 64)) _ _
      (λ e. (
        blanks ++ d.0,
        (
          record {
            blanks = blanks;
            digits = d.0;
            are_blanks = are;
            are_digits = h.0;
            spelled =
                refl;
            value = refl;
          },
          lt_of _ _ e,
        ),
        h.1,
        rw h.2 (sym (append_assoc blanks d.0 d.1)),
      ))
      (λ e. (blanks, rest, (are, (d.0, d.1, h.0, h.1, h.2, ge_of _ _ e)), refl, refl)))
      (λ e h. no_digit_says Length e (λ s. (are, s)) (are, refl) h)

  -- the answer at the version
  abbrev version_part : Result (List ℕ) Refusal → Type 0
  version_part r = PartSays Version (blanks ++ rest) (r >>= λ x. Ok (tt, x))

  -- the version is read, or a row fits
  version_says : version_part
      (some_digits_at rest >>= λ d. cond (ltb 1 (value_of d.0)) (refused kinds.Newer rest)
      (cond (eqb (value_of d.0) 1) (Ok d.1) (refused kinds.VersionZero rest)))
  version_says = by_bind (DigitsSay rest) version_part (some_digits_at rest) _ (digits_say rest)
      (λ d h. by_test version_part (ltb 1 (value_of d.0)) _ _
      (λ e. (blanks, rest, (are, (d.0, d.1, h.0, h.1, h.2, lt_of _ _ e)), refl, refl))
      (λ e. by_test version_part (eqb (value_of d.0) 1) _ _
      (λ f. (
        blanks ++ d.0,
        record {
          blanks = blanks;
          digits = d.0;
          are_blanks = are;
          are_digits =
              h.0;
          spelled = refl;
          value = eq_of _ _ f;
        },
        h.1,
        rw h.2 (sym (append_assoc blanks d.0 d.1)),
      ))
      (λ f. (blanks, rest, (are, (d.0, d.1, h.0, h.1, h.2, zero_of _ e f)), refl, refl))))
      (λ e h. no_digit_says Version e (λ s. (are, s)) (are, refl) h)

-- a number whose digits pass the test has 32 bits
pub fits_of : (minus : Bool) (v : ℕ) → ltb v (cond minus (2 ^ 31 + 1) (2 ^ 31)) ≡ true
    → FitsSigned w32 (signed minus v)
fits_of true zero e = omega (arith, ints)
fits_of true (suc v) e = let lt : suc v < 2 ^ 31 + 1 = lt_of _ _ e in omega (arith, ints)
fits_of false v e = let lt : v < 2 ^ 31 = lt_of _ _ e in omega (arith, ints)

-- a sign in front stays in front
pub sign_append : (minus : Bool) (a b : List ℕ) → with_sign minus (a ++ b) ≡ with_sign minus a ++ b
sign_append true a b = refl
sign_append false a b = refl

-- a test doesn't come out both ways
not_both : (b : Bool) → b ≡ true → b ≡ false → ⊥
not_both b e f = cc

module _ (blanks : List ℕ) (are : AreBlanks blanks) where
  -- the answer at a diversion's number
  abbrev number_part : List ℕ → Step ℤ → Type 0
  number_part rest r = PartSays Number (blanks ++ rest) r

  -- its digits are read, or a row fits
  magnitude_says : (minus : Bool) (bs : List ℕ)
      → ((e : Refusal) → DigitsSay bs (Err e) → number_part (with_sign minus bs) (Err e))
      → number_part (with_sign minus bs) (magnitude_at (with_sign minus bs) minus bs)
  magnitude_says minus bs f = by_bind (DigitsSay bs) (number_part (with_sign minus bs))
      (some_digits_at bs) _ (digits_say bs)
      (λ d h.
      let parts : with_sign minus bs ≡ with_sign minus d.0 ++ d.1 = ap (with_sign minus) h.2
      ∙ sign_append minus d.0 d.1 in
      by_test (number_part (with_sign minus bs))
      (ltb (value_of d.0) (cond minus (2 ^ 31 + 1) (2 ^ 31))) _ _
      (λ e. (
        blanks ++ with_sign minus d.0,
        (
          record {
            blanks = blanks;
            minus = minus;
            digits = d.0;
            are_blanks = are;
            are_digits =
                h.0;
            spelled = refl;
            value = refl;
          },
          fits_of minus _ e,
        ),
        h.1,
        ap (λ (xs : List ℕ). blanks ++ xs) parts
            ∙ sym (append_assoc blanks (with_sign minus d.0) d.1),
      ))
      (λ e. (
        blanks,
        with_sign minus bs,
        (
          are,
          (
            minus,
            d.0,
            d.1,
            h.0,
            h.1,
            parts,
            λ fits. not_both _
                (magnitude_fits minus (value_of d.0) fits) e,
          ),
        ),
        refl,
        refl,
      )))
      f

  -- no digit after a `-`
  after_minus : (bs : List ℕ) (e : Refusal) → DigitsSay bs (Err e)
      → number_part (minus_sign ∷ bs) (Err e)
  after_minus bs e (inl h) = (
    blanks ++ minus_sign ∷ [],
    bs,
    subst (λ (k : FrozenKind). IsWrong k Number (blanks ++ minus_sign ∷ []) bs)
        (sym h.0) (inr ((blanks, are, refl), h.1)),
    sym (append_assoc blanks (minus_sign ∷ []) bs),
    h.2,
  )
  after_minus bs e (inr h) = (
    blanks ++ minus_sign ∷ [],
    [],
    subst (λ (k : FrozenKind). IsWrong k Number (blanks ++ minus_sign ∷ []) [])
        (sym h.0) (inr (blanks, are, refl), refl),
    rw h.1 (sym (append-nil (blanks ++ minus_sign ∷ []))),
    h.2,
  )

  -- neither digit nor `-`
  no_minus : (b : ℕ) (bs : List ℕ) → not (is_blank b) ≡ true → eqb b minus_sign ≡ false
      → (e : Refusal) → DigitsSay (b ∷ bs) (Err e) → number_part (b ∷ bs) (Err e)
  no_minus b bs apart other e (inl h) = (
    blanks,
    b ∷ bs,
    subst (λ (k : FrozenKind). IsWrong k Number blanks (b ∷ bs)) (sym h.0)
        (inl (are, rw (apart, h.1, other) refl)),
    refl,
    h.2,
  )
  no_minus b bs apart other e (inr h) = absurd (let k = h.1 in cc)

  -- a diversion's number is read, or a row fits
  sign_says : (rest : List ℕ) → IsTrue (no_blank rest) → number_part rest (signed_at rest)
  sign_says [] apart = (blanks, [], (inl are, refl), refl, refl)
  sign_says (b ∷ bs) apart = by_test (number_part (b ∷ bs)) (eqb b minus_sign) _ _
      (λ e. rw (eq_of b minus_sign e) (magnitude_says true bs (after_minus bs)))
      (λ e. magnitude_says false (b ∷ bs) (no_minus b bs apart e))

  -- a comma is read, or a row fits
  comma_says : (rest : List ℕ) → IsTrue (no_blank rest)
      → PartSays Comma (blanks ++ rest) (expect_byte comma rest >>= λ x. Ok (tt, x))
  comma_says [] apart = (blanks, [], (are, refl), refl, refl)
  comma_says (b ∷ bs) apart =
      by_test (λ (r : Result (List ℕ) Refusal). PartSays Comma (blanks ++ b ∷ bs)
      (r >>= λ x. Ok (tt, x))) (eqb b comma) _ _
      (λ e. (
        blanks ++ comma ∷ [],
        (blanks, are, refl),
        tt,
        rw (eq_of b comma e)
            (sym (append_assoc blanks (comma ∷ []) bs)),
      ))
      (λ e. (blanks, b ∷ bs, (are, rw (apart, e) refl), refl, refl))

-- a newline is read, or a row fits
newline_says : (bytes : List ℕ)
    → PartSays NewLine bytes (expect_byte newline bytes >>= λ x. Ok (tt, x))
newline_says [] = ([], [], (refl, refl), refl, refl)
newline_says (b ∷ bs) =
    by_test (λ (r : Result (List ℕ) Refusal). PartSays NewLine (b ∷ bs) (r >>= λ x. Ok (tt, x)))
    (eqb b newline) _ _
    (λ e. (newline ∷ [], refl, tt, rw (eq_of b newline e) refl))
    (λ e. ([], b ∷ bs, (refl, rw e refl), refl, refl))

-- a string is read, or the end follows
string_says : (n : ℕ) (bytes : List ℕ) → PartSays (String n) bytes (string_at n bytes)
unfolding string_at
string_says n bytes = by_test (PartSays (String n) bytes) (ltb (length bytes) n) _ _
    (λ e. (bytes, [], (lt_of _ _ e, refl), sym (append-nil bytes), refl))
    (λ e. (
      take n bytes,
      (refl, length-take-le n bytes (ge_of _ _ e)),
      tt,
      sym (take-append-drop n bytes),
    ))

-- An expected part is read, or a row of the table fits.
pub part_says : (p : Part) (bytes : List ℕ) → PartSays p bytes (part_at p bytes)
unfolding length_at version_at
part_says Version bytes = let s = has_blanks bytes in
    subst (λ (xs : List ℕ). PartSays Version xs (part_at Version bytes)) (sym s.spelled)
    (version_says s.blanks (skip_blanks bytes) s.are_blanks s.apart)
part_says Length bytes = let s = has_blanks bytes in
    subst (λ (xs : List ℕ). PartSays Length xs (part_at Length bytes)) (sym s.spelled)
    (length_says s.blanks (skip_blanks bytes) s.are_blanks s.apart)
part_says Number bytes = let s = has_blanks bytes in
    subst (λ (xs : List ℕ). PartSays Number xs (part_at Number bytes)) (sym s.spelled)
    (sign_says s.blanks s.are_blanks (skip_blanks bytes) s.apart)
part_says Comma bytes = let s = has_blanks bytes in
    subst (λ (xs : List ℕ). PartSays Comma xs (part_at Comma bytes)) (sym s.spelled)
    (comma_says s.blanks s.are_blanks (skip_blanks bytes) s.apart)
part_says NewLine bytes = newline_says bytes
part_says (String n) bytes = string_says n bytes

-- The parts of a layout follow one another.
abbrev pub IsSpelled : {A : Type 0} → Layout A → A → List ℕ → List ℕ → Type 0
IsSpelled (Done x) y bytes rest = (x ≡ y) × (bytes ≡ [])
IsSpelled (Then p after) y bytes rest =
    (v : Value p) × (one : List ℕ) × (more : List ℕ) × IsPart p v one × IsEnded p (more ++ rest)
    × (bytes ≡ one ++ more) × IsSpelled (after v) y more rest

-- the meaning of the result at a layout: its parts are correct, or a row of the table fits
abbrev pub LayoutSays : {A : Type 0} → Layout A → List ℕ → Step A → Type 0
LayoutSays l bytes (Ok v) = (one : List ℕ) × IsSpelled l v.0 one v.1 × (bytes ≡ one ++ v.1)
LayoutSays l bytes (Err e) = (before : List ℕ) × (here : List ℕ)
    × IsWrongWithin e.kind l before here × (bytes ≡ before ++ here) × (e.bytes_left ≡ length here)

-- a correct part, then the result for the others
after_part : {A : Type 0} (p : Part) (after : Value p → Layout A) (bytes : List ℕ) (v : Value p)
    (later : List ℕ) (r : Step A)
    → PartSays p bytes (Ok (v, later)) → LayoutSays (after v) later r
    → LayoutSays (Then p after) bytes r
after_part p after bytes v later (Ok x) h k = (
  h.0 ++ k.0,
  (v, h.0, k.0, h.1, rw (← k.2) h.2, refl, k.1),
  rw (h.3, append_assoc h.0 k.0 x.1)
      (ap (λ (xs : List ℕ). h.0 ++ xs) k.2),
)
after_part p after bytes v later (Err e) h k = (
  h.0 ++ k.0,
  k.1,
  inr (v, h.0, k.0, h.1, rw (← k.3) h.2, refl, k.2),
  rw (h.3, append_assoc h.0 k.0 k.1) (ap (λ (xs : List ℕ). h.0 ++ xs) k.3),
  k.4,
)

-- So for a whole layout.
pub layout_says : {A : Type 0} (l : Layout A) (bytes : List ℕ)
    → LayoutSays l bytes (layout_at l bytes)
layout_says (Done x) bytes = ([], (refl, refl), refl)
layout_says (Then p after) bytes = by_bind (PartSays p bytes) (LayoutSays (Then p after) bytes)
    (part_at p bytes) _ (part_says p bytes)
    (λ v h. after_part p after bytes v.0 v.1 (layout_at (after v.0) v.1) h
    (layout_says (after v.0) v.1))
    (λ e h. (h.0, h.1, inl h.2, h.3, h.4))
