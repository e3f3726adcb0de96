-- Where a row of the table fits, the reader answers its fault.
use Rattle.std.proofs.Common.{◌≡◌, ℕ, ◌+◌, ◌<◌, ◌^◌, Bool, true, false, cond, ◌&&◌, not, ltb, eqb, List, [], ◌∷◌}
use Rattle.std.proofs.Common.{◌++◌, length, Ok, refl, ap, ◌∙◌, append_assoc, inl, inr}
use Rattle.std.specs.Prelude.{IsTrue, FitsSigned}
use Rattle.std.specs.Int.{w32}
use Rattle.std.specs.List.{list_all}
use Rattle.std.specs.Char.{is_ascii_digit}
use Rattle.std.proofs.lemmas.Bool.{lt-ltb, le-ltb, not-true}
use Rattle.std.proofs.lemmas.List.{append-nil}
use Rattle.m4_frozen.specs.Ascii.{newline, comma, minus_sign}
use Rattle.m4_frozen.specs.declared.fault.FrozenKind.{FrozenKind}
use Rattle.m4_frozen.specs.declared.fault.FrozenKind.TheVariants as kinds
use Rattle.m4_frozen.specs.Spells.{is_blank, AreBlanks, AreDigits, value_of, signed, with_sign}
use Rattle.m4_frozen.specs.ReaderSteps.{refused, skip_blanks, some_digits_at, length_at, expect_byte, string_at}
use Rattle.m4_frozen.specs.ReaderSteps.{signed_at, version_at, part_at, layout_at}
use Rattle.m4_frozen.specs.Layout.{Part, Version, Length, Number, Comma, NewLine, String, Value, Layout, Done, Then}
use Rattle.m4_frozen.specs.Layout.{IsPart, IsEnded, no_digit_first, first_is, IsWrongVersion, LacksNumber, IsTooLarge}
use Rattle.m4_frozen.specs.Layout.{LacksSeparator, NeedsMore, IsMinus, IsWrong, IsWrongWithin}
use Rattle.m4_frozen.proofs.ByteTests.{test, both_true}
use Rattle.m4_frozen.proofs.Parts.{fits_of}
use Rattle.m4_frozen.proofs.ReadBack.{skip_blanks-append, skip_blanks-digits, some_digits_at-digits, length_at-number}
use Rattle.m4_frozen.proofs.ReadBack.{version_at-number, string_at-append, signed_at-digits, digit_is_no_sign}

-- a correct part is read
pub part_described : (p : Part) (v : Value p) (one rest : List ℕ) → IsPart p v one → IsEnded p rest
    → part_at p (one ++ rest) ≡ Ok (v, rest)
part_described Version v one rest h apart = rw (version_at-number one rest h apart) refl
part_described Length n one rest h apart = length_at-number n one rest h.0 h.1 apart
part_described Number z one rest h apart =
    let n = h.0 in
    let start : skip_blanks (one ++ rest) ≡ skip_blanks (with_sign n.minus n.digits ++ rest) =
    ap (λ (bs : List ℕ). skip_blanks (bs ++ rest)) n.spelled
    ∙ ap skip_blanks (append_assoc n.blanks (with_sign n.minus n.digits) rest)
    ∙ skip_blanks-append n.blanks (with_sign n.minus n.digits ++ rest) n.are_blanks in
    rw start (signed_at-digits n.minus n.digits rest z n.are_digits apart n.value h.1)
part_described Comma v one rest h apart =
    rw (h.2, append_assoc h.0 (comma ∷ []) rest, skip_blanks-append h.0 (comma ∷ rest) h.1) refl
part_described NewLine v one rest h apart = rw h refl
part_described (String n) text one rest h apart = rw h.0 (string_at-append n text rest h.1)

-- no digit comes first
no_digits : (here : List ℕ) → IsTrue (first_is (λ b. not (is_ascii_digit b)) here)
    → some_digits_at here ≡ refused kinds.DigitExpected here
no_digits [] h = absurd cc
no_digits (b ∷ bs) h = rw (not-true (is_ascii_digit b) h) refl

-- the end comes after blanks
blanks_end : (before : List ℕ) → AreBlanks before → skip_blanks (before ++ []) ≡ []
blanks_end before are = skip_blanks-append before [] are

-- blanks are skipped up to a byte that satisfies the test
record IsApart (f : ℕ → Bool) (before here : List ℕ) : Type 0 where
  found : skip_blanks (before ++ here) ≡ here
  is : IsTrue (first_is f here)

-- the byte after blanks is found
blanks_apart : (f : ℕ → Bool) (before here : List ℕ) → AreBlanks before
    → IsTrue (first_is (λ b. not (is_blank b) && f b) here) → IsApart f before here
blanks_apart f before [] are h = absurd cc
blanks_apart f before (b ∷ bs) are h =
    let p = both_true (not (is_blank b)) (f b) h in
    record {
      found = skip_blanks-append before (b ∷ bs) are
          ∙ rw (not-true (is_blank b) p.0) refl;
      is = p.1;
    }

-- digits after blanks are found
blanks_digits : (before digits rest : List ℕ) → AreBlanks before → AreDigits digits
    → skip_blanks (before ++ (digits ++ rest)) ≡ digits ++ rest
blanks_digits before digits rest are d = skip_blanks-append before (digits ++ rest) are
    ∙ skip_blanks-digits digits rest d

-- a version above 1 is refused
newer_refused : (p : Part) (before here : List ℕ) → IsWrongVersion (λ n. 1 < n) p before here
    → part_at p (before ++ here) ≡ refused kinds.Newer here
unfolding version_at
newer_refused Version before here h =
    let d = h.1 in
    rw (
      d.4,
      blanks_digits before d.0 d.1 h.0 d.2,
      some_digits_at-digits d.0 d.1 d.2 d.3,
      lt-ltb 1 (value_of d.0) d.5,
    ) refl
newer_refused p before here h = absurd h

-- a version of 0 is refused
zero_refused : (p : Part) (before here : List ℕ) → IsWrongVersion (λ n. n ≡ 0) p before here
    → part_at p (before ++ here) ≡ refused kinds.VersionZero here
unfolding version_at
zero_refused Version before here h =
    let d = h.1 in
    rw (d.4, blanks_digits before d.0 d.1 h.0 d.2, some_digits_at-digits d.0 d.1 d.2 d.3, d.5) refl
zero_refused p before here h = absurd h

-- after blanks and a sign
minus_here : (before here : List ℕ) → IsMinus before
    → skip_blanks (before ++ here) ≡ minus_sign ∷ here
minus_here before here h = rw (h.2, append_assoc h.0 (minus_sign ∷ []) here)
    (skip_blanks-append h.0 (minus_sign ∷ here) h.1)

-- neither digit nor `-`
sign_no_digit : (here : List ℕ)
    → IsTrue (first_is (λ b. not (is_ascii_digit b) && not (eqb b minus_sign)) here)
    → signed_at here ≡ refused kinds.DigitExpected here
sign_no_digit [] h = absurd cc
sign_no_digit (b ∷ bs) h =
    let p = both_true (not (is_ascii_digit b)) (not (eqb b minus_sign)) h in
    rw (not-true (eqb b minus_sign) p.1, no_digits (b ∷ bs) p.0) refl

-- a number outside 32 bits fails the test
unfit : (minus : Bool) (v : ℕ) → (FitsSigned w32 (signed minus v) → ⊥)
    → ltb v (cond minus (2 ^ 31 + 1) (2 ^ 31)) ≡ false
unfit minus v h =
    elim (test (ltb v (cond minus (2 ^ 31 + 1) (2 ^ 31))))
    [ inl e ↦ absurd (h (fits_of minus v e)) | inr e ↦ e ]

-- a number outside 32 bits is refused
sign_large : (minus : Bool) (digits rest : List ℕ) → AreDigits digits → IsTrue (no_digit_first rest)
    → (FitsSigned w32 (signed minus (value_of digits)) → ⊥)
    → signed_at (skip_blanks (with_sign minus digits ++ rest)) ≡ refused kinds.NumberTooLarge
    (with_sign minus digits ++ rest)
sign_large true digits rest are apart h =
    rw (some_digits_at-digits digits rest are apart, unfit true (value_of digits) h) refl
sign_large false [] rest are apart h = absurd (are.0 refl)
sign_large false (d ∷ ds) rest are apart h =
    let digit : is_ascii_digit d ≡ true =
    (both_true (is_ascii_digit d) (list_all is_ascii_digit ds) are.1).0 in
    rw (
      skip_blanks-digits (d ∷ ds) rest are,
      digit_is_no_sign d digit,
      some_digits_at-digits
          (d ∷ ds) rest are apart,
      unfit false (value_of (d ∷ ds)) h,
    ) refl

-- another byte is refused
other_byte : (c : ℕ) (here : List ℕ) → IsTrue (first_is (λ b. not (eqb b c)) here)
    → expect_byte c here ≡ refused kinds.SeparatorExpected here
other_byte c [] h = absurd cc
other_byte c (b ∷ bs) h = rw (not-true (eqb b c) h) refl

-- no digit is refused
no_digit_refused : (p : Part) (before here : List ℕ) → LacksNumber p before here
    → part_at p (before ++ here) ≡ refused kinds.DigitExpected here
unfolding version_at length_at
no_digit_refused Version before here h = let a =
    blanks_apart (λ b. not (is_ascii_digit b)) before here h.0 h.1 in
    rw (a.found, no_digits here a.is) refl
no_digit_refused Length before here h = let a =
    blanks_apart (λ b. not (is_ascii_digit b)) before here h.0 h.1 in
    rw (a.found, no_digits here a.is) refl
no_digit_refused Number before here (inl h) = let a =
    blanks_apart (λ b. not (is_ascii_digit b) && not (eqb b minus_sign)) before here h.0 h.1 in
    rw a.found (sign_no_digit here a.is)
no_digit_refused Number before here (inr h) =
    rw (minus_here before here h.0, no_digits here h.1) refl
no_digit_refused p before here h = absurd h

-- a number that is too large is refused
large_refused : (p : Part) (before here : List ℕ) → IsTooLarge p before here
    → part_at p (before ++ here) ≡ refused kinds.NumberTooLarge here
unfolding length_at
large_refused Length before here h =
    let d = h.1 in
    rw (
      d.4,
      blanks_digits before d.0 d.1 h.0 d.2,
      some_digits_at-digits d.0 d.1 d.2 d.3,
      le-ltb (value_of d.0) (2 ^ 64) d.5,
    ) refl
large_refused Number before here h =
    let d = h.1 in
    rw (d.5, skip_blanks-append before (with_sign d.0 d.1 ++ d.2) h.0)
    (sign_large d.0 d.1 d.2 d.3 d.4 d.6)
large_refused p before here h = absurd h

-- another byte than the separator is refused
other_refused : (p : Part) (before here : List ℕ) → LacksSeparator p before here
    → part_at p (before ++ here) ≡ refused kinds.SeparatorExpected here
other_refused Comma before here h = let a =
    blanks_apart (λ b. not (eqb b comma)) before here h.0 h.1 in
    rw (a.found, other_byte comma here a.is) refl
other_refused NewLine before here h = rw (h.0, other_byte newline here h.1) refl
other_refused p before here h = absurd h

-- the end is refused
short_refused : (p : Part) (before : List ℕ) → NeedsMore p before
    → part_at p (before ++ []) ≡ refused kinds.PrematureEnd []
unfolding version_at length_at string_at
short_refused Version before h = rw (blanks_end before h) refl
short_refused Length before h = rw (blanks_end before h) refl
short_refused Number before (inl h) = rw (blanks_end before h) refl
short_refused Number before (inr h) = rw (minus_here before [] h) refl
short_refused Comma before h = rw (blanks_end before h) refl
short_refused NewLine before h = rw h refl
short_refused (String n) before h = rw (append-nil before, lt-ltb (length before) n h) refl

-- a part that is wrong is refused so
pub part_refused : (kind : FrozenKind) (p : Part) (before here : List ℕ)
    → IsWrong kind p before here → part_at p (before ++ here) ≡ refused kind here
part_refused kinds.Newer p before here h = newer_refused p before here h
part_refused kinds.VersionZero p before here h = zero_refused p before here h
part_refused kinds.DigitExpected p before here h = no_digit_refused p before here h
part_refused kinds.NumberTooLarge p before here h = large_refused p before here h
part_refused kinds.SeparatorExpected p before here h = other_refused p before here h
part_refused kinds.PrematureEnd p before here h = rw h.1 (short_refused p before h.0)
part_refused kind p before here h = absurd h

-- a layout with a part that is wrong is refused so
pub layout_refused : {A : Type 0} (kind : FrozenKind) (l : Layout A) (before here : List ℕ)
    → IsWrongWithin kind l before here → layout_at l (before ++ here) ≡ refused kind here
layout_refused kind (Done x) before here h = absurd h
layout_refused kind (Then p after) before here (inl h) =
    rw (part_refused kind p before here h) refl
layout_refused kind (Then p after) before here (inr h) =
    let parts : before ++ here ≡ h.1 ++ (h.2 ++ here) = rw h.5 (append_assoc h.1 h.2 here) in
    rw (parts, part_described p h.0 h.1 (h.2 ++ here) h.3 h.4)
    (layout_refused kind (after h.0) h.2 here h.6)
