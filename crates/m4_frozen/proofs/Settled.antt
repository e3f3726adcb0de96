-- Which faults are settled by the bytes that have them.
use Rattle.std.proofs.Common.{◌≡◌, ◌≢◌, ℕ, ◌+◌, ◌-◌, ◌*◌, ◌<◌, ◌≤◌, ◌^◌, Bool, true, false, cond, List, [], ◌∷◌, ◌++◌}
use Rattle.std.proofs.Common.{refl, ap, append_assoc, arith, inl, inr}
use Rattle.std.specs.Prelude.{IsTrue, FitsSigned}
use Rattle.std.specs.Int.{w32}
use Rattle.std.specs.List.{list_all}
use Rattle.std.specs.Char.{is_ascii_digit}
use Rattle.std.proofs.lemmas.Bool.{lt-ltb}
use Rattle.m4_frozen.specs.Ascii.{digit_zero}
use Rattle.m4_frozen.specs.declared.fault.FrozenKind.{FrozenKind}
use Rattle.m4_frozen.specs.declared.fault.FrozenKind.TheVariants as kinds
use Rattle.m4_frozen.specs.Spells.{AreDigits, value_of, signed, with_sign}
use Rattle.m4_frozen.specs.ReaderSteps.{digits_at}
use Rattle.m4_frozen.specs.Layout.{Part, Version, Length, Number, Comma, NewLine, String, Layout, Done, Then}
use Rattle.m4_frozen.specs.Layout.{version_layout, IsEnded, no_digit_first, first_is, HasDigits, HasSigned, IsWrong}
use Rattle.m4_frozen.specs.Layout.{IsWrongWithin}
use Rattle.m4_frozen.specs.FaultAt.{ExactFault, RowFits, FitsWithin, IsFault}
use Rattle.m4_frozen.proofs.ByteTests.{both_true, lt_of}
use Rattle.m4_frozen.proofs.Digits.{digits_are, value_from, value_from-ge}
use Rattle.m4_frozen.proofs.ReadBack.{magnitude_fits}
use Rattle.m4_frozen.proofs.Parts.{has_front, fits_of, sign_append}

-- The fault doesn't lie at the end, and is not a zero that digits may still follow.
abbrev pub IsFirm : FrozenKind → List ℕ → Type 0
IsFirm kind here = (here ≢ []) × (kind ≡ kinds.VersionZero → list_all is_ascii_digit here ≡ false)

-- the first byte stays
first_is-more : (f : ℕ → Bool) (here more : List ℕ) → IsTrue (first_is f here)
    → IsTrue (first_is f (here ++ more))
first_is-more f [] more h = absurd cc
first_is-more f (b ∷ bs) more h = h

-- it stays no digit
apart_more : (bytes more : List ℕ) → bytes ≢ [] → IsTrue (no_digit_first bytes)
    → IsTrue (no_digit_first (bytes ++ more))
apart_more [] more h k = absurd (h refl)
apart_more (b ∷ bs) more h k = k

-- bytes that are there stay there
some_more : (a here : List ℕ) → here ≢ [] → a ++ here ≢ []
some_more [] here h = h
some_more (b ∷ bs) here h = λ e. cc

-- digits and digits are digits
pub all_digits-append : (a b : List ℕ) → IsTrue (list_all is_ascii_digit a)
    → IsTrue (list_all is_ascii_digit b) → IsTrue (list_all is_ascii_digit (a ++ b))
all_digits-append [] b h k = k
all_digits-append (d ∷ ds) b h k = let p =
    both_true (is_ascii_digit d) (list_all is_ascii_digit ds) h in
    rw (p.0, all_digits-append ds b p.1 k) refl

-- a number goes on with its next digits
pub value_from-append : (n : ℕ) (a b : List ℕ)
    → value_from n (a ++ b) ≡ value_from (value_from n a) b
value_from-append n [] b = refl
value_from-append n (d ∷ ds) b = value_from-append (10 * n + (d - digit_zero)) ds b

-- more digits make a number no smaller
value_of-more : (a b : List ℕ) → value_of a ≤ value_of (a ++ b)
value_of-more a b = rw (value_from-append 0 a b) (value_from-ge (value_of a) b)

-- more digits are digits too
AreDigits-more : (a b : List ℕ) → AreDigits a → IsTrue (list_all is_ascii_digit b)
    → AreDigits (a ++ b)
AreDigits-more [] b h k = absurd (h.0 refl)
AreDigits-more (d ∷ ds) b h k = ((λ e. cc), all_digits-append (d ∷ ds) b h.1 k)

-- a bound that is exceeded stays exceeded
digits_more : (Is : ℕ → Type 0) → ((n m : ℕ) → n ≤ m → Is n → Is m) → (here more : List ℕ)
    → HasDigits Is here → HasDigits Is (here ++ more)
digits_more Is rises here more h =
    let x : List ℕ × List ℕ = digits_at (h.1 ++ more) in
    let f = has_front (h.1 ++ more) in (
      h.0 ++ x.0,
      x.1,
      AreDigits-more h.0 x.0 h.2 (digits_are (h.1 ++ more)),
      f.apart,
      rw (h.4, append_assoc h.0 h.1 more, append_assoc h.0 x.0 x.1)
          (ap (λ (bs : List ℕ). h.0 ++ bs) f.spelled),
      rises _ _ (value_of-more h.0 x.0) h.5,
    )

-- so it is with a sign
unfit_more : (minus : Bool) (n m : ℕ) → n ≤ m → (FitsSigned w32 (signed minus n) → ⊥)
    → FitsSigned w32 (signed minus m) → ⊥
unfit_more minus n m le h fits =
    let lt : m < cond minus (2 ^ 31 + 1) (2 ^ 31) = lt_of _ _ (magnitude_fits minus m fits) in
    h (fits_of minus n (lt-ltb _ _ (omega arith)))

-- a number outside 32 bits stays outside
signed_more : (here more : List ℕ) → HasSigned (λ z. FitsSigned w32 z → ⊥) here
    → HasSigned (λ z. FitsSigned w32 z → ⊥) (here ++ more)
signed_more here more h =
    let x : List ℕ × List ℕ = digits_at (h.2 ++ more) in
    let f = has_front (h.2 ++ more) in (
      h.0,
      h.1 ++ x.0,
      x.1,
      AreDigits-more h.1 x.0 h.3 (digits_are (h.2 ++ more)),
      f.apart,
      rw (
        h.5,
        sign_append h.0 h.1 x.0,
        append_assoc (with_sign h.0 h.1) h.2 more,
        append_assoc (with_sign h.0 h.1) x.0 x.1,
      )
          (ap (λ (bs : List ℕ). with_sign h.0 h.1 ++ bs) f.spelled),
      unfit_more h.0 _ _ (value_of-more h.1 x.0) h.6,
    )

-- a zero stays one that more than digits follow
zero_more : (here more : List ℕ) → list_all is_ascii_digit here ≡ false
    → HasDigits (λ n. n ≡ 0) here → HasDigits (λ n. n ≡ 0) (here ++ more)
zero_more here more firm h = (
  h.0,
  h.1 ++ more,
  h.2,
  apart_more h.1 more
      (λ e. let all = all_digits-append h.0 h.1 h.2.1 (rw e refl) in let none = rw h.4 at firm in
      cc) h.3,
  rw h.4 (append_assoc h.0 h.1 more),
  h.5,
)

-- a part that is wrong stays wrong
part_wrong_more : (kind : FrozenKind) (p : Part) (before here more : List ℕ) → IsFirm kind here
    → IsWrong kind p before here → IsWrong kind p before (here ++ more)
part_wrong_more kinds.Newer Version before here more firm h =
    (h.0, digits_more (λ n. 1 < n) (λ n m le lt. omega arith) here more h.1)
part_wrong_more kinds.Newer p before here more firm h = absurd h
part_wrong_more kinds.VersionZero Version before here more firm h =
    (h.0, zero_more here more (firm.1 refl) h.1)
part_wrong_more kinds.VersionZero p before here more firm h = absurd h
part_wrong_more kinds.DigitExpected Version before here more firm h =
    (h.0, first_is-more _ here more h.1)
part_wrong_more kinds.DigitExpected Length before here more firm h =
    (h.0, first_is-more _ here more h.1)
part_wrong_more kinds.DigitExpected Number before here more firm (inl h) =
    inl (h.0, first_is-more _ here more h.1)
part_wrong_more kinds.DigitExpected Number before here more firm (inr h) =
    inr (h.0, first_is-more _ here more h.1)
part_wrong_more kinds.DigitExpected p before here more firm h = absurd h
part_wrong_more kinds.NumberTooLarge Length before here more firm h =
    (h.0, digits_more (λ n. 2 ^ 64 ≤ n) (λ n m le lt. omega arith) here more h.1)
part_wrong_more kinds.NumberTooLarge Number before here more firm h =
    (h.0, signed_more here more h.1)
part_wrong_more kinds.NumberTooLarge p before here more firm h = absurd h
part_wrong_more kinds.SeparatorExpected Comma before here more firm h =
    (h.0, first_is-more _ here more h.1)
part_wrong_more kinds.SeparatorExpected NewLine before here more firm h =
    (h.0, first_is-more _ here more h.1)
part_wrong_more kinds.SeparatorExpected p before here more firm h = absurd h
part_wrong_more kinds.PrematureEnd p before here more firm h = absurd (firm.0 h.1)
part_wrong_more kind p before here more firm h = absurd h

-- a part that has ended stays so
ended_more : (p : Part) (bytes more : List ℕ) → bytes ≢ [] → IsEnded p bytes
    → IsEnded p (bytes ++ more)
ended_more Comma bytes more h k = tt
ended_more NewLine bytes more h k = tt
ended_more (String n) bytes more h k = tt
ended_more p bytes more h k = apart_more bytes more h k

-- a layout that is wrong stays wrong
wrong_more : {A : Type 0} (kind : FrozenKind) (l : Layout A) (before here more : List ℕ)
    → IsFirm kind here → IsWrongWithin kind l before here
    → IsWrongWithin kind l before (here ++ more)
wrong_more kind (Done x) before here more firm h = h
wrong_more kind (Then p after) before here more firm (inl h) =
    inl (part_wrong_more kind p before here more firm h)
wrong_more kind (Then p after) before here more firm (inr h) =
    inr (
      h.0,
      h.1,
      h.2,
      h.3,
      rw (← append_assoc h.2 here more)
          (ended_more p (h.2 ++ here) more (some_more h.2 here firm.0) h.4),
      h.5,
      wrong_more kind
          (after h.0) h.2 here more firm h.6,
    )

-- so does a directive
within_more : (kind : FrozenKind) (versioned : Bool) (before here more : List ℕ) → IsFirm kind here
    → FitsWithin kind versioned before here → FitsWithin kind versioned before (here ++ more)
within_more kind true before here more firm h = let m = h.3 in
    (h.0, h.1, h.2, (m.0, m.1, wrong_more kind m.0 h.1 here more firm m.2))
within_more kind false before here more firm h = let m = h.3 in
    (h.0, h.1, h.2, (m.0, wrong_more kind version_layout h.1 here more firm m.1))

-- a row of the table stays
row_more : (kind : FrozenKind) (versioned : Bool) (before here more : List ℕ) → IsFirm kind here
    → RowFits kind versioned before here → RowFits kind versioned before (here ++ more)
row_more kinds.NoVersion versioned before here more firm (e, inl h) =
    (e, inl (h.0, first_is-more _ here more h.1))
row_more kinds.NoVersion versioned before here more firm (e, inr h) = absurd (firm.0 h.1)
row_more kinds.SecondVersion versioned before here more firm h =
    (h.0, h.1, first_is-more _ here more h.2)
row_more kinds.UnknownDirective versioned before here more firm h =
    (h.0, h.1, first_is-more _ here more h.2)
row_more kinds.Read versioned before here more firm h = absurd h
row_more kinds.OutOfMemory versioned before here more firm h = absurd h
row_more kind versioned before here more firm h = within_more kind versioned before here more firm h

-- Whatever follows, a firm fault stays the fault.
pub firm_stays : (bytes : List ℕ) (fault : ExactFault) → (h : IsFault bytes fault)
    → IsFirm fault.kind h.here → (more : List ℕ) → IsFault (bytes ++ more) fault
firm_stays bytes fault h firm more = record {
  versioned = h.versioned;
  front = h.front;
  before = h.before;
  here = h.here ++ more;
  spelled = rw h.spelled (append_assoc (h.front ++ h.before) h.here more);
  is_front = h.is_front;
  fits = row_more fault.kind h.versioned h.before h.here more firm h.fits;
  place = h.place;
}
