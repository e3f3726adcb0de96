-- A fault is settled by the bytes that have it just where it is firm.
use Rattle.std.proofs.Common.{◌≡◌, ℕ, ◌<◌, ◌≤◌, ◌^◌, Bool, true, false, List, [], ◌∷◌, ◌++◌, length, drop, refl, sym}
use Rattle.std.proofs.Common.{ap, ◌∙◌, append_assoc, arith, inl, inr, ◌⊎◌}
use Rattle.std.specs.Prelude.{IsTrue, ◌↔◌}
use Rattle.std.specs.List.{list_all}
use Rattle.std.specs.Char.{is_ascii_digit}
use Rattle.std.proofs.lemmas.Bool.{not-true}
use Rattle.std.proofs.lemmas.List.{length-append, append-nil, drop_at}
use Rattle.m4_frozen.specs.Ascii.{newline}
use Rattle.m4_frozen.specs.declared.fault.FrozenKind.{FrozenKind}
use Rattle.m4_frozen.specs.declared.fault.FrozenKind.TheVariants as kinds
use Rattle.m4_frozen.specs.Spells.{IsSkippedLine, AreDigits, value_of, AreSkippedLines, with_sign}
use Rattle.m4_frozen.specs.Layout.{Part, Version, Length, Number, Comma, NewLine, Layout, Done, Then, version_layout}
use Rattle.m4_frozen.specs.Layout.{no_digit_first, HasDigits, IsWrong, IsWrongWithin}
use Rattle.m4_frozen.specs.FaultAt.{ExactFault, RowFits, FitsWithin, IsFault, IsSettledBy}
use Rattle.m4_frozen.proofs.SkippedLines.{AreSkippedLines-push}
use Rattle.m4_frozen.proofs.ByteTests.{test, both_true}
use Rattle.m4_frozen.proofs.FirstFault.{one_fault}
use Rattle.m4_frozen.proofs.Settled.{IsFirm, firm_stays, value_from-append, all_digits-append}
use Rattle.m4_frozen.proofs.LongestFront.{fault_at}

-- there are no digits at the end
some_digits_here : (Is : ℕ → Type 0) → HasDigits Is [] → ⊥
some_digits_here Is ([], rest, are, apart, e, is) = are.0 refl
some_digits_here Is (d ∷ ds, rest, are, apart, e, is) = cc

-- nor with a sign
some_signed_here : (minus : Bool) (digits rest : List ℕ) → AreDigits digits
    → [] ≡ with_sign minus digits ++ rest → ⊥
some_signed_here true digits rest are e = cc
some_signed_here false [] rest are e = are.0 refl
some_signed_here false (d ∷ ds) rest are e = cc

-- a part that is wrong at the end needs more bytes
part_wrong_at_end : (kind : FrozenKind) (p : Part) (before : List ℕ) → IsWrong kind p before []
    → kind ≡ kinds.PrematureEnd
part_wrong_at_end kinds.PrematureEnd p before h = refl
part_wrong_at_end kinds.Newer Version before h = absurd (some_digits_here (λ n. 1 < n) h.1)
part_wrong_at_end kinds.Newer p before h = absurd h
part_wrong_at_end kinds.VersionZero Version before h = absurd (some_digits_here (λ n. n ≡ 0) h.1)
part_wrong_at_end kinds.VersionZero p before h = absurd h
part_wrong_at_end kinds.DigitExpected Version before h = absurd (let k = h.1 in cc)
part_wrong_at_end kinds.DigitExpected Length before h = absurd (let k = h.1 in cc)
part_wrong_at_end kinds.DigitExpected Number before (inl h) = absurd (let k = h.1 in cc)
part_wrong_at_end kinds.DigitExpected Number before (inr h) = absurd (let k = h.1 in cc)
part_wrong_at_end kinds.DigitExpected p before h = absurd h
part_wrong_at_end kinds.NumberTooLarge Length before h =
    absurd (some_digits_here (λ n. 2 ^ 64 ≤ n) h.1)
part_wrong_at_end kinds.NumberTooLarge Number before h = let d = h.1 in
    absurd (some_signed_here d.0 d.1 d.2 d.3 d.5)
part_wrong_at_end kinds.NumberTooLarge p before h = absurd h
part_wrong_at_end kinds.SeparatorExpected Comma before h = absurd (let k = h.1 in cc)
part_wrong_at_end kinds.SeparatorExpected NewLine before h = absurd (let k = h.1 in cc)
part_wrong_at_end kinds.SeparatorExpected p before h = absurd h
part_wrong_at_end kind p before h = absurd h

-- so does a layout
wrong_at_end : {A : Type 0} (kind : FrozenKind) (l : Layout A) (before : List ℕ)
    → IsWrongWithin kind l before [] → kind ≡ kinds.PrematureEnd
wrong_at_end kind (Done x) before h = absurd h
wrong_at_end kind (Then p after) before (inl h) = part_wrong_at_end kind p before h
wrong_at_end kind (Then p after) before (inr h) = wrong_at_end kind (after h.0) h.2 h.6

-- what lies in wait at the end of a whole part
short_at_end : {A : Type 0} (l : Layout A) (before here : List ℕ)
    → IsWrongWithin kinds.PrematureEnd l before here → here ≡ []
short_at_end (Done x) before here h = absurd h
short_at_end (Then p after) before here (inl h) = h.1
short_at_end (Then p after) before here (inr h) = short_at_end (after h.0) h.2 here h.6

-- the same of a directive
short_within : (versioned : Bool) (before here : List ℕ)
    → FitsWithin kinds.PrematureEnd versioned before here → here ≡ []
short_within true before here h = short_at_end h.3.0 h.1 here h.3.2
short_within false before here h = short_at_end version_layout h.1 here h.3.1

-- there is a zero that is a fault
zero_within : {A : Type 0} (l : Layout A) (before here : List ℕ)
    → IsWrongWithin kinds.VersionZero l before here → HasDigits (λ n. n ≡ 0) here
zero_within (Done x) before here h = absurd h
zero_within (Then Version after) before here (inl h) = h.1
zero_within (Then p after) before here (inl h) = absurd h
zero_within (Then p after) before here (inr h) = zero_within (after h.0) h.2 here h.6

-- the same of a directive
within_zero : (versioned : Bool) (before here : List ℕ)
    → FitsWithin kinds.VersionZero versioned before here → HasDigits (λ n. n ≡ 0) here
within_zero true before here h = zero_within h.3.0 h.1 here h.3.2
within_zero false before here h = zero_within version_layout h.1 here h.3.1

-- digits alone have their value
all_digits : (ds rest : List ℕ) → IsTrue (list_all is_ascii_digit (ds ++ rest))
    → IsTrue (no_digit_first rest) → rest ≡ []
all_digits [] [] h apart = refl
all_digits [] (b ∷ bs) h apart = let p =
    both_true (is_ascii_digit b) (list_all is_ascii_digit bs) h in let q =
    not-true (is_ascii_digit b) apart in absurd (let r = p.0 in cc)
all_digits (d ∷ ds) rest h apart =
    all_digits ds rest (both_true (is_ascii_digit d) (list_all is_ascii_digit (ds ++ rest)) h).1
    apart

-- digits up to the end have the value
zero_value : (here : List ℕ) → IsTrue (list_all is_ascii_digit here) → HasDigits (λ n. n ≡ 0) here
    → value_of here ≡ 0
zero_value here all h =
    let none : h.1 ≡ [] = all_digits h.0 h.1 (rw h.4 at all) h.3 in
    rw (h.4, none, append-nil h.0) h.5

-- with a 1 after them they are no zero
not_zero : (here : List ℕ) → value_of (here ++ 49 ∷ []) ≡ 0 → ⊥
not_zero here e = let k = value_from-append 0 here (49 ∷ []) in omega (arith, k)

-- A zero that digits may follow is not settled.
zero_unsettled : (bytes : List ℕ) (fault : ExactFault) → (h : IsFault bytes fault)
    → fault.kind ≡ kinds.VersionZero → IsTrue (list_all is_ascii_digit h.here)
    → IsSettledBy bytes fault → ⊥
zero_unsettled bytes fault h is all settled =
    let q = (settled (49 ∷ [])).is in
    let places : length (q.front ++ q.before) ≡ length (h.front ++ h.before) = sym q.place
    ∙ h.place in
    let same : q.here ≡ h.here ++ 49 ∷ [] =
    sym (drop_at (q.front ++ q.before) q.here (length (h.front ++ h.before)) places)
    ∙ ap (drop (length (h.front ++ h.before))) (sym q.spelled
    ∙ ap (λ (bs : List ℕ). bs ++ 49 ∷ []) h.spelled
    ∙ append_assoc (h.front ++ h.before) h.here (49 ∷ []))
    ∙ drop_at (h.front ++ h.before) (h.here ++ 49 ∷ []) (length (h.front ++ h.before)) refl in
    let row : RowFits kinds.VersionZero q.versioned q.before q.here = rw is at q.fits in
    let digits : HasDigits (λ n. n ≡ 0) (h.here ++ 49 ∷ []) =
    rw same at (within_zero q.versioned q.before q.here row) in
    not_zero h.here
    (zero_value (h.here ++ 49 ∷ []) (all_digits-append h.here (49 ∷ []) all refl) digits)

-- what can be wrong at the end
abbrev pub EndsSo : FrozenKind → Bool → List ℕ → Type 0
EndsSo kind versioned before = (kind ≡ kinds.PrematureEnd)
    ⊎ ((kind ≡ kinds.NoVersion) × (versioned ≡ false) × IsSkippedLine before)

-- so it is within a directive
within_end : (kind : FrozenKind) (versioned : Bool) (before : List ℕ)
    → FitsWithin kind versioned before [] → EndsSo kind versioned before
within_end kind true before h = inl (wrong_at_end kind h.3.0 h.1 h.3.2)
within_end kind false before h = inl (wrong_at_end kind version_layout h.1 h.3.1)

-- so it is of any row
pub row_end : (kind : FrozenKind) (versioned : Bool) (before : List ℕ)
    → RowFits kind versioned before [] → EndsSo kind versioned before
row_end kinds.NoVersion versioned before (e, inl h) = absurd (let k = h.1 in cc)
row_end kinds.NoVersion versioned before (e, inr h) = inr (refl, e, h.0)
row_end kinds.SecondVersion versioned before h = absurd (let k = h.2 in cc)
row_end kinds.UnknownDirective versioned before h = absurd (let k = h.2 in cc)
row_end kinds.Read versioned before h = absurd h
row_end kinds.OutOfMemory versioned before h = absurd h
row_end kind versioned before h = within_end kind versioned before h

-- where a byte is missing, one more moves the fault
short_unsettled : (bytes : List ℕ) (fault : ExactFault) → (h : IsFault bytes fault) → h.here ≡ []
    → fault.kind ≡ kinds.PrematureEnd → IsSettledBy bytes fault → ⊥
short_unsettled bytes fault h none is settled =
    let q = (settled (0 ∷ [])).is in
    let row : RowFits kinds.PrematureEnd q.versioned q.before q.here = rw is at q.fits in
    let nothing : q.here ≡ [] = short_within q.versioned q.before q.here row in
    omega (
      arith,
      ap length q.spelled,
      ap length h.spelled,
      ap length nothing,
      ap length none,
      h.place,
      q.place,
      length-append bytes (0 ∷ []),
      length-append (q.front ++ q.before) q.here,
      length-append (h.front ++ h.before) h.here,
    )

-- where a line is open, its newline moves the fault
open_unsettled : (bytes : List ℕ) (fault : ExactFault) → (h : IsFault bytes fault) → h.here ≡ []
    → h.versioned ≡ false → IsSkippedLine h.before → IsSettledBy bytes fault → ⊥
open_unsettled bytes fault h none first is settled =
    let lines : AreSkippedLines h.front = rw first at h.is_front in
    let more : bytes ++ newline ∷ [] ≡ h.front ++ (h.before ++ newline ∷ []) =
    rw (h.spelled, none) (simp append_assoc) in
    let closed : AreSkippedLines (bytes ++ newline ∷ []) =
    rw more (AreSkippedLines-push h.front h.before lines is) in
    let r : IsFault (bytes ++ newline ∷ [])
    (record { kind = kinds.NoVersion; offset = length (bytes ++ newline ∷ []) }) = record {
      versioned = false;
      front = bytes ++ newline ∷ [];
      before = [];
      here = [];
      spelled = sym (append-nil _ ∙ append-nil _);
      is_front = closed;
      fits = (refl, inr (inl refl, refl));
      place = ap length (sym (append-nil (bytes ++ newline ∷ [])));
    } in
    let same = one_fault (bytes ++ newline ∷ []) fault _ (settled (newline ∷ [])).is r in
    omega (
      arith,
      ap (λ (f : ExactFault). f.offset) same,
      h.place,
      ap length h.spelled,
      ap length none,
      length-append bytes (newline ∷ []),
      length-append (h.front ++ h.before) h.here,
    )

-- no fault at the end is settled
end_unsettled : (bytes : List ℕ) (fault : ExactFault) → (h : IsFault bytes fault) → h.here ≡ []
    → IsSettledBy bytes fault → ⊥
end_unsettled bytes fault h none settled =
    elim (row_end fault.kind h.versioned h.before (rw none at h.fits)) [
      | inl e ↦ short_unsettled bytes fault h none e settled
      | inr e ↦ open_unsettled bytes fault h none e.1 e.2 settled
    ]

-- A fault of bytes is settled by them just where it is firm.
pub settled_is_firm : (bytes : List ℕ) (fault : ExactFault) → (h : IsFault bytes fault)
    → IsSettledBy bytes fault ↔ IsFirm fault.kind h.here
settled_is_firm bytes fault h = (
  λ settled. (
    (λ none. end_unsettled bytes fault h none settled),
    λ is. elim (test (list_all is_ascii_digit h.here))
        [ inl all ↦ absurd (zero_unsettled bytes fault h is all settled) | inr e ↦ e ],
  ),
  λ firm more. fault_at (bytes ++ more) fault (firm_stays bytes fault h firm more),
)
