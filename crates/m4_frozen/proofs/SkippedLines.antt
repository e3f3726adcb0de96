-- Empty lines and comment lines, as a test that walks over the bytes.
use Rattle.std.proofs.Common.{◌≡◌, ℕ, Bool, true, false, ◌||◌, not, eqb, List, [], ◌∷◌, ◌++◌, refl, ap, ◌∙◌, cond}
use Rattle.std.proofs.Common.{inl, inr}
use Rattle.std.specs.Prelude.{IsTrue, All}
use Rattle.std.proofs.lemmas.List.{append-nil}
use Rattle.std.proofs.lemmas.List.Elements.{All-nil, All-cons, All-head, All-tail, All-append}
use Rattle.std.proofs.lemmas.Grind.{flat_map-append}
use Rattle.std.specs.List.{flat_map}
use Rattle.m4_frozen.specs.Ascii.{newline, hash}
use Rattle.m4_frozen.specs.ReaderSteps.{skip_lines}
use Rattle.m4_frozen.specs.Spells.{IsSkippedLine, HasNoNewline, ended, AreSkippedLines, AreLines}
use Rattle.m4_frozen.proofs.ByteTests.{test, eq_of}

-- Whether bytes are empty lines and comment lines. `inside` says that a comment has begun, and
-- `may_lack` that the last comment may lack its newline.
abbrev pub are_skipped : Bool → Bool → List ℕ → Bool
are_skipped may_lack inside [] = may_lack || not inside
are_skipped may_lack false (b ∷ bs) =
    cond (eqb b newline) (are_skipped may_lack false bs)
    (cond (eqb b hash) (are_skipped may_lack true bs) false)
are_skipped may_lack true (b ∷ bs) = are_skipped may_lack (not (eqb b newline)) bs

-- a comment goes on to its newline
text_then_lines : (text rest : List ℕ) → HasNoNewline text → IsTrue (are_skipped false false rest)
    → IsTrue (are_skipped false true ((text ++ newline ∷ []) ++ rest))
text_then_lines [] rest h k = k
text_then_lines (b ∷ bs) rest h k = elim (test (eqb b newline)) [
  | inl e ↦ absurd (let n = rw e at h in cc)
  | inr e ↦ ap (λ (x : Bool). are_skipped false (not x) ((bs ++ newline ∷ []) ++ rest)) e
      ∙ text_then_lines bs rest (rw e at h) k
]

-- one line, and those after it
line_then_lines : (line rest : List ℕ) → IsSkippedLine line → IsTrue (are_skipped false false rest)
    → IsTrue (are_skipped false false (ended line ++ rest))
line_then_lines line rest (inl h) k = rw h k
line_then_lines line rest (inr h) k = rw h.2 (text_then_lines h.0 rest h.1 k)

-- all lines pass the test
lines_pass : (lines : List (List ℕ)) → All IsSkippedLine lines
    → IsTrue (are_skipped false false (flat_map ended lines))
lines_pass [] h = refl
lines_pass (line ∷ lines) h = line_then_lines line (flat_map ended lines)
    (All-head IsSkippedLine line lines h)
    (lines_pass lines (All-tail IsSkippedLine line lines h))

pub skipped_pass : (bytes : List ℕ) → AreSkippedLines bytes → IsTrue (are_skipped false false bytes)
skipped_pass bytes h = rw h.2 (lines_pass h.0 h.1)

-- what bytes are that pass the test: lines, or the rest of a comment and then lines
abbrev Passed : Bool → List ℕ → Type 0
Passed false bytes = AreSkippedLines bytes
Passed true bytes =
    (text : List ℕ) × (rest : List ℕ) × HasNoNewline text × AreSkippedLines rest
    × (bytes ≡ (text ++ newline ∷ []) ++ rest)

-- a byte goes before the rest of a comment
more_text : (b : ℕ) (bs : List ℕ) → eqb b newline ≡ false → Passed true bs → Passed true (b ∷ bs)
more_text b bs e r =
    (b ∷ r.0, r.1, rw e r.2, r.3, ap (λ (xs : List ℕ). b ∷ xs) r.4)

-- a line goes before the others
more_lines : (line rest bytes : List ℕ) → IsSkippedLine line → AreSkippedLines rest
    → bytes ≡ ended line ++ rest → AreSkippedLines bytes
more_lines line rest bytes h r e = (
  line ∷ r.0,
  All-cons IsSkippedLine line r.0 h r.1,
  e ∙ ap (λ (xs : List ℕ). ended line ++ xs) r.2,
)

passed : (inside : Bool) (bytes : List ℕ) → IsTrue (are_skipped false inside bytes)
    → Passed inside bytes
passed false [] h = ([], All-nil IsSkippedLine, refl)
passed true [] h = absurd cc
passed true (b ∷ bs) h = elim (test (eqb b newline)) [
  | inl e ↦ ([], bs, refl, passed false bs (rw e at h), rw (eq_of b newline e) refl)
  | inr e ↦ more_text b bs e (passed true bs (rw e at h))
]
passed false (b ∷ bs) h = elim (test (eqb b newline)) [
  | inl e ↦ more_lines [] bs (b ∷ bs) (inl refl) (passed false bs (rw e at h))
      (ap (λ (x : ℕ). x ∷ bs) (eq_of b newline e))
  | inr e ↦ elim (test (eqb b hash)) [
    | inl f ↦
        let r = passed true bs (rw (e, f) at h) in
        let parts : b ∷ bs ≡ ended (hash ∷ r.0) ++ r.1 =
        ap (λ (x : ℕ). x ∷ bs) (eq_of b hash f) ∙ ap (λ (xs : List ℕ). hash ∷ xs) r.4 in
        more_lines (hash ∷ r.0) r.1 (b ∷ bs) (inr (r.0, r.2, refl)) r.3 parts
    | inr f ↦ (let k = rw (e, f) at h in absurd cc)
  ]
]

-- bytes that pass the test are lines
pub passed_skipped : (bytes : List ℕ) → IsTrue (are_skipped false false bytes) → AreSkippedLines bytes
passed_skipped bytes h = passed false bytes h

-- an open comment passes, where the newline may lack
open_text_passes : (text : List ℕ) → HasNoNewline text → IsTrue (are_skipped true true text)
open_text_passes [] h = refl
open_text_passes (b ∷ bs) h = elim (test (eqb b newline)) [
  | inl e ↦ absurd (let k = rw e at h in cc)
  | inr e ↦ rw e (open_text_passes bs (rw e at h))
]

-- so does an open line
pub open_line_passes : (line : List ℕ) → IsSkippedLine line → IsTrue (are_skipped true false line)
open_line_passes line (inl h) = rw h refl
open_line_passes line (inr h) = rw h.2 (open_text_passes h.0 h.1)

-- whole lines and then last ones
lines_then_last : (inside : Bool) (lines rest : List ℕ) → IsTrue (are_skipped false inside lines)
    → IsTrue (are_skipped true false rest) → IsTrue (are_skipped true inside (lines ++ rest))
lines_then_last true [] rest h k = absurd cc
lines_then_last false [] rest h k = k
lines_then_last true (b ∷ lines) rest h k = lines_then_last (not (eqb b newline)) lines rest h k
lines_then_last false (b ∷ lines) rest h k =
    elim (test (eqb b newline)) [
      | inl e ↦ rw e (lines_then_last false lines rest (rw e at h) k)
      | inr e ↦ elim (test (eqb b hash)) [
        | inl f ↦ rw (e, f) (lines_then_last true lines rest (rw (e, f) at h) k)
        | inr f ↦ (let k = rw (e, f) at h in absurd cc)
      ]
    ]

-- the last lines of a file pass
pub last_pass : (bytes : List ℕ) → AreLines true bytes → IsTrue (are_skipped true false bytes)
last_pass bytes h =
    rw h.4 (lines_then_last false h.0 h.1 (skipped_pass h.0 h.2) (open_line_passes h.1 h.3))

-- what passes at the front is skipped
skips_passed : (inside : Bool) (lines rest : List ℕ)
    → IsTrue (are_skipped false inside lines)
    → skip_lines inside (lines ++ rest) ≡ skip_lines false rest
skips_passed true [] rest h = absurd cc
skips_passed false [] rest h = refl
skips_passed true (b ∷ lines) rest h = skips_passed (not (eqb b newline)) lines rest h
skips_passed false (b ∷ lines) rest h =
    elim (test (eqb b newline)) [
      | inl e ↦ rw e (skips_passed false lines rest (rw e at h))
      | inr e ↦ elim (test (eqb b hash)) [
        | inl f ↦ rw (e, f) (skips_passed true lines rest (rw (e, f) at h))
        | inr f ↦ (let k = rw (e, f) at h in absurd cc)
      ]
    ]

-- what passes up to the end is skipped
skips_last : (inside : Bool) (bs : List ℕ) → IsTrue (are_skipped true inside bs)
    → skip_lines inside bs ≡ []
skips_last true [] h = refl
skips_last false [] h = refl
skips_last true (b ∷ bs) h = skips_last (not (eqb b newline)) bs h
skips_last false (b ∷ bs) h =
    elim (test (eqb b newline)) [
      | inl e ↦ rw e (skips_last false bs (rw e at h))
      | inr e ↦ elim (test (eqb b hash)) [
        | inl f ↦ rw (e, f) (skips_last true bs (rw (e, f) at h))
        | inr f ↦ (let k = rw (e, f) at h in absurd cc)
      ]
    ]

-- whole lines at the front are skipped
pub skip_lines-append : (lines rest : List ℕ) → AreSkippedLines lines
    → skip_lines false (lines ++ rest) ≡ skip_lines false rest
skip_lines-append lines rest h = skips_passed false lines rest (skipped_pass lines h)

-- lines up to the end are skipped, the last without its newline too
pub skip_lines-last : (bytes : List ℕ) → AreLines true bytes → skip_lines false bytes ≡ []
skip_lines-last bytes h = skips_last false bytes (last_pass bytes h)

-- so is an open line alone
pub skip_lines-open : (line : List ℕ) → IsSkippedLine line → skip_lines false line ≡ []
skip_lines-open line h = skips_last false line (open_line_passes line h)

-- one more line follows others
pub AreSkippedLines-push : (lines line : List ℕ) → AreSkippedLines lines → IsSkippedLine line
    → AreSkippedLines (lines ++ ended line)
AreSkippedLines-push lines line h is = (
  h.0 ++ line ∷ [],
  All-append IsSkippedLine h.0 (line ∷ []) h.1
      (All-cons IsSkippedLine line [] is (All-nil IsSkippedLine)),
  rw (h.2, flat_map-append ended h.0 (line ∷ []), append-nil (ended line)) refl,
)
