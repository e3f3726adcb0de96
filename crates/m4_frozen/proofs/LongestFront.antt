-- No front is longer than one after which a row of the table fits.
use Rattle.std.proofs.Common.{◌≡◌, ℕ, ◌≤◌, Bool, true, false, not, eqb, List, [], ◌∷◌, ◌++◌, length, Option, Some}
use Rattle.std.proofs.Common.{Result, Ok, Err, refl, sym, ap, subst, ◌∙◌, append_assoc, arith, inl, inr}
use Rattle.std.specs.Prelude.{IsTrue, codes}
use Rattle.std.specs.List.{list_all}
use Rattle.std.proofs.lemmas.List.{length-append, append-nil}
use Rattle.m4_frozen.specs.Ascii.{newline, hash, letter_V}
use Rattle.m4_frozen.specs.declared.fault.Refusal.{Refusal}
use Rattle.m4_frozen.specs.declared.fault.FrozenKind.{FrozenKind}
use Rattle.m4_frozen.specs.declared.fault.FrozenKind.TheVariants as kinds
use Rattle.m4_frozen.specs.Directive.{Directive}
use Rattle.m4_frozen.specs.Spells.{AreSkippedLines, SpellsAll}
use Rattle.m4_frozen.specs.ReaderSteps.{skip_lines, next_at, after_version}
use Rattle.m4_frozen.specs.Layout.{first_is}
use Rattle.m4_frozen.specs.FaultAt.{ExactFault, RowFits, FitsWithin, IsFront, IsFault, FaultAt, IsLongest, is_none_of}
use Rattle.m4_frozen.proofs.SkippedLines.{are_skipped, skipped_pass, skip_lines-append}
use Rattle.m4_frozen.proofs.ByteTests.{by_test, test, eq_of}
use Rattle.m4_frozen.proofs.ReadBack.{one_is_read, next_at-spelled, version_at-number}
use Rattle.m4_frozen.proofs.FirstFault.{no_line, row_refused, row_refused_before, none_of}

-- what is skipped is at the front
skip_lines-le : (inside : Bool) (bytes : List ℕ) → length (skip_lines inside bytes) ≤ length bytes
skip_lines-le inside [] = omega arith
skip_lines-le true (b ∷ bs) = omega (arith, skip_lines-le (not (eqb b newline)) bs)
skip_lines-le false (b ∷ bs) =
    by_test (λ (xs : List ℕ). length xs ≤ length (b ∷ bs)) (eqb b newline) _ _
    (λ e. omega (arith, skip_lines-le false bs))
    (λ e. by_test (λ (xs : List ℕ). length xs ≤ length (b ∷ bs)) (eqb b hash) _ _
    (λ f. omega (arith, skip_lines-le true bs)) (λ f. omega arith))

-- after complete lines, if no line begins there, no more lines fit
lines_max : (lines other tail rest : List ℕ) → AreSkippedLines lines → AreSkippedLines other
    → lines ++ tail ≡ other ++ rest → skip_lines false tail ≡ tail → length tail ≤ length rest
lines_max lines other tail rest a b e stops =
    let same : tail ≡ skip_lines false rest = sym stops ∙ sym (skip_lines-append lines tail a)
    ∙ ap (skip_lines false) e ∙ skip_lines-append other rest b in
    omega (arith, ap length same, skip_lines-le false rest)

-- a directive comes
abbrev next : Directive × List ℕ → Result (Option (Directive × List ℕ)) Refusal
next d = Ok (Some d)

-- it is one
same_next : (a b : Directive × List ℕ) → next a ≡ next b → a ≡ b
same_next a b e = cc

-- no directive comes where a fault does
no_next : (a : Directive × List ℕ) (e : Refusal) (r : Result (Option (Directive × List ℕ)) Refusal)
    → r ≡ next a → r ≡ Err e → ⊥
no_next a e r p q = cc

-- after directives, if a fault follows, no more directives fit
directives_max : (ds es : List Directive) (front other tail rest : List ℕ) (x : Refusal)
    → SpellsAll false ds front → SpellsAll false es other → front ++ tail ≡ other ++ rest
    → next_at (skip_lines false tail) ≡ Err x → skip_lines false tail ≡ tail
    → length tail ≤ length rest
directives_max [] [] front other tail rest x a b e f stops =
    lines_max front other tail rest a b e stops
directives_max [] (d ∷ es) front other tail rest x a b e f stops =
    let parts : other ++ rest ≡ b.0 ++ b.1 ++ (b.2 ++ rest) =
    rw b.6 (append_assoc (b.0 ++ b.1) b.2 rest) in
    let there : next_at (skip_lines false (front ++ tail)) ≡ next (d, b.2 ++ rest) =
    rw (e, parts)
    (next_at-spelled d b.0 b.1 (b.2 ++ rest) b.3 (one_is_read d b.1 (b.2 ++ rest) b.4)) in
    absurd (no_next (d, b.2 ++ rest) x _ there (rw (skip_lines-append front tail a) f))
directives_max (d ∷ ds) [] front other tail rest x a b e f stops =
    let r = one_is_read d a.1 (a.2 ++ tail) a.4 in
    let parts : front ++ tail ≡ a.0 ++ (a.1 ++ (a.2 ++ tail)) =
    rw a.6 (append_assoc (a.0 ++ a.1) a.2 tail ∙ append_assoc a.0 a.1 (a.2 ++ tail)) in
    let same : a.0 ++ r.letter ∷ r.after ≡ other ++ rest =
    ap (λ (bs : List ℕ). a.0 ++ bs) (sym r.begins) ∙ sym parts ∙ e in
    omega (
      arith,
      lines_max a.0 other (r.letter ∷ r.after) rest a.3 b same r.apart,
      ap length r.begins,
      length-append a.1 (a.2 ++ tail),
      length-append a.2 tail,
    )
directives_max (d ∷ ds) (c ∷ es) front other tail rest x a b e f stops =
    let one : front ++ tail ≡ a.0 ++ a.1 ++ (a.2 ++ tail) =
    rw a.6 (append_assoc (a.0 ++ a.1) a.2 tail) in
    let two : other ++ rest ≡ b.0 ++ b.1 ++ (b.2 ++ rest) =
    rw b.6 (append_assoc (b.0 ++ b.1) b.2 rest) in
    let here : next_at (skip_lines false (front ++ tail)) ≡ next (d, a.2 ++ tail) =
    rw one (next_at-spelled d a.0 a.1 (a.2 ++ tail) a.3 (one_is_read d a.1 (a.2 ++ tail) a.4)) in
    let there : next_at (skip_lines false (front ++ tail)) ≡ next (c, b.2 ++ rest) =
    rw (e, two)
    (next_at-spelled c b.0 b.1 (b.2 ++ rest) b.3 (one_is_read c b.1 (b.2 ++ rest) b.4)) in
    directives_max ds es a.2 b.2 tail rest x a.5 b.5
    (ap (λ (p : Directive × List ℕ). p.1)
    (same_next (d, a.2 ++ tail) (c, b.2 ++ rest) (sym here ∙ there))) f stops

-- no line begins within a directive
within_stops : (kind : FrozenKind) (before here : List ℕ) → FitsWithin kind true before here
    → skip_lines false (before ++ here) ≡ before ++ here
within_stops kind before here h = rw h.2 (no_line h.0 h.3.0 (h.1 ++ here) h.3.1)

-- nor at a `V`
letter_stops : (here : List ℕ) → IsTrue (first_is (λ b. eqb b letter_V) here)
    → skip_lines false here ≡ here
letter_stops [] h = refl
letter_stops (b ∷ bs) h = rw (eq_of b letter_V h) refl

-- nor at an unknown byte
none_stops : (cs here : List ℕ) → IsTrue (first_is (is_none_of (newline ∷ hash ∷ cs)) here)
    → skip_lines false here ≡ here
none_stops cs [] h = refl
none_stops cs (b ∷ bs) h =
    let p = none_of newline (hash ∷ cs) b h in
    rw (p.0, (none_of hash cs b p.1).0) refl

-- no line begins where a row fits
row_stops : (kind : FrozenKind) (before here : List ℕ) → RowFits kind true before here
    → skip_lines false (before ++ here) ≡ before ++ here
row_stops kinds.NoVersion before here h = absurd (let k = h.0 in cc)
row_stops kinds.SecondVersion before here h = rw h.1 (letter_stops here h.2)
row_stops kinds.UnknownDirective before here h =
    rw h.1 (none_stops (codes "CDFQTV") here h.2)
row_stops kinds.Read before here h = absurd h
row_stops kinds.OutOfMemory before here h = absurd h
row_stops kind before here h = within_stops kind before here h

-- nor within the version
within_stops_before : (kind : FrozenKind) (before here : List ℕ) → FitsWithin kind false before here
    → skip_lines false (before ++ here) ≡ before ++ here
within_stops_before kind before here h = rw (h.2, h.3.0) refl

-- no line ends here
abbrev has_no_newline : List ℕ → Bool
has_no_newline bs = list_all (λ b. not (eqb b newline)) bs

-- a comment that has no newline is not whole
not_closed : (bs rest : List ℕ) → IsTrue (has_no_newline (bs ++ rest))
    → IsTrue (are_skipped false true bs) → ⊥
not_closed [] rest h k = cc
not_closed (b ∷ bs) rest h k = elim (test (eqb b newline)) [
  | inl e ↦ (let n = rw e at h in absurd cc)
  | inr e ↦ not_closed bs rest (rw e at h) (rw e at k)
]

-- equal lists begin with the same byte
head_is : (a b : ℕ) (cs bs : List ℕ) → a ∷ cs ≡ b ∷ bs → a ≡ b
head_is a b cs bs e = cc

-- and go on with the same bytes
tail_is : (a b : ℕ) (cs bs : List ℕ) → a ∷ cs ≡ b ∷ bs → cs ≡ bs
tail_is a b cs bs e = cc

-- after complete lines, an open line contains no other complete one
open_max : (inside : Bool) (lines other text rest : List ℕ)
    → IsTrue (are_skipped false inside lines) → IsTrue (are_skipped false inside other)
    → IsTrue (has_no_newline text) → lines ++ hash ∷ text ≡ other ++ rest
    → length (hash ∷ text) ≤ length rest
open_max inside lines [] text rest a b h e =
    omega (arith, ap length e, length-append lines (hash ∷ text))
open_max true [] (c ∷ other) text rest a b h e = absurd cc
open_max false [] (c ∷ other) text rest a b h e =
    let k : IsTrue (are_skipped false false (hash ∷ other)) =
    subst (λ (x : ℕ). IsTrue (are_skipped false false (x ∷ other)))
    (sym (head_is hash c text (other ++ rest) e)) b in
    absurd (not_closed other rest (rw (tail_is hash c text (other ++ rest) e) at h) k)
open_max true (d ∷ lines) (c ∷ other) text rest a b h e =
    let same = head_is d c (lines ++ hash ∷ text) (other ++ rest) e in
    open_max (not (eqb d newline)) lines other text rest a (rw same b) h
    (tail_is d c (lines ++ hash ∷ text) (other ++ rest) e)
open_max false (d ∷ lines) (c ∷ other) text rest a b h e =
    let same = head_is d c (lines ++ hash ∷ text) (other ++ rest) e in
    let left = tail_is d c (lines ++ hash ∷ text) (other ++ rest) e in
    let k : IsTrue (are_skipped false false (d ∷ other)) = rw same b in
    elim (test (eqb d newline)) [
      | inl f ↦ open_max false lines other text rest (rw f at a) (rw f at k) h left
      | inr f ↦ elim (test (eqb d hash)) [
        | inl g ↦ open_max true lines other text rest (rw (f, g) at a) (rw (f, g) at k) h left
        | inr g ↦ (let n = rw (f, g) at a in absurd cc)
      ]
    ]

-- before the version no longer front fits
row_max_before : (kind : FrozenKind) (front other before here rest : List ℕ) → AreSkippedLines front
    → AreSkippedLines other → RowFits kind false before here
    → front ++ (before ++ here) ≡ other ++ rest → length (before ++ here) ≤ length rest
row_max_before kinds.NoVersion front other before here rest a b (k, inl h) e =
    lines_max front other (before ++ here) rest a b e (rw h.0 (none_stops (codes "V") here h.1))
row_max_before kinds.NoVersion front other before here rest a b (k, inr (inl h, is)) e =
    rw (h, is) (omega arith)
row_max_before kinds.NoVersion front other before here rest a b (k, inr (inr h, is)) e =
    let whole : before ++ here ≡ hash ∷ h.0 = rw (is, h.2, append-nil h.0) refl in
    rw whole (open_max false front other h.0 rest (skipped_pass front a) (skipped_pass other b) h.1
    (ap (λ (bs : List ℕ). front ++ bs) (sym whole) ∙ e))
row_max_before kinds.SecondVersion front other before here rest a b h e = absurd (let k = h.0 in cc)
row_max_before kinds.UnknownDirective front other before here rest a b h e =
    absurd (let k = h.0 in cc)
row_max_before kinds.Read front other before here rest a b h e = absurd h
row_max_before kinds.OutOfMemory front other before here rest a b h e = absurd h
row_max_before kind front other before here rest a b h e =
    lines_max front other (before ++ here) rest a b e (within_stops_before kind before here h)

-- a front with the version, whatever follows
record Starts (front tail : List ℕ) (rest : List ℕ) : Type 0 where
  lines : List ℕ
  after : List ℕ
  are_lines : AreSkippedLines lines
  parts : front ++ tail ≡ lines ++ letter_V ∷ (after ++ (rest ++ tail))
  gives : after_version (skip_lines false (front ++ tail)) ≡ Ok (rest ++ tail)

-- a front with the version begins so
front_starts : (front tail : List ℕ) → (f : IsFront true front) → Starts front tail f.2
front_starts front tail f =
    let parts : front ++ tail ≡ f.0 ++ letter_V ∷ (f.1 ++ newline ∷ (f.2 ++ tail)) =
    rw f.7 (simp append_assoc) in
    let start : skip_lines false (front ++ tail) ≡ letter_V ∷ (f.1 ++ newline ∷ (f.2 ++ tail)) =
    ap (skip_lines false) parts
    ∙ skip_lines-append f.0 (letter_V ∷ (f.1 ++ newline ∷ (f.2 ++ tail))) f.4 in
    record {
      lines = f.0;
      after = f.1 ++ newline ∷ [];
      are_lines = f.4;
      parts =
          rw (parts, append_assoc f.1 (newline ∷ []) (f.2 ++ tail)) refl;
      gives =
          rw (start, version_at-number f.1 (newline ∷ (f.2 ++ tail)) f.5 refl) refl;
    }

-- an answer without a fault
abbrev given : List ℕ → Result (List ℕ) Refusal
given bs = Ok bs

-- two such answers that are one have the same bytes
same_given : (a b : List ℕ) → given a ≡ given b → a ≡ b
same_given a b e = cc

-- no answer has both
not_given : (a : List ℕ) (e : Refusal) (r : Result (List ℕ) Refusal) → r ≡ given a → r ≡ Err e → ⊥
not_given a e r p q = cc

-- no longer front fits
front_max : (kind : FrozenKind) (v w : Bool) (front other before here rest : List ℕ)
    → IsFront v front → IsFront w other → RowFits kind v before here
    → front ++ (before ++ here) ≡ other ++ rest → length (before ++ here) ≤ length rest
front_max kind true true front other before here rest f g h e =
    let a = front_starts front (before ++ here) f in
    let b = front_starts other rest g in
    let same : f.2 ++ (before ++ here) ≡ g.2 ++ rest =
    same_given _ _ (sym a.gives ∙ ap (λ (bs : List ℕ). after_version (skip_lines false bs)) e
    ∙ b.gives) in
    directives_max f.3 g.3 f.2 g.2 (before ++ here) rest
    (record { kind = kind; bytes_left = length here }) f.6 g.6 same
    (row_refused kind before here h) (row_stops kind before here h)
front_max kind true false front other before here rest f g h e =
    let a = front_starts front (before ++ here) f in
    omega (
      arith,
      lines_max a.lines other (letter_V ∷ (a.after ++ (f.2 ++ (before ++ here)))) rest
          a.are_lines g (sym a.parts ∙ e) refl,
      length-append a.after (f.2 ++ (before ++ here)),
      length-append f.2 (before ++ here),
    )
front_max kind false true front other before here rest f g h e =
    let b = front_starts other rest g in
    absurd (not_given (g.2 ++ rest) (record { kind = kind; bytes_left = length here })
    (after_version (skip_lines false (front ++ (before ++ here)))) (rw e b.gives)
    (rw (skip_lines-append front (before ++ here) f)
    (row_refused_before kind before here h)))
front_max kind false false front other before here rest f g h e =
    row_max_before kind front other before here rest f g h e

-- The front of a fault is the longest.
pub is_longest : (bytes : List ℕ) (fault : ExactFault) → (h : IsFault bytes fault)
    → IsLongest bytes h.front
is_longest bytes fault h = λ w other rest g e.
    let parts : h.front ++ (h.before ++ h.here) ≡ other ++ rest =
    sym (append_assoc h.front h.before h.here) ∙ sym h.spelled ∙ e in
    omega (
      arith,
      front_max fault.kind h.versioned w h.front other h.before h.here rest h.is_front g
          h.fits parts,
      ap length parts,
      length-append h.front (h.before ++ h.here),
      length-append other rest,
    )

-- What the reader answers is the fault.
pub fault_at : (bytes : List ℕ) (fault : ExactFault) → IsFault bytes fault → FaultAt bytes fault
fault_at bytes fault h = record { is = h; longest = is_longest bytes fault h }
