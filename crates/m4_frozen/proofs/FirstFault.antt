-- A fault of the bytes is what the reader answers, so there is one at most.
use Rattle.std.proofs.Common.{◌≡◌, ℕ, zero, suc, ◌+◌, ◌-◌, ◌<◌, Bool, true, false, not, eqb, List, [], ◌∷◌, ◌++◌}
use Rattle.std.proofs.Common.{length, Option, Some, Result, Ok, Err, refl, sym, ap, ◌∙◌, append_assoc, arith, inl}
use Rattle.std.proofs.Common.{inr}
use Rattle.std.specs.Prelude.{IsTrue, codes}
use Rattle.std.proofs.lemmas.Bool.{not-true}
use Rattle.std.proofs.lemmas.List.{length-append, append-nil}
use Rattle.m4_frozen.specs.Ascii.{newline, hash, letter_C, letter_D, letter_F, letter_Q, letter_T, letter_V}
use Rattle.m4_frozen.specs.declared.fault.Refusal.{Refusal}
use Rattle.m4_frozen.specs.declared.fault.FrozenKind.{FrozenKind}
use Rattle.m4_frozen.specs.declared.fault.FrozenKind.TheVariants as kinds
use Rattle.m4_frozen.specs.Directive.{Directive}
use Rattle.m4_frozen.specs.Spells.{Spells, SpellsAll}
use Rattle.m4_frozen.specs.ReaderSteps.{refused, layout_at, directive_by, directive_at, skip_lines, next_at}
use Rattle.m4_frozen.specs.ReaderSteps.{directives_at, after_version, file_at, fault_of}
use Rattle.m4_frozen.specs.Layout.{Layout, layout_of, version_layout, first_is}
use Rattle.m4_frozen.specs.FaultAt.{ExactFault, RowFits, FitsWithin, IsFront, IsFault, is_none_of}
use Rattle.m4_frozen.proofs.SkippedLines.{skip_lines-append, skip_lines-open}
use Rattle.m4_frozen.proofs.ByteTests.{test, both_true, eq_of}
use Rattle.m4_frozen.proofs.ReadBack.{one_is_read, next_at-spelled, length-SpellsAll, version_at-number}
use Rattle.m4_frozen.proofs.ReadBack.{file_at-spelled}
use Rattle.m4_frozen.proofs.RowsRefused.{layout_refused}

-- a directive with a letter of the table is read by its layout
pub by_letter : (letter : ℕ) (l : Layout Directive) (bytes : List ℕ) → layout_of letter ≡ Some l
    → directive_at letter bytes ≡ layout_at l bytes
unfolding directive_at
by_letter letter l bytes h = ap (λ (o : Option (Layout Directive)). directive_by o letter bytes) h

-- a letter of the table begins no line
pub no_line : (letter : ℕ) (l : Layout Directive) (bs : List ℕ) → layout_of letter ≡ Some l
    → skip_lines false (letter ∷ bs) ≡ letter ∷ bs
no_line letter l bs h =
    elim (test (eqb letter newline)) [
      | inl e ↦ absurd (let k = rw (eq_of letter newline e) at h in cc)
      | inr e ↦ elim (test (eqb letter hash)) [
        | inl f ↦ absurd (let k = rw (eq_of letter hash f) at h in cc)
        | inr f ↦ rw (e, f) refl
      ]
    ]

-- a fault within a directive is answered
within_refused : (kind : FrozenKind) (before here : List ℕ) → FitsWithin kind true before here
    → next_at (skip_lines false (before ++ here)) ≡ refused kind here
within_refused kind before here h =
    let m = h.3 in
    rw (
      h.2,
      no_line h.0 m.0 (h.1 ++ here) m.1,
      by_letter h.0 m.0 (h.1 ++ here) m.1,
      layout_refused kind m.0 h.1 here m.2,
    ) refl

-- a second `V` is refused
second_refused : (here : List ℕ) → IsTrue (first_is (λ b. eqb b letter_V) here)
    → next_at (skip_lines false here) ≡ refused kinds.SecondVersion here
unfolding directive_at
second_refused [] h = absurd cc
second_refused (b ∷ bs) h = rw (eq_of b letter_V h) refl

-- a byte that is none of several
pub none_of : (c : ℕ) (cs : List ℕ) (b : ℕ) → IsTrue (is_none_of (c ∷ cs) b) → (eqb b c ≡ false)
    × IsTrue (is_none_of cs b)
none_of c cs b h = let p = both_true (not (eqb b c)) (is_none_of cs b) h in
    (not-true (eqb b c) p.0, p.1)

-- the letters of directives
abbrev letters : List ℕ
letters = codes "CDFQTV"

-- a byte that begins no directive is refused
unknown_refused : (here : List ℕ)
    → IsTrue (first_is (is_none_of (newline ∷ hash ∷ letters)) here)
    → next_at (skip_lines false here) ≡ refused kinds.UnknownDirective here
unfolding directive_at
unknown_refused [] h = absurd cc
unknown_refused (b ∷ bs) h =
    let h1 = none_of newline (hash ∷ letters) b h in
    let h2 = none_of hash letters b h1.1 in
    let h3 = none_of letter_C (codes "DFQTV") b h2.1 in
    let h4 = none_of letter_D (codes "FQTV") b h3.1 in
    let h5 = none_of letter_F (codes "QTV") b h4.1 in
    let h6 = none_of letter_Q (codes "TV") b h5.1 in
    let h7 = none_of letter_T (codes "V") b h6.1 in
    let h8 = none_of letter_V [] b h7.1 in
    simp (h1.0, h2.0, h3.0, h4.0, h5.0, h6.0, h7.0, h8.0) refl

-- after the version the result is a row of the table
pub row_refused : (kind : FrozenKind) (before here : List ℕ) → RowFits kind true before here
    → next_at (skip_lines false (before ++ here)) ≡ refused kind here
row_refused kinds.NoVersion before here h = absurd (let k = h.0 in cc)
row_refused kinds.SecondVersion before here h = rw h.1 (second_refused here h.2)
row_refused kinds.UnknownDirective before here h = rw h.1 (unknown_refused here h.2)
row_refused kinds.Read before here h = absurd h
row_refused kinds.OutOfMemory before here h = absurd h
row_refused kind before here h = within_refused kind before here h

-- the same after directives
directives_refused : (kind : FrozenKind) (ds : List Directive) (front before here : List ℕ) (n : ℕ)
    → SpellsAll false ds front → RowFits kind true before here
    → length ds < n → directives_at n (front ++ (before ++ here)) ≡ refused kind here
unfolding directives_at
directives_refused kind ds front before here zero w h lt = absurd (omega arith)
directives_refused kind [] front before here (suc n) w h lt =
    rw (skip_lines-append front (before ++ here) w, row_refused kind before here h) refl
directives_refused kind (d ∷ ds) front before here (suc n) w h lt =
    let rest : List ℕ = w.2 ++ (before ++ here) in
    let parts : front ++ (before ++ here) ≡ w.0 ++ w.1 ++ rest =
    rw w.6 (append_assoc (w.0 ++ w.1) w.2 (before ++ here)) in
    rw (
      parts,
      next_at-spelled d w.0 w.1 rest w.3 (one_is_read d w.1 rest w.4),
      directives_refused kind ds w.2 before here n w.5 h (omega arith),
    ) refl

-- after the version
after_refused : (kind : FrozenKind) (front before here : List ℕ) → IsFront true front
    → RowFits kind true before here → file_at (front ++ (before ++ here)) ≡ refused kind here
unfolding file_at
after_refused kind front before here f h =
    let rest : List ℕ = f.2 ++ (before ++ here) in
    let parts : front ++ (before ++ here) ≡ f.0 ++ letter_V ∷ (f.1 ++ newline ∷ rest) =
    rw f.7 (simp append_assoc) in
    let start : skip_lines false (front ++ (before ++ here)) ≡ letter_V ∷ (f.1 ++ newline ∷ rest) =
    ap (skip_lines false) parts ∙ skip_lines-append f.0 (letter_V ∷ (f.1 ++ newline ∷ rest)) f.4 in
    rw (
      start,
      version_at-number f.1 (newline ∷ rest) f.5 refl,
      directives_refused kind f.3 f.2 before here (length rest + 1) f.6 h
          (omega (arith, length-SpellsAll false f.3 f.2 f.6, length-append f.2 (before ++ here))),
    ) refl

-- before it
version_refused : (kind : FrozenKind) (before here : List ℕ) → FitsWithin kind false before here
    → after_version (skip_lines false (before ++ here)) ≡ refused kind here
version_refused kind before here h =
    rw (
      h.2,
      h.3.0,
      layout_refused kind version_layout h.1 here h.3.1,
    ) refl

-- a byte before `V` is refused
none_refused : (here : List ℕ) → IsTrue (first_is (is_none_of (newline ∷ hash ∷ letter_V ∷ [])) here)
    → after_version (skip_lines false here) ≡ refused kinds.NoVersion here
none_refused [] h = absurd cc
none_refused (b ∷ bs) h =
    let h1 = none_of newline (hash ∷ letter_V ∷ []) b h in
    let h2 = none_of hash (letter_V ∷ []) b h1.1 in
    let h3 = none_of letter_V [] b h2.1 in
    simp (h1.0, h2.0, h3.0) refl

-- before the version a row of the table is answered
pub row_refused_before : (kind : FrozenKind) (before here : List ℕ) → RowFits kind false before here
    → after_version (skip_lines false (before ++ here)) ≡ refused kind here
row_refused_before kinds.NoVersion before here (e, inl h) = rw h.0 (none_refused here h.1)
row_refused_before kinds.NoVersion before here (e, inr h) =
    rw (h.1, append-nil before, skip_lines-open before h.0) refl
row_refused_before kinds.SecondVersion before here h = absurd (let k = h.0 in cc)
row_refused_before kinds.UnknownDirective before here h = absurd (let k = h.0 in cc)
row_refused_before kinds.Read before here h = absurd h
row_refused_before kinds.OutOfMemory before here h = absurd h
row_refused_before kind before here h = version_refused kind before here h

-- the result is the row after a front
file_refused : (kind : FrozenKind) (versioned : Bool) (front before here : List ℕ)
    → IsFront versioned front → RowFits kind versioned before here
    → file_at (front ++ (before ++ here)) ≡ refused kind here
unfolding file_at
file_refused kind true front before here f h = after_refused kind front before here f h
file_refused kind false front before here f h =
    rw (skip_lines-append front (before ++ here) f, row_refused_before kind before here h)
    refl

-- The reader answers a fault of the bytes.
pub fault_read : (bytes : List ℕ) (fault : ExactFault) → IsFault bytes fault → (e : Refusal)
    × (file_at bytes ≡ Err e) × (fault ≡ fault_of bytes e)
fault_read bytes fault h =
    let e : bytes ≡ h.front ++ (h.before ++ h.here) = h.spelled
    ∙ append_assoc h.front h.before h.here in
    let place : fault.offset ≡ length bytes - length h.here =
    rw (h.spelled, h.place) (simp length-append (omega arith)) in (
      record { kind = fault.kind; bytes_left = length h.here },
      rw e (file_refused fault.kind h.versioned h.front h.before h.here h.is_front h.fits),
      ap (λ (n : ℕ). record { kind = fault.kind; offset = n }) place,
    )

-- an answer with a fault
abbrev stopped : Refusal → Result (List Directive) Refusal
stopped e = Err e

-- two such answers that are one have the same fault
same_stop : (a b : Refusal) → stopped a ≡ stopped b → a ≡ b
same_stop a b e = cc

-- The bytes have one fault at most.
pub one_fault : (bytes : List ℕ) (a b : ExactFault) → IsFault bytes a → IsFault bytes b → a ≡ b
one_fault bytes a b p q =
    let r = fault_read bytes a p in
    let s = fault_read bytes b q in
    r.2 ∙ ap (fault_of bytes) (same_stop r.0 s.0 (sym r.1 ∙ s.1)) ∙ sym s.2

-- no answer has both
not_both : (ds : List Directive) (e : Refusal) (r : Result (List Directive) Refusal) → r ≡ Ok ds
    → r ≡ Err e → ⊥
not_both ds e r p q = cc

-- Bytes that spell directives have none.
pub spelled_no_fault : (ds : List Directive) (bytes : List ℕ) (fault : ExactFault)
    → Spells ds bytes → IsFault bytes fault → ⊥
spelled_no_fault ds bytes fault p q = let r = fault_read bytes fault q in
    not_both ds r.0 (file_at bytes) (file_at-spelled ds bytes p) r.1
