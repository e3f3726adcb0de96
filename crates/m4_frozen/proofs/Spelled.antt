-- What the reader answers for a whole file is what the definitions say.
use Rattle.std.proofs.Common.{◌≡◌, ℕ, zero, suc, ◌+◌, ◌-◌, ◌<◌, Bool, true, false, ◌&&◌, not, eqb, List, [], ◌∷◌}
use Rattle.std.proofs.Common.{◌++◌, length, Option, Some, None, Result, Ok, Err, refl, sym, ap, subst, ◌∙◌}
use Rattle.std.proofs.Common.{append_assoc, arith, inl, inr, ◌⊎◌}
use Rattle.std.specs.Prelude.{IsTrue}
use Rattle.std.specs.List.{list_all}
use Rattle.std.proofs.lemmas.List.{length-append, append-nil}
use Rattle.m4_frozen.specs.Ascii.{newline, hash, letter_C, letter_D, letter_F, letter_Q, letter_T, letter_V}
use Rattle.m4_frozen.specs.declared.fault.Refusal.{Refusal}
use Rattle.m4_frozen.specs.declared.fault.FrozenKind.{FrozenKind}
use Rattle.m4_frozen.specs.declared.fault.FrozenKind.TheVariants as kinds
use Rattle.m4_frozen.specs.Directive.{Directive, Quotes, Comments, Text, Builtin}
use Rattle.m4_frozen.specs.Spells.{IsSkippedLine, IsNumber, IsPair, IsDiversion, SpellsOne, AreSkippedLines}
use Rattle.m4_frozen.specs.Spells.{SpellsAll, Spells}
use Rattle.m4_frozen.specs.ReaderSteps.{◌>>=◌, Step, refused, layout_at, directive_by, directive_at, skip_lines, next_at}
use Rattle.m4_frozen.specs.ReaderSteps.{directives_at, after_version, file_at}
use Rattle.m4_frozen.specs.Layout.{Part, Layout, Done, Then, IsWrong, pair_layout, diversion_layout, version_layout}
use Rattle.m4_frozen.specs.Layout.{layout_of, IsWrongWithin}
use Rattle.m4_frozen.specs.FaultAt.{RowFits, FitsWithin, IsFault}
use Rattle.m4_frozen.specs.ReaderSteps.{fault_of}
use Rattle.m4_frozen.proofs.SkippedLines.{are_skipped, passed_skipped}
use Rattle.m4_frozen.proofs.ByteTests.{by_test, test, eq_of}
use Rattle.m4_frozen.proofs.Parts.{by_bind, IsSpelled, LayoutSays, layout_says}

-- what the layout of a pair spells is a directive with two strings
pair_spells : (letter : ℕ) (make : List ℕ → List ℕ → Directive)
    → ((a b bytes : List ℕ) → IsPair letter a b bytes → SpellsOne (make a b) bytes)
    → (d : Directive) (bytes rest : List ℕ) → IsSpelled (pair_layout make) d bytes rest
    → SpellsOne d (letter ∷ bytes)
pair_spells letter make view d bytes rest h =
    let h2 = h.6 in
    let h3 = h2.6 in
    let h4 = h3.6 in
    let h5 = h4.6 in
    let h6 = h5.6 in
    let h7 = h6.6 in
    let p : IsPair letter h5.0 h6.0 (letter ∷ bytes) = record {
      first_number = h.1;
      blanks = h2.3.0;
      second_number = h3.1;
      first_length = rw h5.3.1 h.3.0;
      are_blanks = h2.3.1;
      second_length = rw h6.3.1 h3.3.0;
      fits = (rw h5.3.1 h.3.1, rw h6.3.1 h3.3.1);
      spelled = rw (
        h.5,
        h2.5,
        h2.3.2,
        h3.5,
        h4.5,
        h4.3,
        h5.5,
        h5.3.0,
        h6.5,
        h6.3.0,
        h7.5,
        h7.3,
        h7.6.1,
      ) (simp append_assoc);
    } in
    subst (λ (x : Directive). SpellsOne x (letter ∷ bytes)) h7.6.0
    (view h5.0 h6.0 (letter ∷ bytes) p)

-- what the layout of a diversion spells is a diversion
diversion_spells : (d : Directive) (bytes rest : List ℕ) → IsSpelled diversion_layout d bytes rest
    → SpellsOne d (letter_D ∷ bytes)
diversion_spells d bytes rest h =
    let h2 = h.6 in
    let h3 = h2.6 in
    let h4 = h3.6 in
    let h5 = h4.6 in
    let h6 = h5.6 in
    let p : IsDiversion h.0 h5.0 (letter_D ∷ bytes) = record {
      first_number = h.1;
      blanks = h2.3.0;
      second_number = h3.1;
      number_is = h.3.0;
      are_blanks = h2.3.1;
      text_length = rw h5.3.1 h3.3.0;
      fits = (h.3.1, rw h5.3.1 h3.3.1);
      spelled = rw (h.5, h2.5, h2.3.2, h3.5, h4.5, h4.3, h5.5, h5.3.0, h6.5, h6.3, h6.6.1)
          (simp append_assoc);
    } in
    subst (λ (x : Directive). SpellsOne x (letter_D ∷ bytes)) h6.6.0 p

-- what follows from an answer
pub by_result : {A : Type 0} (P Q : Result A Refusal → Type 0) (r : Result A Refusal) → P r
    → ((x : A) → P (Ok x) → Q (Ok x)) → ((e : Refusal) → P (Err e) → Q (Err e)) → Q r
by_result P Q (Ok x) p g h = g x p
by_result P Q (Err e) p g h = h e p

-- a directive at the front, or a row of the table
abbrev pub DirectiveSays : ℕ → List ℕ → Step Directive → Type 0
DirectiveSays letter bytes (Ok v) = (one : List ℕ) × SpellsOne v.0 (letter ∷ one)
    × (bytes ≡ one ++ v.1)
DirectiveSays letter bytes (Err e) = (before : List ℕ) × (here : List ℕ)
    × RowFits e.kind true before here × (letter ∷ bytes ≡ before ++ here)
    × (e.bytes_left ≡ length here)

-- a kind that no part has is none within a layout
never : {A : Type 0} (kind : FrozenKind) (l : Layout A) (before here : List ℕ)
    → ((p : Part) (b x : List ℕ) → IsWrong kind p b x → ⊥) → IsWrongWithin kind l before here → ⊥
never kind (Done x) before here f h = h
never kind (Then p after) before here f (inl h) = f p before here h
never kind (Then p after) before here f (inr h) = never kind (after h.0) h.2 here f h.6

-- so it is none after a letter
never_within : (kind : FrozenKind) (versioned : Bool) (before here : List ℕ)
    → ((p : Part) (b x : List ℕ) → IsWrong kind p b x → ⊥) → FitsWithin kind versioned before here → ⊥
never_within kind true before here f h = never kind h.3.0 h.1 here f h.3.2
never_within kind false before here f h = never kind version_layout h.1 here f h.3.1

-- a fault after a letter is a row of the table
row_of : (kind : FrozenKind) (versioned : Bool) (before here : List ℕ)
    → FitsWithin kind versioned before here → RowFits kind versioned before here
row_of kinds.NoVersion v before here h = absurd (never_within kinds.NoVersion v before here (λ p b x k. k) h)
row_of kinds.SecondVersion v before here h =
    absurd (never_within kinds.SecondVersion v before here (λ p b x k. k) h)
row_of kinds.UnknownDirective v before here h =
    absurd (never_within kinds.UnknownDirective v before here (λ p b x k. k) h)
row_of kinds.Read v before here h = never_within kinds.Read v before here (λ p b x k. k) h
row_of kinds.OutOfMemory v before here h = never_within kinds.OutOfMemory v before here (λ p b x k. k) h
row_of kind v before here h = h

-- what a layout says, its letter says
by_layout : (letter : ℕ) (l : Layout Directive) (bytes : List ℕ) (r : Step Directive)
    → layout_of letter ≡ Some l
    → ((d : Directive) (one rest : List ℕ) → IsSpelled l d one rest → SpellsOne d (letter ∷ one))
    → LayoutSays l bytes r → DirectiveSays letter bytes r
by_layout letter l bytes (Ok v) e f h = (h.0, f v.0 h.0 v.1 h.1, h.2)
by_layout letter l bytes (Err x) e f h = (
  letter ∷ h.0,
  h.1,
  row_of x.kind true (letter ∷ h.0) h.1 (letter, h.0, refl, (l, e, h.2)),
  ap (λ (xs : List ℕ). letter ∷ xs) h.3,
  h.4,
)

-- two strings are read after a letter, or a row of the table fits
pair_says : (letter : ℕ) (make : List ℕ → List ℕ → Directive) (bytes : List ℕ)
    → layout_of letter ≡ Some (pair_layout make)
    → ((a b bs : List ℕ) → IsPair letter a b bs → SpellsOne (make a b) bs)
    → DirectiveSays letter bytes (layout_at (pair_layout make) bytes)
pair_says letter make bytes is view = by_layout letter (pair_layout make) bytes _ is
    (pair_spells letter make view) (layout_says (pair_layout make) bytes)

-- a directive is read, or a row of the table fits
pub directive_says : (letter : ℕ) (bytes : List ℕ)
    → eqb letter newline ≡ false → eqb letter hash ≡ false
    → DirectiveSays letter bytes (directive_at letter bytes)
unfolding directive_at
directive_says letter bytes no_newline no_hash =
    let D = λ (o : Option (Layout Directive)). DirectiveSays letter bytes (directive_by o letter bytes) in
    by_test D (eqb letter letter_Q) _ _
    (λ e. rw (eq_of letter letter_Q e) (pair_says letter_Q Quotes bytes refl (λ a b bs p. p)))
    (λ e1. by_test D (eqb letter letter_C) _ _
    (λ e. rw (eq_of letter letter_C e) (pair_says letter_C Comments bytes refl (λ a b bs p. p)))
    (λ e2. by_test D (eqb letter letter_T) _ _
    (λ e. rw (eq_of letter letter_T e) (pair_says letter_T Text bytes refl (λ a b bs p. p)))
    (λ e3. by_test D (eqb letter letter_F) _ _
    (λ e. rw (eq_of letter letter_F e) (pair_says letter_F Builtin bytes refl (λ a b bs p. p)))
    (λ e4. by_test D (eqb letter letter_D) _ _
    (λ e. rw (eq_of letter letter_D e) (by_layout letter_D diversion_layout bytes _ refl diversion_spells
    (layout_says diversion_layout bytes)))
    (λ e5. by_test (λ (k : FrozenKind). DirectiveSays letter bytes (refused k (letter ∷ bytes))) (eqb letter letter_V) _ _
    (λ e. ([], letter ∷ bytes, (refl, refl, e), refl, refl))
    (λ e6. (
      [],
      letter ∷ bytes,
      (refl, refl, simp (no_newline, no_hash, e1, e2, e3, e4, e5, e6) refl),
      refl,
      refl,
    )))))))

-- a directive may begin here
abbrev pub is_letter : List ℕ → Bool
is_letter [] = true
is_letter (b ∷ bs) = not (eqb b newline) && not (eqb b hash)

-- whole lines, perhaps an open one at the end of all, and then a directive
abbrev pub HasLines : Bool → List ℕ → List ℕ → Type 0
HasLines inside bytes rest = (lines : List ℕ) × (open_line : List ℕ)
    × IsTrue (are_skipped false inside lines) × IsSkippedLine open_line
    × (bytes ≡ lines ++ open_line ++ rest) × ((open_line ≡ []) ⊎ (rest ≡ []))
    × IsTrue (is_letter rest)

-- the rest of a comment line that lacks its newline
abbrev pub IsOpenRest : Bool → List ℕ → List ℕ → Type 0
IsOpenRest inside bytes rest = (inside ≡ true) × IsTrue (list_all (λ b. not (eqb b newline)) bytes)
    × (rest ≡ [])

-- lines, and then a directive; or an open comment
abbrev pub LinesSay : Bool → List ℕ → List ℕ → Type 0
LinesSay inside bytes rest = HasLines inside bytes rest ⊎ IsOpenRest inside bytes rest

-- one more byte in front of lines
with_byte : (inside later : Bool) (b : ℕ) (bytes rest : List ℕ)
    → ((lines : List ℕ) → are_skipped false inside (b ∷ lines) ≡ are_skipped false later lines)
    → HasLines later bytes rest → HasLines inside (b ∷ bytes) rest
with_byte inside later b bytes rest e h =
    (b ∷ h.0, h.1, rw (e h.0) h.2, h.3, ap (λ (xs : List ℕ). b ∷ xs) h.4, h.5, h.6)

-- a directive's letter begins no line
no_line : (b : ℕ) (bs : List ℕ) → eqb b newline ≡ false → eqb b hash ≡ false
    → HasLines false (b ∷ bs) (b ∷ bs)
no_line b bs e f = ([], [], refl, inl refl, refl, inl refl, rw (e, f) refl)

-- what is skipped are lines
pub lines_say : (inside : Bool) (bytes : List ℕ) → LinesSay inside bytes (skip_lines inside bytes)
lines_say false [] = inl ([], [], refl, inl refl, refl, inl refl, refl)
lines_say true [] = inr (refl, refl, refl)
lines_say true (b ∷ bs) = elim (test (eqb b newline)) [
  | inl e ↦ rw e (elim (lines_say false bs) [
    | inl h ↦ inl (with_byte true false b bs (skip_lines false bs) (λ lines. rw e refl) h)
    | inr h ↦ absurd (let k = h.0 in cc)
  ])
  | inr e ↦ rw e (elim (lines_say true bs) [
    | inl h ↦ inl (with_byte true true b bs (skip_lines true bs) (λ lines. rw e refl) h)
    | inr h ↦ inr (refl, h.1, h.2)
  ])
]
lines_say false (b ∷ bs) = elim (test (eqb b newline)) [
  | inl e ↦ rw e (elim (lines_say false bs) [
    | inl h ↦ inl (with_byte false false b bs (skip_lines false bs) (λ lines. rw e refl) h)
    | inr h ↦ absurd (let k = h.0 in cc)
  ])
  | inr e ↦ elim (test (eqb b hash)) [
    | inl f ↦ rw (e, f) (elim (lines_say true bs) [
      | inl h ↦ inl (with_byte false true b bs (skip_lines true bs) (λ lines. rw (e, f) refl) h)
      | inr h ↦ inl (
        [],
        b ∷ bs,
        refl,
        inr (bs, h.1, rw (eq_of b hash f) refl),
        rw h.2 (sym (append-nil (b ∷ bs))),
        inr h.2,
        rw h.2 refl,
      )
    ])
    | inr f ↦ rw (e, f) (inl (no_line b bs e f))
  ]
]

-- the same where no comment has begun
pub has_lines : (bytes : List ℕ) → HasLines false bytes (skip_lines false bytes)
has_lines bytes = elim (lines_say false bytes) [ inl h ↦ h | inr h ↦ absurd (let k = h.0 in cc) ]

-- the directives of all bytes after the version, or the fault
abbrev pub DirectivesSay : List ℕ → Result (List Directive) Refusal → Type 0
DirectivesSay bytes (Ok ds) = SpellsAll true ds bytes
DirectivesSay bytes (Err e) = (front : List ℕ) × (before : List ℕ) × (here : List ℕ)
    × (ds : List Directive) × SpellsAll false ds front × RowFits e.kind true before here
    × (bytes ≡ front ++ before ++ here) × (e.bytes_left ≡ length here)

-- a directive goes before the others
after_one : (bytes lines one rest : List ℕ) (d : Directive) (r : Result (List Directive) Refusal)
    → AreSkippedLines lines → SpellsOne d one → bytes ≡ lines ++ one ++ rest
    → DirectivesSay rest r → DirectivesSay bytes (r >>= λ ds. Ok (d ∷ ds))
after_one bytes lines one rest d (Ok ds) are h e k = (lines, one, rest, are, h, k, e)
after_one bytes lines one rest d (Err x) are h e k = (
  lines ++ one ++ k.0,
  k.1,
  k.2,
  d ∷ k.3,
  (lines, one, k.0, are, h, k.4, refl),
  k.5,
  rw (e, k.6) (simp append_assoc),
  k.7,
)

-- the directives read after a directive, if there was one
abbrev after : ℕ → Option (Directive × List ℕ) → Result (List Directive) Refusal
after n None = Ok []
after n (Some d) = directives_at n d.1 >>= λ ds. Ok (d.0 ∷ ds)

-- fewer bytes follow a directive
shorter : (lines one rest bytes : List ℕ) (b : ℕ) → bytes ≡ lines ++ (b ∷ one) ++ rest
    → length rest < length bytes
shorter lines one rest bytes b e = rw e (simp length-append (omega arith))

-- a line is open only at the end
no_both_open : (open_line : List ℕ) (b : ℕ) (bs : List ℕ) → (open_line ≡ []) ⊎ (b ∷ bs ≡ [])
    → open_line ≡ []
no_both_open open_line b bs (inl e) = e
no_both_open open_line b bs (inr e) = absurd cc

-- two tests that fail
pub and_nots : (a b : Bool) → not a && not b ≡ true → (a ≡ false) × (b ≡ false)
and_nots false false e = (refl, refl)
and_nots true b e = absurd cc
and_nots false true e = absurd cc

-- the same after the lines
directives_say_of : (n : ℕ) (bytes rest : List ℕ)
    → ((later : List ℕ) → length later < length bytes → DirectivesSay later (directives_at n later))
    → HasLines false bytes rest → DirectivesSay bytes (next_at rest >>= after n)
directives_say_of n bytes [] ih h =
    (h.0, h.1, passed_skipped h.0 h.2, h.3, h.4 ∙ append-nil (h.0 ++ h.1))
directives_say_of n bytes (b ∷ bs) ih h =
    let none : h.1 ≡ [] = no_both_open h.1 b bs h.5 in
    let e : bytes ≡ h.0 ++ b ∷ bs = h.4 ∙ rw (none, append-nil h.0) refl in
    let apart = and_nots (eqb b newline) (eqb b hash) h.6 in
    by_bind (DirectiveSays b bs)
    (λ (r : Result (Option (Directive × List ℕ)) Refusal). DirectivesSay bytes (r >>= after n))
    (directive_at b bs) _ (directive_says b bs apart.0 apart.1)
    (λ d k.
    let parts : bytes ≡ h.0 ++ (b ∷ k.0) ++ d.1 = e ∙ rw k.2 (simp append_assoc) in
    after_one bytes h.0 (b ∷ k.0) d.1 d.0 (directives_at n d.1)
    (passed_skipped h.0 h.2) k.1 parts
    (ih d.1 (shorter h.0 k.0 d.1 bytes b parts)))
    (λ x k. (h.0, k.0, k.1, [], passed_skipped h.0 h.2, k.2, rw (e, k.3) (simp append_assoc), k.4))

-- the directives up to the end are spelled, or the fault has its front
pub directives_say : (n : ℕ) (bytes : List ℕ) → length bytes < n
    → DirectivesSay bytes (directives_at n bytes)
unfolding directives_at
directives_say zero bytes lt = absurd (omega arith)
directives_say (suc n) bytes lt = directives_say_of n bytes (skip_lines false bytes)
    (λ later less. directives_say n later (omega arith)) (has_lines bytes)

-- the bytes after the version, or the fault before them
abbrev pub StartSays : List ℕ → Result (List ℕ) Refusal → Type 0
StartSays bytes (Ok rest) = (lines : List ℕ) × (number : List ℕ) × AreSkippedLines lines
    × IsNumber 1 number × (bytes ≡ lines ++ letter_V ∷ number ++ newline ∷ rest)
StartSays bytes (Err e) = (front : List ℕ) × (before : List ℕ) × (here : List ℕ)
    × AreSkippedLines front × RowFits e.kind false before here × (bytes ≡ front ++ before ++ here)
    × (e.bytes_left ≡ length here)

-- lines and the version are read, or a row fits
pub start_says_of : (bytes rest : List ℕ) → HasLines false bytes rest
    → StartSays bytes (after_version rest)
start_says_of bytes [] h = (h.0, h.1, [], passed_skipped h.0 h.2, (refl, inr (h.3, refl)), h.4, refl)
start_says_of bytes (b ∷ bs) h =
    let none : h.1 ≡ [] = no_both_open h.1 b bs h.5 in
    let e : bytes ≡ h.0 ++ b ∷ bs = h.4 ∙ rw (none, append-nil h.0) refl in
    let apart = and_nots (eqb b newline) (eqb b hash) h.6 in
    by_test (StartSays bytes) (eqb b letter_V) _ _
    (λ f.
    let letter : b ≡ letter_V = eq_of b letter_V f in
    by_bind (LayoutSays version_layout bs) (StartSays bytes) (layout_at version_layout bs) _
    (layout_says version_layout bs)
    (λ v k. let k1 = k.1 in let k2 = k1.6 in
    (h.0, k1.1, passed_skipped h.0 h.2, k1.3, rw (e, letter, k.2, k1.5, k2.5, k2.3, k2.6.1) (simp append_assoc)))
    (λ x k. (
      h.0,
      letter_V ∷ k.0,
      k.1,
      passed_skipped h.0 h.2,
      row_of x.kind false (letter_V ∷ k.0) k.1 (letter_V, k.0, refl, (refl, k.2)),
      rw (e, letter, k.3) (simp append_assoc),
      k.4,
    )))
    (λ f. (
      h.0,
      [],
      b ∷ bs,
      passed_skipped h.0 h.2,
      (refl, inl (refl, simp (apart.0, apart.1, f) refl)),
      rw (append-nil h.0) e,
      refl,
    ))

-- what the answer for a file says
abbrev pub FileSays : List ℕ → Result (List Directive) Refusal → Type 0
FileSays bytes (Ok ds) = Spells ds bytes
FileSays bytes (Err e) = IsFault bytes (fault_of bytes e)

-- the place of a fault, counted from the front
place_of_left : (front before here bytes : List ℕ) (left : ℕ) → bytes ≡ front ++ before ++ here
    → left ≡ length here → length bytes - left ≡ length (front ++ before)
place_of_left front before here bytes left e f = rw (e, f) (simp length-append (omega arith))

-- What the reader answers for a whole file are directives that it spells, or its fault.
pub file_says : (bytes : List ℕ) → FileSays bytes (file_at bytes)
unfolding file_at
file_says bytes = by_bind (StartSays bytes) (FileSays bytes)
    (after_version (skip_lines false bytes)) _
    (start_says_of bytes (skip_lines false bytes) (has_lines bytes))
    (λ rest h. by_result (DirectivesSay rest) (FileSays bytes)
    (directives_at (length rest + 1) rest) (directives_say (length rest + 1) rest (omega arith))
    (λ ds k. record {
      lines = h.0;
      number = h.1;
      rest = rest;
      are_lines = h.2;
      version =
          h.3;
      others = k;
      spelled = h.4;
    })
    (λ e k.
    let parts : bytes ≡ (h.0 ++ letter_V ∷ h.1 ++ newline ∷ k.0) ++ k.1 ++ k.2 =
    rw (h.4, k.6) (simp append_assoc) in
    record {
      versioned = true;
      front = h.0 ++ letter_V ∷ h.1 ++ newline ∷ k.0;
      before = k.1;
      here = k.2;
      spelled = parts;
      is_front = (h.0, h.1, k.0, k.3, h.2, h.3, k.4, refl);
      fits = k.5;
      place = place_of_left (h.0 ++ letter_V ∷ h.1 ++ newline ∷ k.0) k.1 k.2 bytes e.bytes_left
          parts k.7;
    }))
    (λ e h. record {
      versioned = false;
      front = h.0;
      before = h.1;
      here = h.2;
      spelled = h.5;
      is_front = h.3;
      fits = h.4;
      place = place_of_left h.0 h.1 h.2 bytes e.bytes_left h.5 h.6;
    })
