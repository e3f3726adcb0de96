-- A file that is read on: lines are skipped, the version or a directive is read, or it is refused.
use Rattle.std.proofs.Common.{◌≡◌, ℕ, zero, suc, ◌+◌, ◌-◌, ◌<◌, ◌≤◌, Bool, true, false, eqb, List, [], ◌∷◌, ◌++◌}
use Rattle.std.proofs.Common.{length, take, drop, Option, Some, None, Result, Ok, Err, refl, sym, ap, subst, ◌∙◌}
use Rattle.std.proofs.Common.{append_assoc, arith, inl, inr}
use Rattle.std.specs.Prelude.{fold}
use Rattle.std.proofs.lemmas.List.{append-nil, length-append, drop_at, drop-drop}
use Rattle.std.proofs.lemmas.List.Elements.{All-nil}
use Rattle.std.proofs.lemmas.Grind.{flat_map-append}
use Rattle.m4_state.specs.State.{State, empty}
use Rattle.m4_frozen.specs.Ascii.{newline, hash, letter_V}
use Rattle.m4_frozen.specs.declared.fault.Refusal.{Refusal}
use Rattle.m4_frozen.specs.declared.fault.ReadStop.{ReadStop}
use Rattle.m4_frozen.specs.declared.fault.ReadStop.TheVariants as stops
use Rattle.m4_frozen.specs.declared.begun.Begun.{Begun}
use Rattle.m4_frozen.specs.declared.loading.Loading.{Loading}
use Rattle.m4_frozen.specs.declared.loading.Pause.{Pause}
use Rattle.m4_frozen.specs.Denote.{with_directive, issued_by}
use Rattle.m4_frozen.specs.Directive.{Directive, Text}
use Rattle.m4_frozen.specs.Outcome.{Loads}
use Rattle.m4_frozen.specs.Spells.{IsSkippedLine, AreSkippedLines}
use Rattle.m4_frozen.specs.ReaderSteps.{◌>>=◌, Step, skip_lines, next_at, directive_at, directives_at, after_version}
use Rattle.m4_frozen.specs.ReaderSteps.{file_at, is_settled}
use Rattle.m4_frozen.proofs.ByteTests.{test}
use Rattle.m4_frozen.specs.Underway.{IsAtDirective, Skips, with_front, left_at, HasRead, ReadAs, IsTextAt, IsEndOf}
use Rattle.m4_frozen.specs.Underway.{IsRead, HasReadOne, HasAdvanced, HasPaused, Keeps, ReadsOne, IsWithin, PausesAt}
use Rattle.m4_frozen.specs.Underway.{Advances, EndsSo, stays}
use Rattle.m4_frozen.proofs.SkippedLines.{skip_lines-append}
use Rattle.m4_frozen.proofs.ReadBack.{one_is_read, next_at-spelled, version_at-number}
use Rattle.m4_frozen.proofs.Spelled.{DirectiveSays, directive_says, StartSays, start_says_of, has_lines, HasLines}
use Rattle.m4_frozen.proofs.Spelled.{and_nots}
use Rattle.m4_frozen.proofs.Answered.{read_is_spelled}

-- the reading after no directives
with_front-nil : (r : Result (List Directive) Refusal) → r ≡ with_front [] r
with_front-nil (Ok ds) = refl
with_front-nil (Err e) = refl

-- a directive that is read follows those before it
pub regroup : (front : List Directive) (d : Directive) (read : Result (List Directive) Refusal)
    → with_front front (read >>= λ ds. Ok (d ∷ ds)) ≡ with_front (front ++ d ∷ []) read
regroup front d (Ok ds) = ap (λ (xs : List Directive). Ok xs) (simp append_assoc)
regroup front d (Err e) = refl

-- nothing was read yet
pub has_read_nothing : (l : Loading) → l.state ≡ empty → l.issued.items ≡ [] → l.versioned ≡ false
    → l.inside ≡ false → HasRead [] l
unfolding file_at
has_read_nothing l s i v n = record {
  directives = [];
  state = s;
  issued = i;
  goes_on = λ more. record {
    count = length more + 1;
    enough = omega arith;
    answer = rw (v, n) (with_front-nil _);
  };
}

-- lines were skipped
pub has_read_lines : (read skipped : List ℕ) (l : Loading) (inside : Bool) → HasRead read l
    → ((more : List ℕ) → skip_lines l.inside (skipped ++ more) ≡ skip_lines inside more)
    → HasRead (read ++ skipped) (record l { inside = inside })
has_read_lines read skipped l inside h same = record {
  directives = h.directives;
  state = h.state;
  issued = h.issued;
  goes_on = λ more. let g = h.goes_on (skipped ++ more) in record {
    count = g.count;
    enough = omega (arith, g.enough, length-append skipped more);
    answer = ap file_at (append_assoc read skipped more) ∙ g.answer
        ∙ ap (λ (xs : List ℕ). with_front h.directives (left_at l.versioned g.count xs)) (same more);
  };
}

-- no line begins after skipped lines
skip_twice : (inside : Bool) (bytes : List ℕ)
    → skip_lines false (skip_lines inside bytes) ≡ skip_lines inside bytes
skip_twice false [] = refl
skip_twice true [] = refl
skip_twice true (b ∷ bs) = elim (test (eqb b newline)) [
  | inl e ↦ rw e (skip_twice false bs)
  | inr e ↦ rw e (skip_twice true bs)
]
skip_twice false (b ∷ bs) = elim (test (eqb b newline)) [
  | inl e ↦ rw e (skip_twice false bs)
  | inr e ↦ elim (test (eqb b hash)) [
    | inl f ↦ rw (e, f) (skip_twice true bs)
    | inr f ↦ rw (e, f, e, f) refl
  ]
]

-- lines before directives say nothing
pub directives_at-skip : (n : ℕ) (bytes : List ℕ)
    → directives_at n (skip_lines false bytes) ≡ directives_at n bytes
unfolding directives_at
directives_at-skip zero bytes = refl
directives_at-skip (suc n) bytes = rw (skip_twice false bytes) refl

-- where no line begins, none is skipped
pub at_letter : (inside : Bool) (bytes : List ℕ)
    → IsAtDirective inside bytes
    → skip_lines inside bytes ≡ bytes
at_letter true [] h = refl
at_letter false [] h = refl
at_letter inside (b ∷ bs) (inl e) = absurd cc
at_letter inside (b ∷ bs) (inr e) = rw e.0 e.1

-- the version at the front, whatever follows it
record Versioned (bytes after : List ℕ) : Type 0 where
  one : List ℕ
  spelled : bytes ≡ one ++ after
  some : 0 < length one
  gives : (more : List ℕ) → after_version (skip_lines false (one ++ more)) ≡ Ok more

-- what is said of an answer is said of what it is
start_ok : (bytes after : List ℕ) (r : Result (List ℕ) Refusal) → StartSays bytes r
    → r ≡ Ok after → StartSays bytes (Ok after)
start_ok bytes after r h e = rw e at h

start_err : (bytes : List ℕ) (x : Refusal) (r : Result (List ℕ) Refusal) → StartSays bytes r
    → r ≡ Err x → StartSays bytes (Err x)
start_err bytes x r h e = rw e at h

-- the first bytes, before the version
start_here : (bytes : List ℕ) → skip_lines false bytes ≡ bytes
    → StartSays bytes (after_version bytes)
start_here bytes stops = rw stops at (start_says_of bytes (skip_lines false bytes) (has_lines bytes))

version_given : (bytes after : List ℕ) → skip_lines false bytes ≡ bytes
    → after_version bytes ≡ Ok after → Versioned bytes after
version_given bytes after stops e =
    let h = start_ok bytes after (after_version bytes) (start_here bytes stops) e in record {
      one = h.0 ++ letter_V ∷ h.1 ++ newline ∷ [];
      spelled = h.4 ∙ simp append_assoc;
      some = omega (arith, length-append (h.0 ++ letter_V ∷ h.1) (newline ∷ []));
      gives = λ more.
          let parts : (h.0 ++ letter_V ∷ h.1 ++ newline ∷ []) ++ more ≡ h.0 ++ letter_V ∷ (h.1 ++ newline ∷ more) =
          simp append_assoc in
          let start : skip_lines false ((h.0 ++ letter_V ∷ h.1 ++ newline ∷ []) ++ more)
          ≡ letter_V ∷ (h.1 ++ newline ∷ more) =
          ap (skip_lines false) parts
          ∙ skip_lines-append h.0 (letter_V ∷ (h.1 ++ newline ∷ more)) h.2 in
          rw (start, version_at-number h.1 (newline ∷ more) h.3 refl) refl;
    }

-- the version was read
pub has_read_version : (bytes after : List ℕ) (l : Loading)
    → IsAtDirective l.inside bytes
    → l.versioned ≡ false → after_version bytes ≡ Ok after
    → HasReadOne bytes l (record l { versioned = true }) after
has_read_version bytes after l (inl none) v e = absurd (let k = rw none at e in cc)
has_read_version bytes after l (inr at) v e =
    let s = version_given bytes after at.1 e in record {
      one = s.one;
      spelled = s.spelled;
      some = s.some;
      no_text = refl;
      has_read = λ read h. record {
        directives = h.directives;
        state = h.state;
        issued = h.issued;
        goes_on = λ more. let g = h.goes_on (s.one ++ more) in record {
          count = length more + 1;
          enough = omega arith;
          answer = ap file_at (append_assoc read s.one more)
              ∙ (rw (at.0, v, s.gives more) at g.answer)
              ∙ rw at.0 (ap (with_front h.directives)
              (sym (directives_at-skip (length more + 1) more)));
        };
      };
    }

-- what an answer says of directives
directive_ok : (b : ℕ) (bs : List ℕ) (r : Step Directive) (d : Directive) (after : List ℕ)
    → DirectiveSays b bs r → (r >>= λ v. Ok (Some v)) ≡ Ok (Some (d, after))
    → DirectiveSays b bs (Ok (d, after))
directive_ok b bs (Ok v) d after h e =
    let same : v ≡ (d, after) = cc in
    subst (λ (w : Directive × List ℕ). DirectiveSays b bs (Ok w)) same h
directive_ok b bs (Err x) d after h e = absurd cc

directive_err : (b : ℕ) (bs : List ℕ) (r : Step Directive) (x : Refusal) → DirectiveSays b bs r
    → (r >>= λ v. Ok (Some v)) ≡ Err x → DirectiveSays b bs (Err x)
directive_err b bs (Ok v) x h e = absurd cc
directive_err b bs (Err y) x h e =
    let same : y ≡ x = cc in
    subst (λ (w : Refusal). DirectiveSays b bs (Err w)) same h

-- the first bytes, after the version
directive_here : (b : ℕ) (bs : List ℕ) → skip_lines false (b ∷ bs) ≡ b ∷ bs
    → DirectiveSays b bs (directive_at b bs)
directive_here b bs stops =
    let h : HasLines false (b ∷ bs) (b ∷ bs) = rw stops at (has_lines (b ∷ bs)) in
    let apart = and_nots (eqb b newline) (eqb b hash) h.6 in
    directive_says b bs apart.0 apart.1

-- no lines
no_lines : AreSkippedLines []
no_lines = ([], All-nil IsSkippedLine, refl)

-- the state after one more directive
pub fold-push : (s : State) (ds : List Directive) (d : Directive)
    → fold with_directive s (ds ++ d ∷ []) ≡ with_directive (fold with_directive s ds) d
fold-push s [] d = refl
fold-push s (x ∷ ds) d = fold-push (with_directive s x) ds d

-- one more directive is read
one_more : (n : ℕ) (front : List Directive) (d : Directive) (bytes later : List ℕ) → 0 < n
    → next_at (skip_lines false bytes) ≡ Ok (Some (d, later))
    → with_front front (directives_at n bytes)
    ≡ with_front (front ++ d ∷ []) (directives_at (n - 1) later)
unfolding directives_at
one_more zero front d bytes later lt h = absurd (omega arith)
one_more (suc n) front d bytes later lt h =
    let k : suc n - 1 ≡ n = omega arith in
    rw (h, k) (regroup front d (directives_at n later))

-- a directive was read
pub has_read_directive : (bytes after : List ℕ) (d : Directive) (l new : Loading)
    → IsAtDirective l.inside bytes
    → l.versioned ≡ true → next_at bytes ≡ Ok (Some (d, after))
    → new ≡ record l { state = with_directive l.state d; issued = new.issued }
    → new.issued.items ≡ l.issued.items ++ issued_by d
    → HasReadOne bytes l new after
has_read_directive [] after d l new at v e s i = absurd cc
has_read_directive (b ∷ bs) after d l new (inl none) v e s i = absurd cc
has_read_directive (b ∷ bs) after d l new (inr at) v e s i =
    let k = directive_ok b bs (directive_at b bs) d after (directive_here b bs at.1) e in record {
      one = b ∷ k.0;
      spelled = ap (λ (xs : List ℕ). b ∷ xs) k.2;
      some = omega arith;
      no_text = ap (λ (x : Loading). x.begun) s;
      has_read = λ read h. record {
        directives = h.directives ++ d ∷ [];
        state = ap (λ (x : Loading). x.state) s ∙ ap (λ (x : State). with_directive x d) h.state
            ∙ sym (fold-push empty h.directives d);
        issued = i ∙ rw (h.issued, flat_map-append issued_by h.directives (d ∷ []), append-nil (issued_by d)) refl;
        goes_on = λ more. let g = h.goes_on ((b ∷ k.0) ++ more) in
            let next : next_at (skip_lines false ((b ∷ k.0) ++ more)) ≡ Ok (Some (d, more)) =
            next_at-spelled d [] (b ∷ k.0) more no_lines (one_is_read d (b ∷ k.0) more k.1) in
            let nv : new.versioned ≡ true = ap (λ (x : Loading). x.versioned) s ∙ v in
            let ni : new.inside ≡ false = ap (λ (x : Loading). x.inside) s ∙ at.0 in
            record {
              count = g.count - 1;
              enough = omega (arith, g.enough, length-append (b ∷ k.0) more);
              answer = ap file_at (append_assoc read (b ∷ k.0) more)
                  ∙ (rw (at.0, v) at g.answer)
                  ∙ ap (with_front h.directives) (directives_at-skip g.count ((b ∷ k.0) ++ more))
                  ∙ one_more g.count h.directives d ((b ∷ k.0) ++ more) more (omega (arith, g.enough)) next
                  ∙ rw (nv, ni) (ap (with_front (h.directives ++ d ∷ []))
                  (sym (directives_at-skip (g.count - 1) more)));
            };
      };
    }

-- a refusal at the version is the file's
pub version_refused : (read bytes : List ℕ) (x : Refusal) (l : Loading)
    → IsAtDirective l.inside bytes
    → l.versioned ≡ false → after_version bytes ≡ Err x → HasRead read l
    → file_at (read ++ bytes) ≡ Err x
version_refused read bytes x l at v e h =
    let g = h.goes_on bytes in
    g.answer ∙ rw (at_letter l.inside bytes at, v, e) refl

-- directives are refused where the first one is
refused_at_once : (n : ℕ) (bytes : List ℕ) (x : Refusal) → 0 < n → skip_lines false bytes ≡ bytes
    → next_at bytes ≡ Err x → directives_at n bytes ≡ Err x
unfolding directives_at
refused_at_once zero bytes x lt stops e = absurd (omega arith)
refused_at_once (suc n) bytes x lt stops e = rw (stops, e) refl

-- a refusal at a directive is the file's
pub directive_refused : (read bytes : List ℕ) (x : Refusal) (l : Loading)
    → IsAtDirective l.inside bytes
    → l.versioned ≡ true → next_at bytes ≡ Err x → HasRead read l
    → file_at (read ++ bytes) ≡ Err x
directive_refused read [] x l at v e h = absurd cc
directive_refused read (b ∷ bs) x l (inl none) v e h = absurd cc
directive_refused read (b ∷ bs) x l (inr at) v e h =
    let g = h.goes_on (b ∷ bs) in
    g.answer ∙ rw (at.0, v, at.1)
    (rw (refused_at_once g.count (b ∷ bs) x (omega (arith, g.enough)) at.1 e) refl)

-- the place of a refusal is among the bytes
pub version_left : (bytes : List ℕ) (x : Refusal) (inside : Bool)
    → IsAtDirective inside bytes
    → after_version bytes ≡ Err x → x.bytes_left ≤ length bytes
version_left bytes x inside at e =
    let h = start_err bytes x (after_version bytes) (start_here bytes (at_letter false bytes (elim at [ inl n ↦ inl n | inr a ↦ inr (refl, a.1) ]))) e in
    omega (arith, h.6, ap length h.5, length-append (h.0 ++ h.1) h.2)

pub directive_left : (bytes : List ℕ) (x : Refusal) (inside : Bool)
    → IsAtDirective inside bytes
    → next_at bytes ≡ Err x → x.bytes_left ≤ length bytes
directive_left [] x inside at e = absurd cc
directive_left (b ∷ bs) x inside (inl none) e = absurd cc
directive_left (b ∷ bs) x inside (inr at) e =
    let h = directive_err b bs (directive_at b bs) x (directive_here b bs at.1) e in
    omega (arith, h.4, ap length h.3, length-append h.0 h.1)

-- where no directive comes, nothing is left
no_none : (r : Step Directive) → (r >>= λ v. Ok (Some v)) ≡ Ok None → ⊥
no_none (Ok v) e = cc
no_none (Err x) e = cc

pub nothing_left : (bytes : List ℕ) → next_at bytes ≡ Ok None → bytes ≡ []
nothing_left [] e = refl
nothing_left (b ∷ bs) e = absurd (no_none (directive_at b bs) e)

-- no directive comes at the end
at_end : (n : ℕ) → 0 < n → directives_at n [] ≡ Ok []
unfolding directives_at
at_end zero lt = absurd (omega arith)
at_end (suc n) lt = refl

-- a file that ends after directives contains these
pub loads_at_end : (given : List ℕ) (l : Loading) → HasRead given l → l.versioned ≡ true
    → Loads given (record { state = l.state; issued = l.issued.items })
loads_at_end given l h v =
    let g = h.goes_on [] in
    let none : skip_lines l.inside [] ≡ [] = at_letter l.inside [] (inl refl) in
    let whole : file_at given ≡ Ok h.directives =
    ap file_at (sym (append-nil given)) ∙ g.answer
    ∙ rw (v, none, at_end g.count (omega (arith, g.enough)), append-nil h.directives) refl in record {
      directives = h.directives;
      spelled = (read_is_spelled h.directives given).0 whole;
      denoted = rw (h.state, h.issued) refl;
    }

-- whether a refusal stays is seen in the last bytes
pub stays_after : (before here : List ℕ) (x : Refusal) → x.bytes_left ≤ length here
    → stays (before ++ here) x ≡ stays here x
stays_after before here x le =
    let k : length (before ++ here) - x.bytes_left ≡ length before + (length here - x.bytes_left) =
    omega (arith, length-append before here) in
    ap (is_settled x.kind) (ap (λ (n : ℕ). drop n (before ++ here)) k
    ∙ sym (drop-drop (length here - x.bytes_left) (length before) (before ++ here))
    ∙ ap (drop (length here - x.bytes_left)) (drop_at before here (length before) refl))

-- lines and then one more were read
pub advanced_more : (bytes rest here after : List ℕ) (old l new : Loading) (inside : Bool)
    → HasAdvanced bytes old l rest → Skips l.inside rest inside here
    → HasReadOne here (record l { inside = inside }) new after
    → HasAdvanced bytes old new after
advanced_more bytes rest here after old l new inside a s o = record {
  front = a.front ++ s.skipped ++ o.one;
  spelled = rw (a.spelled, s.spelled, o.spelled) (simp append_assoc);
  no_text = o.no_text ∙ a.no_text;
  has_read = λ read h.
      rw (append_assoc a.front s.skipped o.one, sym (append_assoc read a.front (s.skipped ++ o.one)), sym (append_assoc (read ++ a.front) s.skipped o.one))
      (o.has_read (read ++ a.front ++ s.skipped)
      (has_read_lines (read ++ a.front) s.skipped l inside (a.has_read read h) s.same));
}

-- where no text is open
pub plain : (read : List ℕ) (l : Loading) → l.begun ≡ None → HasRead read l → IsRead read l
plain read l n h = subst (λ (o : Option Begun). ReadAs o read l) (sym n) h

-- all was read
pub paused_at_end : (bytes rest here : List ℕ) (old l : Loading) (inside : Bool) (read : List ℕ)
    → HasAdvanced bytes old l rest → Skips l.inside rest inside here → here ≡ []
    → l.versioned ≡ true → old.begun ≡ None → HasRead read old
    → HasPaused read bytes (record l { inside = inside }) (record { left = 0; refusal = None })
paused_at_end bytes rest here old l inside read a s none v n h =
    let new : Loading = record l { inside = inside } in
    let all : bytes ≡ a.front ++ s.skipped = a.spelled ∙ ap (λ (xs : List ℕ). a.front ++ xs) (s.spelled ∙ rw (none, append-nil s.skipped) refl) in
    let got : HasRead (read ++ bytes) new =
    rw (all, sym (append_assoc read a.front s.skipped))
    (has_read_lines (read ++ a.front) s.skipped l inside (a.has_read read h) s.same) in record {
      front = bytes;
      rest = [];
      spelled = sym (append-nil bytes);
      left = refl;
      has_read = plain (read ++ bytes) new (a.no_text ∙ n) got;
      ends = loads_at_end (read ++ bytes) new got v;
      within = tt;
    }

-- the place of a refusal is among all the bytes
left_in : (bytes rest here : List ℕ) (old l : Loading) (inside : Bool) (x : Refusal)
    → HasAdvanced bytes old l rest → Skips l.inside rest inside here → x.bytes_left ≤ length here
    → x.bytes_left ≤ length bytes
left_in bytes rest here old l inside x a s le =
    omega (arith, le, ap length a.spelled, length-append a.front rest, ap length s.spelled, length-append s.skipped here)

-- more bytes are needed
pub paused_before_end : (bytes rest here : List ℕ) (old l final : Loading) (inside : Bool)
    (x : Refusal) (pause : Pause) (read : List ℕ) → old.begun ≡ None
    → HasAdvanced bytes old l rest → Skips l.inside rest inside here → x.bytes_left ≤ length here
    → ((before : List ℕ) → HasRead before (record l { inside = inside }) → file_at (before ++ here) ≡ Err x)
    → pause.refusal ≡ Some x → stays here x ≡ false
    → Keeps here (record l { inside = inside }) final pause.left → HasRead read old
    → HasPaused read bytes final pause
paused_before_end bytes rest here old l final inside x pause read n a s le refused is unsettled keeps h =
    let new : Loading = record l { inside = inside } in
    let read_here : List ℕ = read ++ (a.front ++ s.skipped) in
    let parts : read ++ bytes ≡ read_here ++ here = rw (a.spelled, s.spelled) (simp append_assoc) in
    let got : HasRead read_here new =
    rw (sym (append_assoc read a.front s.skipped))
    (has_read_lines (read ++ a.front) s.skipped l inside (a.has_read read h) s.same) in
    let so : EndsSo (read ++ bytes) final (Some x) = (
      ap file_at parts ∙ refused read_here got,
      ap (λ (xs : List ℕ). stays xs x) parts ∙ stays_after read_here here x le ∙ unsettled,
    ) in
    let inside_bytes : x.bytes_left ≤ length bytes = left_in bytes rest here old l inside x a s le in
    elim keeps [
      | inl k ↦ record {
        front = a.front ++ s.skipped;
        rest = here;
        spelled = rw (a.spelled, s.spelled) (simp append_assoc);
        left = sym k.0;
        has_read = subst (IsRead read_here) (sym k.1) (plain read_here new (a.no_text ∙ n) got);
        ends = rw is so;
        within = rw is inside_bytes;
      }
      | inr k ↦ record {
        front = bytes;
        rest = [];
        spelled = sym (append-nil bytes);
        left = sym k.0;
        has_read = subst (λ (xs : List ℕ). IsRead xs final) (sym parts) (k.1 read_here got);
        ends = rw is so;
        within = rw is inside_bytes;
      }
    ]

-- the refusal stays
pub refused_for_good : (bytes rest here : List ℕ) (old l : Loading) (inside : Bool) (x : Refusal)
    (read : List ℕ)
    → HasAdvanced bytes old l rest → Skips l.inside rest inside here → x.bytes_left ≤ length here
    → ((before : List ℕ) → HasRead before (record l { inside = inside }) → file_at (before ++ here) ≡ Err x)
    → stays here x ≡ true → HasRead read old
    → (file_at (read ++ bytes) ≡ Err x) × (stays (read ++ bytes) x ≡ true) × (x.bytes_left ≤ length bytes)
refused_for_good bytes rest here old l inside x read a s le refused settled h =
    let new : Loading = record l { inside = inside } in
    let parts : read ++ bytes ≡ read ++ (a.front ++ s.skipped) ++ here =
    rw (a.spelled, s.spelled) (simp append_assoc) in
    let got : HasRead (read ++ (a.front ++ s.skipped)) new =
    rw (sym (append_assoc read a.front s.skipped))
    (has_read_lines (read ++ a.front) s.skipped l inside (a.has_read read h) s.same) in (
      ap file_at parts ∙ refused (read ++ (a.front ++ s.skipped)) got,
      ap (λ (xs : List ℕ). stays xs x) parts ∙ stays_after (read ++ (a.front ++ s.skipped)) here x le ∙ settled,
      left_in bytes rest here old l inside x a s le,
    )

-- a stop where one more was to be read, and what is answered for it
pub advance_stopped : (bytes rest here : List ℕ) (old l new final : Loading) (inside : Bool)
    (stop : ReadStop) (r : Result Pause ReadStop) → old.begun ≡ None
    → HasAdvanced bytes old l rest → Skips l.inside rest inside here
    → ReadsOne here (record l { inside = inside }) new (Err stop) → PausesAt stop here new final r
    → Advances bytes old final r
advance_stopped bytes rest here old l new final inside stop (Err stops.OutOfMemory) n a s o p = tt
advance_stopped bytes rest here old l new final inside stop (Err (stops.Refused x)) n a s o p =
    let q = rw p.0 at o in
    λ read h. refused_for_good bytes rest here old l inside x read a s q.1 q.2 p.1 h
advance_stopped bytes rest here old l new final inside stops.OutOfMemory (Ok pause) n a s o p = absurd p
advance_stopped bytes rest here old l new final inside (stops.Refused x) (Ok pause) n a s o p =
    λ read h. paused_before_end bytes rest here old l final inside x pause read n a s o.1 o.2 p.0 p.1
    (subst (λ (y : Loading). Keeps here y final pause.left) o.0 p.2) h

-- so the place of its refusal is among the bytes
pub stop_within : (here : List ℕ) (l new : Loading) (inside : Bool) (stop : ReadStop)
    → IsAtDirective inside here
    → ReadsOne here (record l { inside = inside }) new (Err stop) → IsWithin stop new.inside here
stop_within here l new inside stops.OutOfMemory at o = tt
stop_within here l new inside (stops.Refused x) at o =
    (o.1, rw (ap (λ (y : Loading). y.inside) o.0) at)

-- bytes at the end of others, after some of them were read
pub end_after : (block bytes rest : List ℕ) (old l : Loading) → IsEndOf bytes block → HasAdvanced bytes old l rest → IsEndOf rest block
end_after block bytes rest old l e a = (e.0 ++ a.front, e.1 ∙ ap (λ (x : List ℕ). e.0 ++ x) a.spelled ∙ sym (append_assoc e.0 a.front rest))

pub end_skipped : (block rest start : List ℕ) (before inside : Bool) → IsEndOf rest block → Skips before rest inside start → IsEndOf start block
end_skipped block rest start before inside e s = (e.0 ++ s.skipped, e.1 ∙ ap (λ (x : List ℕ). e.0 ++ x) s.spelled ∙ sym (append_assoc e.0 s.skipped start))

-- the place of the strings of a text in those others
pub place_in : (block all bytes rest strings : List ℕ) (middle len : ℕ) (old l : Loading) → all ≡ block → IsEndOf bytes block → HasAdvanced bytes old l rest
    → IsTextAt middle len strings rest → strings ≡ drop (length all - length strings) block
place_in block all bytes rest strings middle len old l whole e a t =
    let before = end_after block bytes rest old l e a in
    let parts : block ≡ (before.0 ++ t.line) ++ strings = before.1 ∙ ap (λ (x : List ℕ). before.0 ++ x) t.spelled
    ∙ sym (append_assoc before.0 t.line strings) in
    let size : length all - length strings ≡ length (before.0 ++ t.line) =
    omega (arith, ap (λ (x : List ℕ). length x) (whole ∙ parts), length-append (before.0 ++ t.line) strings) in
    sym (ap (drop (length all - length strings)) parts ∙ drop_at (before.0 ++ t.line) strings (length all - length strings) (sym size))

-- the directive of a text was read after others
pub advanced_text : (bytes rest strings : List ℕ) (middle len : ℕ) (old l new : Loading)
    → IsAtDirective old.inside bytes → l.inside ≡ old.inside → l.versioned ≡ true
    → HasAdvanced bytes old l rest → IsTextAt middle len strings rest
    → new ≡ record l { state = with_directive l.state (Text (take middle strings) (take len (drop middle strings))) }
    → HasAdvanced bytes old new (drop (middle + len + 1) strings)
advanced_text bytes rest strings middle len old l new at same v a t is =
    let d : Directive = Text (take middle strings) (take len (drop middle strings)) in
    let after : List ℕ = drop (middle + len + 1) strings in
    let some : 0 < length rest = omega (arith, t.within, ap (λ (x : List ℕ). length x) t.spelled, length-append t.line strings) in
    let out : old.inside ≡ false = elim at [
      | inl none ↦ absurd (omega (arith, some, ap (λ (x : List ℕ). length x) a.spelled, ap (λ (x : List ℕ). length x) none, length-append a.front rest))
      | inr outside ↦ outside.0
    ] in
    let o : HasReadOne rest l new after =
    subst (λ (x : Loading). HasReadOne rest l x after) (sym is)
    (has_read_directive rest after d l (record l { state = with_directive l.state d })
    (subst (λ (b : Bool). IsAtDirective b rest) (sym (same ∙ out)) t.at) v t.gives refl (sym (append-nil l.issued.items))) in
    record {
      front = a.front ++ o.one;
      spelled = a.spelled ∙ ap (λ (x : List ℕ). a.front ++ x) o.spelled ∙ sym (append_assoc a.front o.one after);
      no_text = o.no_text ∙ a.no_text;
      has_read = λ read h. subst (λ (x : List ℕ). HasRead x new) (append_assoc read a.front o.one) (o.has_read (read ++ a.front) (a.has_read read h));
    }

-- lines were skipped, and then the directives of texts read
pub advanced_on : (bytes rest start after : List ℕ) (old l m : Loading) (inside : Bool) → HasAdvanced bytes old l rest → Skips l.inside rest inside start
    → HasAdvanced start (record l { inside = inside }) m after → HasAdvanced bytes old m after
advanced_on bytes rest start after old l m inside a s t = record {
  front = (a.front ++ s.skipped) ++ t.front;
  spelled = rw (a.spelled, s.spelled, t.spelled) (simp append_assoc);
  no_text = t.no_text ∙ a.no_text;
  has_read = λ read h.
      let mid : HasRead (read ++ (a.front ++ s.skipped)) (record l { inside = inside }) =
      rw (sym (append_assoc read a.front s.skipped)) (has_read_lines (read ++ a.front) s.skipped l inside (a.has_read read h) s.same) in
      subst (λ (x : List ℕ). HasRead x m) (append_assoc read (a.front ++ s.skipped) t.front) (t.has_read (read ++ (a.front ++ s.skipped)) mid);
}
