-- A text that is read as its bytes come: a diversion's or a name's.
use Rattle.std.proofs.Common.{◌≡◌, ◌≢◌, ℕ, zero, suc, ◌+◌, ◌-◌, ◌≤◌, ℤ, pos, negsuc, true, false, ltb}
use Rattle.std.proofs.Common.{eqb, List, [], ◌∷◌, ◌++◌, length, take, drop, min, Option, Some, None}
use Rattle.std.proofs.Common.{Result, Ok, Err, refl, sym, ap, subst, ◌∙◌}
use Rattle.std.proofs.Common.{append_assoc, arith, inl, inr}
use Rattle.std.specs.Prelude.{FitsSigned, IfSome}
use Rattle.std.specs.Int.{w32}
use Rattle.std.proofs.lemmas.Bool.{lt-ltb, le-ltb}
use Rattle.std.proofs.lemmas.List.{append-nil, length-append, take-append-drop}
use Rattle.std.proofs.lemmas.Grind.{flat_map-append}
use Rattle.m4_state.specs.State.{State, empty, diverted, appended}
use Rattle.m4_frozen.specs.Ascii.{newline, letter_D}
use Rattle.m4_frozen.specs.declared.fault.FrozenKind.TheVariants as kinds
use Rattle.m4_frozen.specs.declared.fault.Refusal.{Refusal}
use Rattle.m4_frozen.specs.declared.fault.ReadStop.{ReadStop}
use Rattle.m4_frozen.specs.declared.fault.ReadStop.TheVariants as stops
use Rattle.m4_frozen.specs.declared.begun.Begun.{Begun}
use Rattle.m4_frozen.specs.declared.begun.Begun.TheVariants as begun
use Rattle.m4_frozen.specs.declared.loading.Loading.{Loading}
use Rattle.m4_frozen.specs.declared.loading.Pause.{Pause}
use Rattle.m4_frozen.specs.Denote.{issued_by, denote, with_directive}
use Rattle.m4_frozen.specs.Directive.{Directive, Diversion}
use Rattle.m4_frozen.specs.Layout.{NewLine, Layout, Done, Then, last_string, diversion_head, diversion_layout, layout_of}
use Rattle.m4_frozen.specs.ReaderSteps.{◌>>=◌, Step, string_at, expect_byte, layout_at, directives_at, file_at}
use Rattle.std.specs.Borrow.{Bor}
use Rattle.m4_frozen.specs.Underway.{IsAtDirective, with_front, text_left, HasRead, HasReadIn, IsWithinText}
use Rattle.m4_frozen.specs.Underway.{HasReadText, ReadsText, ReadsRest, ReadAs, IsRead, Advances, EndsSo, ReadsOn}
use Rattle.m4_frozen.specs.Underway.{short, stays}
use Rattle.m4_frozen.proofs.ByteTests.{test, lt_of, ge_of, eq_of}
use Rattle.m4_frozen.proofs.ReadBack.{diversion_head-spelled, comma_on}
use Rattle.m4_frozen.proofs.Parts.{LayoutSays, layout_says}
use Rattle.m4_frozen.proofs.FirstFault.{by_letter, no_line}
use Rattle.m4_frozen.proofs.ReadOn.{regroup, directives_at-skip, fold-push, stays_after}
use Rattle.m4_state.proofs.CallerLaws.{appended-twice}

-- so it is with what is issued
issued_by-twice : (z : ℤ) (a b : List ℕ)
    → issued_by (Diversion z a) ++ issued_by (Diversion z b) ≡ issued_by (Diversion z (a ++ b))
issued_by-twice (pos zero) a b = refl
issued_by-twice (pos (suc n)) a b = refl
issued_by-twice (negsuc n) a b = refl

-- the front of a string, and the rest of it
take-after : (n m : ℕ) (c more : List ℕ) → n ≡ length c + m → take n (c ++ more) ≡ c ++ take m more
take-after n m [] more e = let k : n ≡ m = omega arith in rw k refl
take-after zero m (b ∷ c) more e = absurd (omega arith)
take-after (suc n) m (b ∷ c) more e =
    ap (λ (xs : List ℕ). b ∷ xs) (take-after n m c more (omega arith))

drop-after : (n m : ℕ) (c more : List ℕ) → n ≡ length c + m → drop n (c ++ more) ≡ drop m more
drop-after n m [] more e = let k : n ≡ m = omega arith in rw k refl
drop-after zero m (b ∷ c) more e = absurd (omega arith)
drop-after (suc n) m (b ∷ c) more e = drop-after n m c more (omega arith)

string_at-after : (n m : ℕ) (c more : List ℕ) → n ≡ length c + m
    → string_at n (c ++ more) ≡ (string_at m more >>= λ t. Ok (c ++ t.0, t.1))
unfolding string_at
string_at-after n m c more e = elim (test (ltb (length more) m)) [
  | inl h ↦ (let k : ltb (length (c ++ more)) n ≡ true = lt-ltb _ _ (omega (arith, lt_of _ _ h, length-append c more)) in
      rw (h, k) refl)
  | inr h ↦ (let k : ltb (length (c ++ more)) n ≡ false = le-ltb _ _ (omega (arith, ge_of _ _ h, length-append c more)) in
      rw (h, k, take-after n m c more e, drop-after n m c more e) refl)
]

-- bytes in front of a string
abbrev in_front : List ℕ → List ℕ × List ℕ → Step (List ℕ)
in_front c t = Ok (c ++ t.0, t.1)

-- a directive, and those after it
abbrev then_all : ℕ → Directive → List ℕ → Result (List Directive) Refusal
then_all count d rest = directives_at count rest >>= λ ds. Ok (d ∷ ds)

-- a text of which a prefix was read, its newline, and the rest
abbrev then_text : ℕ → (List ℕ → Directive) → List ℕ → List ℕ × List ℕ → Result (List Directive) Refusal
then_text count make came t = expect_byte newline t.1 >>= then_all count (make (came ++ t.0))

-- the rest of a text after more of it was read
text_of : (count : ℕ) (make : List ℕ → Directive) (came c : List ℕ) (r : Step (List ℕ))
    → ((r >>= in_front c) >>= then_text count make came) ≡ (r >>= then_text count make (came ++ c))
text_of count make came c (Ok t) = rw (append_assoc came c t.0) refl
text_of count make came c (Err e) = refl

text_left-more : (count : ℕ) (make : List ℕ → Directive) (came c : List ℕ) (n m : ℕ) (more : List ℕ)
    → n ≡ length c + m → text_left count make came n (c ++ more) ≡ text_left count make (came ++ c) m more
unfolding text_left
text_left-more count make came c n m more e =
    rw (string_at-after n m c more e) (text_of count make came c (string_at m more))

-- nothing is left of it
string_at-none : (bytes : List ℕ) → string_at 0 bytes ≡ Ok ([], bytes)
unfolding string_at
string_at-none bytes = let k : ltb (length bytes) 0 ≡ false = le-ltb _ _ (omega arith) in rw k refl

text_left-none : (count : ℕ) (make : List ℕ → Directive) (came more : List ℕ)
    → text_left count make came 0 more
    ≡ (expect_byte newline more >>= λ r. (directives_at count r >>= λ ds. Ok (make came ∷ ds)))
unfolding text_left
text_left-none count make came more = rw (string_at-none more, append-nil came) refl

-- the file ends within it
text_left-short : (count : ℕ) (make : List ℕ → Directive) (came : List ℕ) (m : ℕ)
    → text_left count make came m [] ≡ Err short
unfolding text_left string_at
text_left-short count make came zero = refl
text_left-short count make came (suc m) = let k : ltb 0 (suc m) ≡ true = lt-ltb _ _ (omega arith) in rw k refl

-- the line of a diversion alone
abbrev pub diversion_line : Layout (ℤ × ℕ)
diversion_line = diversion_head (λ z n. Done (z, n))

-- the bytes up to a directive's last string are read so whatever follows them
pub record HasHead (l : Layout Directive) (make : List ℕ → Directive) (n : ℕ) (bytes rest : List ℕ) : Type 0 where
  pub one : List ℕ
  pub spelled : bytes ≡ one ++ rest
  pub gives : (more : List ℕ) → layout_at l (one ++ more) ≡ layout_at (last_string make n) more

-- a diversion's line that is read has a number of 32 bits
abbrev IsHead : List ℕ → List ℕ → ℤ × ℕ → Type 0
IsHead bytes rest p = FitsSigned w32 p.0 × HasHead diversion_layout (Diversion p.0) p.1 bytes rest

head_says : (bytes : List ℕ) (z : ℤ) (n : ℕ) (rest : List ℕ) (r : Step (ℤ × ℕ))
    → LayoutSays diversion_line bytes r → r ≡ Ok ((z, n), rest) → IsHead bytes rest (z, n)
head_says bytes z n rest r says e =
    let h = rw e at says in
    let h1 = h.1 in
    let h2 = h1.6 in
    let h3 = h2.6 in
    let h4 = h3.6 in
    subst (IsHead bytes rest) h4.6.0 (
      h1.3.1,
      record {
        one = h.0;
        spelled = h.2;
        gives = λ more.
            let parts : h.0 ++ more ≡ h1.1 ++ comma_on h2.3.0 h3.1 more =
            rw (h1.5, h2.5, h2.3.2, h3.5, h4.5, h4.3, h4.6.1) (simp append_assoc) in
            ap (layout_at diversion_layout) parts
            ∙ diversion_head-spelled (λ z. last_string (Diversion z)) h1.0 h3.0 h1.1 h2.3.0 h3.1 more
            h1.3.0 h1.3.1 h2.3.1 h3.3.0 h3.3.1;
      },
    )

-- a diversion's line at the front
has_head : (bytes : List ℕ) (z : ℤ) (n : ℕ) (rest : List ℕ) → layout_at diversion_line bytes ≡ Ok ((z, n), rest)
    → IsHead bytes rest (z, n)
has_head bytes z n rest e =
    head_says bytes z n rest (layout_at diversion_line bytes) (layout_says diversion_line bytes) e

-- its number has 32 bits
pub head_fits : (bytes : List ℕ) (z : ℤ) (n : ℕ) (rest : List ℕ) → layout_at diversion_line bytes ≡ Ok ((z, n), rest)
    → FitsSigned w32 z
head_fits bytes z n rest e = (has_head bytes z n rest e).0

-- a directive comes
abbrev as_next : Directive × List ℕ → Result (Option (Directive × List ℕ)) Refusal
as_next d = Ok (Some d)

abbrev after_next : ℕ → Option (Directive × List ℕ) → Result (List Directive) Refusal
after_next count o = elim o [ None ↦ Ok [] | Some d ↦ then_all count d.0 d.1 ]

-- the directives read after the newline of a text
closed_of : (count : ℕ) (d : Directive) (bytes : List ℕ)
    → ((layout_at (Then NewLine (λ _. Done d)) bytes >>= as_next) >>= after_next count)
    ≡ (expect_byte newline bytes >>= then_all count d)
closed_of count d [] = refl
closed_of count d (b ∷ bs) = elim (test (eqb b newline)) [ inl e ↦ rw e refl | inr e ↦ rw e refl ]

-- and after all that is before it
opened_of : (count : ℕ) (make : List ℕ → Directive) (n : ℕ) (bytes : List ℕ)
    → ((layout_at (last_string make n) bytes >>= as_next) >>= after_next count) ≡ text_left count make [] n bytes
unfolding text_left string_at
opened_of count make n bytes = elim (test (ltb (length bytes) n)) [
  | inl e ↦ rw e refl
  | inr e ↦ rw e (closed_of count (make (take n bytes)) (drop n bytes))
]

-- a directive is read as its last string, whatever follows
pub text_begins : (letter : ℕ) (l : Layout Directive) (make : List ℕ → Directive) (n : ℕ) (line text : List ℕ)
    → layout_of letter ≡ Some l → HasHead l make n line text
    → (count : ℕ) (more : List ℕ) → directives_at (suc count) (letter ∷ (line ++ more))
    ≡ text_left count make [] n (text ++ more)
unfolding directives_at
text_begins letter l make n line text has k count more =
    let parts : line ++ more ≡ k.one ++ (text ++ more) =
    ap (λ (xs : List ℕ). xs ++ more) k.spelled ∙ append_assoc k.one text more in
    rw (no_line letter l (line ++ more) has, by_letter letter l (line ++ more) has, parts, k.gives (text ++ more))
    (opened_of count make n (text ++ more))

-- the beginning of a text is read so whatever follows it
pub within_opened : (read line rest text : List ℕ) (letter : ℕ) (make : List ℕ → Directive) (n : ℕ) (l new : Loading)
    → l.versioned ≡ true → l.inside ≡ false → new.versioned ≡ l.versioned → new.inside ≡ l.inside
    → length text ≤ n → (h : HasRead read l)
    → ((count : ℕ) (more : List ℕ) → directives_at (suc count) (letter ∷ (line ++ more))
    ≡ text_left count make [] n (text ++ more))
    → IsWithinText (read ++ letter ∷ line) new h.directives make text (n - length text)
within_opened read line rest text letter make n l new v i nv ni le h begins =
    let here : List ℕ = letter ∷ line in record {
      place = (nv ∙ v, ni ∙ i);
      goes_on = λ more. let g = h.goes_on (here ++ more) in
          let c : g.count ≡ suc (g.count - 1) = omega (arith, g.enough) in
          record {
            count = g.count - 1;
            enough = omega (arith, g.enough, length-append here more);
            answer = ap file_at (append_assoc read here more)
                ∙ (rw (i, v) at g.answer)
                ∙ ap (with_front h.directives) (directives_at-skip g.count (here ++ more)
                ∙ ap (λ (x : ℕ). directives_at x (here ++ more)) c
                ∙ begins (g.count - 1) more
                ∙ text_left-more (g.count - 1) make [] text n (n - length text) more (omega arith));
          };
    }

-- a diversion was begun
pub has_read_opened : (read line text : List ℕ) (z : ℤ) (n : ℕ) (l new : Loading)
    → IsAtDirective l.inside (letter_D ∷ line) → l.versioned ≡ true
    → layout_at diversion_line line ≡ Ok ((z, n), text) → length text ≤ n
    → new ≡ record l {
      state = appended (diverted l.state z) text;
      issued = new.issued;
      begun = Some (begun.Diversion (n - length text));
    }
    → new.issued.items ≡ l.issued.items ++ issued_by (Diversion z text)
    → HasRead read l → IsRead (read ++ letter_D ∷ line) new
has_read_opened read line text z n l new (inl none) v e le is i h = absurd cc
has_read_opened read line text z n l new (inr at) v e le is i h =
    let here : List ℕ = letter_D ∷ line in
    let open_now : new.begun ≡ Some (begun.Diversion (n - length text)) = ap (λ (x : Loading). x.begun) is in
    let r : HasReadIn (read ++ here) new (n - length text) = record {
      directives = h.directives;
      number = z;
      came = text;
      state = ap (λ (x : Loading). x.state) is
          ∙ ap (λ (s : State). appended (diverted s z) text) h.state;
      issued = i ∙ ap (λ (xs : List ℕ). xs ++ issued_by (Diversion z text)) h.issued;
      within = within_opened read line [] text letter_D (Diversion z) n l new v at.0
          (ap (λ (x : Loading). x.versioned) is) (ap (λ (x : Loading). x.inside) is) le h
          (text_begins letter_D diversion_layout (Diversion z) n line text refl (has_head line z n text e).1);
    } in
    subst (λ (o : Option Begun). ReadAs o (read ++ here) new) (sym open_now) r

-- the number of the current diversion
number_is : (read : List ℕ) (l : Loading) (m : ℕ) (h : HasReadIn read l m)
    → l.state.current ≡ h.number
number_is read l m h = ap (λ (s : State). s.current) h.state

-- more text is issued
issued_more : (read bytes issued : List ℕ) (l : Loading) (m : ℕ) (h : HasReadIn read l m)
    → issued ≡ l.issued.items ++ issued_by (Diversion l.state.current bytes)
    → issued ≡ (denote h.directives).issued ++ issued_by (Diversion h.number (h.came ++ bytes))
issued_more read bytes issued l m h i =
    i ∙ ap (λ (z : ℤ). l.issued.items ++ issued_by (Diversion z bytes)) (number_is read l m h)
    ∙ ap (λ (xs : List ℕ). xs ++ issued_by (Diversion h.number bytes)) h.issued
    ∙ append_assoc (denote h.directives).issued (issued_by (Diversion h.number h.came)) (issued_by (Diversion h.number bytes))
    ∙ ap (λ (xs : List ℕ). (denote h.directives).issued ++ xs) (issued_by-twice h.number h.came bytes)

-- more of a text was read
module _ (read bytes : List ℕ) (l new : Loading) (ds : List Directive) (make : List ℕ → Directive) (came : List ℕ)
    (m : ℕ) (w : IsWithinText read l ds make came m) where
  pub within_more : length bytes ≤ m → new.versioned ≡ l.versioned → new.inside ≡ l.inside
      → IsWithinText (read ++ bytes) new ds make (came ++ bytes) (m - length bytes)
  within_more le nv ni = record {
    place = (nv ∙ w.place.0, ni ∙ w.place.1);
    goes_on = λ more. let g = w.goes_on (bytes ++ more) in record {
      count = g.count;
      enough = omega (arith, g.enough, length-append bytes more);
      answer = ap file_at (append_assoc read bytes more) ∙ g.answer
          ∙ ap (with_front ds)
          (text_left-more g.count make came bytes m (m - length bytes) more (omega arith));
    };
  }

  -- the file would end too early there
  pub within_short : file_at read ≡ Err short
  within_short =
      let g = w.goes_on [] in
      ap file_at (sym (append-nil read)) ∙ g.answer
      ∙ ap (with_front ds) (text_left-short g.count make came m)

pub has_read_more : (read bytes : List ℕ) (l new : Loading) (m : ℕ) → length bytes ≤ m
    → new ≡ record l {
      state = appended l.state bytes;
      issued = new.issued;
      begun = Some (begun.Diversion (m - length bytes));
    }
    → new.issued.items ≡ l.issued.items ++ issued_by (Diversion l.state.current bytes)
    → HasReadIn read l m → IsRead (read ++ bytes) new × (file_at (read ++ bytes) ≡ Err short)
has_read_more read bytes l new m le is i h =
    let open_now : new.begun ≡ Some (begun.Diversion (m - length bytes)) = ap (λ (x : Loading). x.begun) is in
    let w = within_more read bytes l new h.directives (Diversion h.number) h.came m h.within le
    (ap (λ (x : Loading). x.versioned) is) (ap (λ (x : Loading). x.inside) is) in
    let r : HasReadIn (read ++ bytes) new (m - length bytes) = record {
      directives = h.directives;
      number = h.number;
      came = h.came ++ bytes;
      state = ap (λ (x : Loading). x.state) is ∙ ap (λ (s : State). appended s bytes) h.state
          ∙ appended-twice (diverted (denote h.directives).state h.number) h.came bytes;
      issued = issued_more read bytes new.issued.items l m h i;
      within = w;
    } in (
      subst (λ (o : Option Begun). ReadAs o (read ++ bytes) new) (sym open_now) r,
      within_short (read ++ bytes) [] new new h.directives (Diversion h.number) (h.came ++ bytes) (m - length bytes) w,
    )

-- all of the bytes were
pub all_bytes : (P : List ℕ → Type 0) (bytes c after : List ℕ) → bytes ≡ c ++ after → after ≡ [] → P c → P bytes
all_bytes P bytes c after parts none h = subst P (sym (parts ∙ rw (none, append-nil c) refl)) h

-- the bytes after a complete text
text_left-whole : (count : ℕ) (make : List ℕ → Directive) (came c after : List ℕ) (n : ℕ) → n ≡ length c
    → text_left count make came n (c ++ after)
    ≡ (expect_byte newline after >>= λ r. (directives_at count r >>= λ ds. Ok (make (came ++ c) ∷ ds)))
text_left-whole count make came c after n e =
    text_left-more count make came c n 0 after (omega (arith, e)) ∙ text_left-none count make (came ++ c) after

-- a text was read whole
pub has_read_closed : (read c : List ℕ) (l new : Loading) (ds : List Directive) (make : List ℕ → Directive) (came : List ℕ) (m : ℕ)
    → IsWithinText read l ds make came m → m ≡ length c
    → new.versioned ≡ l.versioned → new.inside ≡ l.inside
    → new.state ≡ with_directive (denote ds).state (make (came ++ c))
    → new.issued.items ≡ (denote ds).issued ++ issued_by (make (came ++ c))
    → HasRead (read ++ (c ++ newline ∷ [])) new
has_read_closed read c l new ds make came m w all nv ni state issued =
    let d : Directive = make (came ++ c) in record {
      directives = ds ++ d ∷ [];
      state = state ∙ sym (fold-push empty ds d);
      issued = issued ∙ rw (flat_map-append issued_by ds (d ∷ []), append-nil (issued_by d)) refl;
      goes_on = λ more. let g = w.goes_on ((c ++ newline ∷ []) ++ more) in
          let parts : (c ++ newline ∷ []) ++ more ≡ c ++ newline ∷ more = append_assoc c (newline ∷ []) more in
          record {
            count = g.count;
            enough = omega (arith, g.enough, ap length parts, length-append c (newline ∷ more));
            answer = ap file_at (append_assoc read (c ++ newline ∷ []) more) ∙ g.answer
                ∙ ap (with_front ds) (ap (text_left g.count make came m) parts
                ∙ text_left-whole g.count make came c (newline ∷ more) m all)
                ∙ regroup ds d (directives_at g.count more)
                ∙ rw (nv ∙ w.place.0, ni ∙ w.place.1) (ap (with_front (ds ++ d ∷ []))
                (sym (directives_at-skip g.count more)));
          };
    }

-- a diversion's
diverted_closed : (read c : List ℕ) (l new : Loading) (m : ℕ) → m ≡ length c
    → new ≡ record l { state = appended l.state c; issued = new.issued }
    → new.issued.items ≡ l.issued.items ++ issued_by (Diversion l.state.current c)
    → HasReadIn read l m → HasRead (read ++ (c ++ newline ∷ [])) new
diverted_closed read c l new m all is i h =
    has_read_closed read c l new h.directives (Diversion h.number) h.came m h.within all
    (ap (λ (x : Loading). x.versioned) is) (ap (λ (x : Loading). x.inside) is)
    (ap (λ (x : Loading). x.state) is ∙ ap (λ (s : State). appended s c) h.state
    ∙ appended-twice (diverted (denote h.directives).state h.number) h.came c)
    (issued_more read c new.issued.items l m h i)

-- the expected byte is there
newline_kept : (after rest : List ℕ) → expect_byte newline after ≡ Ok rest → after ≡ newline ∷ rest
newline_kept [] rest e = absurd cc
newline_kept (b ∷ bs) rest e = elim (test (eqb b newline)) [
  | inl k ↦ (let q : bs ≡ rest = (let p = rw k at e in cc) in rw (eq_of b newline k, q) refl)
  | inr k ↦ absurd (let p = rw k at e in cc)
]

-- so a text ends there
pub text_ends : (Before : List ℕ → Type 0) (bytes c after rest : List ℕ) (new : Loading)
    → bytes ≡ c ++ after → expect_byte newline after ≡ Ok rest → new.begun ≡ None
    → ((read : List ℕ) → Before read → HasRead (read ++ (c ++ newline ∷ [])) new)
    → HasReadText Before bytes new rest
text_ends Before bytes c after rest new parts e none closed = record {
  one = c ++ newline ∷ [];
  spelled = parts ∙ ap (λ (xs : List ℕ). c ++ xs) (newline_kept after rest e)
      ∙ sym (append_assoc c (newline ∷ []) rest);
  no_text = none;
  has_read = closed;
}

pub has_read_text : (bytes c after rest : List ℕ) (l new : Loading) (m : ℕ)
    → bytes ≡ c ++ after → m ≡ length c → expect_byte newline after ≡ Ok rest → l.begun ≡ None
    → new ≡ record l { state = appended l.state c; issued = new.issued }
    → new.issued.items ≡ l.issued.items ++ issued_by (Diversion l.state.current c)
    → HasReadText (λ read. HasReadIn read l m) bytes new rest
has_read_text bytes c after rest l new m parts all e none is i =
    text_ends (λ read. HasReadIn read l m) bytes c after rest new parts e
    (ap (λ (x : Loading). x.begun) is ∙ none)
    (λ read h. diverted_closed read c l new m all is i h)

-- another byte is refused for good
settled_here : (b : ℕ) (bs : List ℕ) (e : Refusal) → expect_byte newline (b ∷ bs) ≡ Err e
    → (e ≡ record { kind = kinds.SeparatorExpected; bytes_left = length (b ∷ bs) })
settled_here b bs e h = elim (test (eqb b newline)) [
  | inl k ↦ absurd (let p = rw k at h in cc)
  | inr k ↦ (let p = rw k at h in cc)
]

-- what is among the last bytes is among all of them
longer_left : (left : ℕ) (bytes one after : List ℕ) → bytes ≡ one ++ after → left ≤ length after → left ≤ length bytes
longer_left left bytes one after e le = omega (arith, le, ap length e, length-append one after)

longer_within : (refusal : Option Refusal) (bytes one after : List ℕ) → bytes ≡ one ++ after
    → IfSome refusal (λ e. e.bytes_left ≤ length after) → IfSome refusal (λ e. e.bytes_left ≤ length bytes)
longer_within None bytes one after e h = tt
longer_within (Some x) bytes one after e h = longer_left x.bytes_left bytes one after e h

pub text_refused : (read bytes c after : List ℕ) (l : Loading) (ds : List Directive) (make : List ℕ → Directive) (came : List ℕ)
    (m : ℕ) (e : Refusal) → bytes ≡ c ++ after → m ≡ length c → after ≢ []
    → expect_byte newline after ≡ Err e → IsWithinText read l ds make came m
    → (file_at (read ++ bytes) ≡ Err e) × (stays (read ++ bytes) e ≡ true) × (e.bytes_left ≤ length bytes)
text_refused read bytes c [] l ds make came m e parts all some h w = absurd (some refl)
text_refused read bytes c (b ∷ bs) l ds make came m e parts all some h w =
    let g = w.goes_on bytes in
    let is = settled_here b bs e h in
    let so : text_left g.count make came m bytes ≡ Err e =
    ap (text_left g.count make came m) parts
    ∙ text_left-whole g.count make came c (b ∷ bs) m all ∙ rw h refl in
    let whole : read ++ bytes ≡ (read ++ c) ++ b ∷ bs =
    ap (λ (xs : List ℕ). read ++ xs) parts ∙ sym (append_assoc read c (b ∷ bs)) in (
      g.answer ∙ ap (with_front ds) so,
      ap (λ (xs : List ℕ). stays xs e) whole
          ∙ stays_after (read ++ c) (b ∷ bs) e (rw is (omega arith))
          ∙ rw is (let k : length (b ∷ bs) - length (b ∷ bs) ≡ 0 = omega arith in rw k refl),
      longer_left e.bytes_left bytes c (b ∷ bs) parts (rw is (omega arith)),
    )

-- bytes read after a text are read after those before it
pub text_then_whole : (Before : List ℕ → Type 0) (bytes after : List ℕ) (mid new : Loading)
    (r : Result Pause ReadStop)
    → HasReadText Before bytes mid after → Advances after mid new r
    → ReadsOn Before bytes new r
text_then_whole Before bytes after mid new (Ok pause) x a = λ read h.
    let p = a (read ++ x.one) (x.has_read read h) in
    let same : read ++ bytes ≡ (read ++ x.one) ++ after =
    ap (λ (xs : List ℕ). read ++ xs) x.spelled ∙ sym (append_assoc read x.one after) in record {
      front = x.one ++ p.front;
      rest = p.rest;
      spelled = x.spelled ∙ ap (λ (xs : List ℕ). x.one ++ xs) p.spelled ∙ sym (append_assoc x.one p.front p.rest);
      left = p.left;
      has_read = subst (λ (xs : List ℕ). IsRead xs new) (append_assoc read x.one p.front) p.has_read;
      ends = subst (λ (xs : List ℕ). EndsSo xs new pause.refusal) (sym same) p.ends;
      within = longer_within pause.refusal bytes x.one after x.spelled p.within;
    }
text_then_whole Before bytes after mid new (Err stops.OutOfMemory) x a = tt
text_then_whole Before bytes after mid new (Err (stops.Refused e)) x a = λ read h.
    let p = a (read ++ x.one) (x.has_read read h) in
    let same : read ++ bytes ≡ (read ++ x.one) ++ after =
    ap (λ (xs : List ℕ). read ++ xs) x.spelled ∙ sym (append_assoc read x.one after) in
    (ap file_at same ∙ p.0, ap (λ (xs : List ℕ). stays xs e) same ∙ p.1, longer_left e.bytes_left bytes x.one after x.spelled p.2)

-- nothing is left after all bytes
drop_all : (xs : List ℕ) → drop (length xs) xs ≡ []
drop_all [] = refl
drop_all (x ∷ xs) = drop_all xs

-- where a text is not whole, all of the bytes were read
all_were_read : (Before : List ℕ → Type 0) (bytes : List ℕ) (new : Loading)
    → ((read : List ℕ) → Before read → IsRead (read ++ bytes) new × (file_at (read ++ bytes) ≡ Err short))
    → ReadsOn Before bytes new (Ok (record { left = 0; refusal = Some short }))
all_were_read Before bytes new all = λ read h. let a = all read h in record {
  front = bytes;
  rest = [];
  spelled = sym (append-nil bytes);
  left = refl;
  has_read = a.0;
  ends = (a.1, short_is_open (read ++ bytes));
  within = omega arith;
}
  where
    short_is_open : (given : List ℕ) → stays given short ≡ false
    short_is_open given = let all : length given - 0 ≡ length given = omega arith in rw (all, drop_all given) refl

-- a text, and the bytes after it
pub text_and_after : (Before : List ℕ → Type 0) (bytes : List ℕ) (after : Option (Bor (List ℕ))) (mid new : Loading)
    (r : Result Pause ReadStop)
    → ReadsText Before bytes mid (Ok after) → ReadsRest after mid new r → ReadsOn Before bytes new r
text_and_after Before bytes None mid new r x b = rw (b.1, b.0) (all_were_read Before bytes mid x)
text_and_after Before bytes (Some after) mid new r x b = text_then_whole Before bytes after.now mid new r x b

-- the same of what was read, where that is the same
pub read_on_as : (Before Since : List ℕ → Type 0) (bytes : List ℕ) (new : Loading) (r : Result Pause ReadStop)
    → ((read : List ℕ) → Since read → Before read) → ReadsOn Before bytes new r → ReadsOn Since bytes new r
read_on_as Before Since bytes new (Ok pause) same a = λ read h. a read (same read h)
read_on_as Before Since bytes new (Err stops.OutOfMemory) same a = tt
read_on_as Before Since bytes new (Err (stops.Refused e)) same a = λ read h. a read (same read h)

-- a text that is refused, or memory that ran out in it
pub text_stopped : (Before Since : List ℕ → Type 0) (bytes : List ℕ) (mid new : Loading) (stop : ReadStop)
    → ((read : List ℕ) → Since read → Before read) → ReadsText Before bytes mid (Err stop) → ReadsOn Since bytes new (Err stop)
text_stopped Before Since bytes mid new stops.OutOfMemory same x = tt
text_stopped Before Since bytes mid new (stops.Refused e) same x = λ read h. x read (same read h)

-- no text is open: the same was read
pub whole_since : (read : List ℕ) (old : Loading) (o now : Option Begun) → o ≡ old.begun
    → o ≡ None → IsRead read old → HasRead read (record old { begun = now })
whole_since read old o now was at h =
    let k : HasRead read old = subst (λ (x : Option Begun). ReadAs x read old) (sym was ∙ at) h in record {
      directives = k.directives;
      state = k.state;
      issued = k.issued;
      goes_on = k.goes_on;
    }

-- a diversion's text that is read on: the same was read
pub diverted_since : (read : List ℕ) (old : Loading) (o now : Option Begun) (m : ℕ) → o ≡ old.begun
    → o ≡ Some (begun.Diversion m) → IsRead read old → HasReadIn read (record old { begun = now }) m
diverted_since read old o now m was at h =
    let k : HasReadIn read old m = subst (λ (x : Option Begun). ReadAs x read old) (sym was ∙ at) h in record {
      directives = k.directives;
      number = k.number;
      came = k.came;
      state = k.state;
      issued = k.issued;
      within = record { place = k.within.place; goes_on = k.within.goes_on };
    }

-- bytes that are split
pub two_parts : (bytes front after : List ℕ) (n : ℕ) → front ≡ take n bytes → after ≡ drop n bytes
    → bytes ≡ front ++ after
two_parts bytes front after n f b = rw (f, b) (sym (take-append-drop n bytes))

-- there are some
pub some_if : (bytes : List ℕ) → eqb (length bytes) 0 ≡ false → bytes ≢ []
some_if [] h = λ e. cc
some_if (b ∷ bs) h = λ e. cc

-- after some bytes a text is complete
pub all_came : (bytes front after : List ℕ) (m n : ℕ) → front ≡ take n bytes → after ≡ drop n bytes
    → length front ≡ n → n ≡ min m (length bytes) → eqb (length after) 0 ≡ false → m ≡ length front
all_came bytes front after m n f b len is h =
    let some : length after ≢ 0 = λ e. let k = rw e at h in cc in
    omega (arith, len, is, some, ap length (two_parts bytes front after n f b), length-append front after)
