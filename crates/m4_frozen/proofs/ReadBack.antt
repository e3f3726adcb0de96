-- What is spelled is read again.
use Rattle.std.proofs.Common.{◌≡◌, ℕ, zero, suc, ◌+◌, ◌<◌, ◌≤◌, ◌^◌, Bool, true, false, cond, ltb, eqb, List, [], ◌∷◌}
use Rattle.std.proofs.Common.{◌++◌, length, Some, Result, Ok, refl, sym, ap, ◌∙◌, append_assoc, arith}
use Rattle.std.specs.Prelude.{IsTrue}
use Rattle.std.specs.Prelude.{FitsSigned, ℤ}
use Rattle.std.specs.Int.{w32}
use Rattle.std.specs.List.{list_all}
use Rattle.std.specs.Char.{is_ascii_digit}
use Rattle.std.proofs.lemmas.Bool.{lt-ltb, le-ltb, not-true}
use Rattle.std.proofs.lemmas.List.{take_at, drop_at, length-append}
use Rattle.std.proofs.lemmas.Int.{ints}
use Rattle.std.proofs.lemmas.Bool.Decides.{nat_tests}
use Rattle.m4_frozen.specs.Ascii.{newline, comma, minus_sign, letter_C, letter_D, letter_F, letter_Q, letter_T}
use Rattle.m4_frozen.specs.Ascii.{letter_V}
use Rattle.m4_frozen.specs.declared.fault.Refusal.{Refusal}
use Rattle.m4_frozen.specs.Directive.{Directive, Quotes, Comments, Text, Builtin, Diversion}
use Rattle.m4_frozen.specs.Spells.{is_blank, AreBlanks, AreDigits, value_of, IsNumber, IsPair, AreSkippedLines}
use Rattle.m4_frozen.specs.Spells.{SpellsAll, Spells, signed, IsSigned, with_sign, IsDiversion, SpellsOne}
use Rattle.m4_frozen.specs.Layout.{Layout, last_string, pair_head, pair_layout, diversion_head, no_digit_first}
use Rattle.m4_frozen.specs.ReaderSteps.{skip_blanks, digits_at, some_digits_at, length_at, string_at}
use Rattle.m4_frozen.specs.ReaderSteps.{magnitude_at, signed_at, version_at, layout_at, directive_at, skip_lines}
use Rattle.m4_frozen.specs.ReaderSteps.{next_at, directives_at, file_at}
use Rattle.m4_frozen.proofs.SkippedLines.{skip_lines-append, skip_lines-last}
use Rattle.m4_frozen.proofs.ByteTests.{both_true}

-- blanks at the front are skipped
pub skip_blanks-append : (bs rest : List ℕ) → AreBlanks bs
    → skip_blanks (bs ++ rest) ≡ skip_blanks rest
skip_blanks-append [] rest h = refl
skip_blanks-append (b ∷ bs) rest h =
    let p = both_true (is_blank b) (list_all is_blank bs) h in
    rw p.0 (skip_blanks-append bs rest p.1)

-- digits that no digit follows are found
pub digits_at-append : (ds rest : List ℕ) → IsTrue (list_all is_ascii_digit ds)
    → IsTrue (no_digit_first rest) → digits_at (ds ++ rest) ≡ (ds, rest)
digits_at-append [] [] h apart = refl
digits_at-append [] (b ∷ rest) h apart = let e : is_ascii_digit b ≡ false =
    not-true (is_ascii_digit b) apart in rw e refl
digits_at-append (d ∷ ds) rest h apart =
    let p = both_true (is_ascii_digit d) (list_all is_ascii_digit ds) h in
    rw (p.0, digits_at-append ds rest p.1 apart) refl

-- a digit is no `-`
pub digit_is_no_sign : (d : ℕ) → is_ascii_digit d ≡ true → eqb d minus_sign ≡ false
digit_is_no_sign d e = grind (arith, nat_tests)

-- a digit is no blank
digit_is_no_blank : (d : ℕ) → is_ascii_digit d ≡ true → is_blank d ≡ false
digit_is_no_blank d e = grind (arith, nat_tests)

-- digits at the start are found after blanks
pub skip_blanks-digits : (ds rest : List ℕ) → AreDigits ds → skip_blanks (ds ++ rest) ≡ ds ++ rest
skip_blanks-digits [] rest h = absurd (h.0 refl)
skip_blanks-digits (d ∷ ds) rest h =
    rw (digit_is_no_blank d (both_true (is_ascii_digit d) (list_all is_ascii_digit ds) h.1).0) refl

-- digits at the front are read
pub some_digits_at-digits : (ds rest : List ℕ) → AreDigits ds → IsTrue (no_digit_first rest)
    → some_digits_at (ds ++ rest) ≡ Ok (ds, rest)
some_digits_at-digits [] rest h apart = absurd (h.0 refl)
some_digits_at-digits (d ∷ ds) rest h apart =
    let p = both_true (is_ascii_digit d) (list_all is_ascii_digit ds) h.1 in
    rw (p.0, digits_at-append ds rest p.1 apart) refl

-- a length is read
pub length_at-number : (n : ℕ) (number rest : List ℕ) → IsNumber n number → n < 2 ^ 64
    → IsTrue (no_digit_first rest) → length_at (number ++ rest) ≡ Ok (n, rest)
unfolding length_at
length_at-number n number rest p lt apart =
    let blanks : skip_blanks (number ++ rest) ≡ p.digits ++ rest =
    ap (λ (bs : List ℕ). skip_blanks (bs ++ rest)) p.spelled
    ∙ ap skip_blanks (append_assoc p.blanks p.digits rest)
    ∙ skip_blanks-append p.blanks (p.digits ++ rest) p.are_blanks
    ∙ skip_blanks-digits p.digits rest p.are_digits in
    let fits : ltb (value_of p.digits) (2 ^ 64) ≡ true = lt-ltb _ _ (omega (arith, p.value)) in
    rw (blanks, some_digits_at-digits p.digits rest p.are_digits apart, fits, p.value) refl

-- a blank is no digit
blank_is_no_digit : (c : ℕ) → is_blank c ≡ true → is_ascii_digit c ≡ false
blank_is_no_digit c e = grind (arith, nat_tests)

-- no digit comes first where blanks lead to another byte
skip_apart : (bs : List ℕ) (b : ℕ) (rest : List ℕ) → AreBlanks bs → is_ascii_digit b ≡ false
    → IsTrue (no_digit_first (bs ++ b ∷ rest))
skip_apart [] b rest h e = rw e refl
skip_apart (c ∷ bs) b rest h e =
    rw (blank_is_no_digit c (both_true (is_blank c) (list_all is_blank bs) h).0) refl

-- a string of the stated length is read
pub string_at-append : (n : ℕ) (text rest : List ℕ) → length text ≡ n
    → string_at n (text ++ rest) ≡ Ok (text, rest)
unfolding string_at
string_at-append n text rest e =
    let long : ltb (length (text ++ rest)) n ≡ false =
    le-ltb _ _ (omega (arith, length-append text rest)) in
    rw (long, take_at text rest n e, drop_at text rest n e) refl

-- the bytes from the first string on, and those from the comma on
abbrev strings_of : List ℕ → List ℕ → List ℕ → List ℕ
strings_of first second rest = first ++ (second ++ newline ∷ rest)

abbrev pub comma_on : List ℕ → List ℕ → List ℕ → List ℕ
comma_on blanks number rest = blanks ++ comma ∷ (number ++ newline ∷ rest)

-- the bytes after the letter of a pair, grouped as they are read
abbrev pair_text : (letter : ℕ) (first second bytes : List ℕ) → IsPair letter first second bytes
    → List ℕ → List ℕ
pair_text letter first second bytes p rest =
    p.first_number ++ comma_on p.blanks p.second_number (strings_of first second rest)

-- the bytes of a pair are its letter and that
pair_bytes : (letter : ℕ) (first second bytes rest : List ℕ)
    → (p : IsPair letter first second bytes)
    → bytes ++ rest ≡ letter ∷ pair_text letter first second bytes p rest
pair_bytes letter first second bytes rest p =
    ap (λ (bs : List ℕ). bs ++ rest) p.spelled ∙ simp append_assoc

-- the comma is found after blanks
comma_found : (blanks number rest : List ℕ) → AreBlanks blanks
    → skip_blanks (comma_on blanks number rest) ≡ comma ∷ (number ++ newline ∷ rest)
comma_found blanks number rest are =
    skip_blanks-append blanks (comma ∷ (number ++ newline ∷ rest)) are

-- and no digit comes before it
comma_apart : (blanks number rest : List ℕ) → AreBlanks blanks
    → IsTrue (no_digit_first (comma_on blanks number rest))
comma_apart blanks number rest are = skip_apart blanks comma (number ++ newline ∷ rest) are refl

-- the first string of a pair and the length of the second are read before the parts after them
pub pair_head-spelled : {A : Type 0} (after : List ℕ → ℕ → Layout A) (n : ℕ) (name : List ℕ) (len : ℕ)
    (first blanks second rest : List ℕ) → length name ≡ n
    → IsNumber n first → n < 2 ^ 64 → AreBlanks blanks → IsNumber len second → len < 2 ^ 64
    → layout_at (pair_head after) (first ++ comma_on blanks second (name ++ rest))
    ≡ layout_at (after name len) rest
pair_head-spelled after n name len first blanks second rest is number fits are m lt =
    let on : List ℕ = name ++ rest in
    rw (
      length_at-number n first (comma_on blanks second on) number fits (comma_apart blanks second on are),
      comma_found blanks second on are,
      length_at-number len second (newline ∷ on) m lt refl,
      string_at-append n name rest is,
    ) refl

-- the last string and its newline are read
last_string-spelled : {A : Type 0} (make : List ℕ → A) (text rest : List ℕ)
    → layout_at (last_string make (length text)) (text ++ newline ∷ rest) ≡ Ok (make text, rest)
last_string-spelled make text rest = rw (string_at-append (length text) text (newline ∷ rest) refl) refl

-- bytes that spell a directive begin with its letter, and the directive is read after it
pub record IsRead (d : Directive) (bytes rest : List ℕ) : Type 0 where
  pub letter : ℕ
  pub after : List ℕ
  pub begins : bytes ++ rest ≡ letter ∷ after
  pub apart : (skip_lines false (letter ∷ after) ≡ letter ∷ after)
  pub gives : directive_at letter after ≡ Ok (d, rest)

-- a directive with two strings is read
pair_is_read : (letter : ℕ) (make : List ℕ → List ℕ → Directive) (first second bytes rest : List ℕ)
    → (p : IsPair letter first second bytes)
    → ((bs : List ℕ) → skip_lines false (letter ∷ bs) ≡ letter ∷ bs)
    → ((bs : List ℕ) → directive_at letter bs ≡ layout_at (pair_layout make) bs)
    → IsRead (make first second) bytes rest
pair_is_read letter make first second bytes rest p apart is = record {
  letter = letter;
  after = pair_text letter first second bytes p rest;
  begins = pair_bytes letter first second bytes rest p;
  apart = apart _;
  gives = is _ ∙ pair_head-spelled (λ name. last_string (make name)) (length first) first (length second)
      p.first_number p.blanks p.second_number (second ++ newline ∷ rest) refl
      p.first_length p.fits.0 p.are_blanks p.second_length p.fits.1
      ∙ last_string-spelled (make first) second rest;
}

-- a number of 32 bits passes the test of its digits
pub magnitude_fits : (minus : Bool) (v : ℕ) → FitsSigned w32 (signed minus v)
    → ltb v (cond minus (2 ^ 31 + 1) (2 ^ 31)) ≡ true
magnitude_fits true zero h = refl
magnitude_fits true (suc v) h = lt-ltb (suc v) (2 ^ 31 + 1) (omega (arith, ints))
magnitude_fits false v h = lt-ltb v (2 ^ 31) (omega (arith, ints))

-- the digits of a diversion's number are read
magnitude_at-digits : (number : List ℕ) (minus : Bool) (digits rest : List ℕ) (z : ℤ)
    → AreDigits digits → IsTrue (no_digit_first rest) → signed minus (value_of digits) ≡ z
    → FitsSigned w32 z
    → magnitude_at number minus (digits ++ rest) ≡ Ok (z, rest)
magnitude_at-digits number minus digits rest z are apart is fits =
    let lt : ltb (value_of digits) (cond minus (2 ^ 31 + 1) (2 ^ 31)) ≡ true =
    magnitude_fits minus (value_of digits) (rw is fits) in
    rw (some_digits_at-digits digits rest are apart, lt, is) refl

-- so is the number with its sign
pub signed_at-digits : (minus : Bool) (digits rest : List ℕ) (z : ℤ) → AreDigits digits
    → IsTrue (no_digit_first rest) → signed minus (value_of digits) ≡ z → FitsSigned w32 z
    → signed_at (skip_blanks (with_sign minus digits ++ rest)) ≡ Ok (z, rest)
signed_at-digits true digits rest z are apart is fits =
    magnitude_at-digits (minus_sign ∷ digits ++ rest) true digits rest z are apart is fits
signed_at-digits false [] rest z are apart is fits = absurd (are.0 refl)
signed_at-digits false (d ∷ ds) rest z are apart is fits =
    let digit : is_ascii_digit d ≡ true =
    (both_true (is_ascii_digit d) (list_all is_ascii_digit ds) are.1).0 in
    let no_sign : eqb d minus_sign ≡ false = digit_is_no_sign d digit in
    rw (skip_blanks-digits (d ∷ ds) rest are, no_sign)
    (magnitude_at-digits (d ∷ ds ++ rest) false (d ∷ ds) rest z are apart is fits)

-- the bytes after the letter of a diversion, grouped as they are read
abbrev diversion_text : (number : ℤ) (text bytes : List ℕ) → IsDiversion number text bytes
    → List ℕ → List ℕ
diversion_text number text bytes p rest =
    p.first_number ++ comma_on p.blanks p.second_number (text ++ newline ∷ rest)

-- the number and the length of a diversion are read before the parts after them
pub diversion_head-spelled : {A : Type 0} (after : ℤ → ℕ → Layout A) (number : ℤ) (len : ℕ)
    (first blanks second rest : List ℕ) → IsSigned number first
    → FitsSigned w32 number → AreBlanks blanks → IsNumber len second → len < 2 ^ 64
    → layout_at (diversion_head after) (first ++ comma_on blanks second rest)
    ≡ layout_at (after number len) rest
diversion_head-spelled after number len first blanks second rest n fits are m lt =
    let c : List ℕ = comma_on blanks second rest in
    let start : skip_blanks (first ++ c) ≡ skip_blanks (with_sign n.minus n.digits ++ c) =
    ap (λ (bs : List ℕ). skip_blanks (bs ++ c)) n.spelled
    ∙ ap skip_blanks (append_assoc n.blanks (with_sign n.minus n.digits) c)
    ∙ skip_blanks-append n.blanks (with_sign n.minus n.digits ++ c) n.are_blanks in
    rw (
      start,
      signed_at-digits n.minus n.digits c number n.are_digits
          (comma_apart blanks second rest are) n.value fits,
      comma_found blanks second rest are,
      length_at-number len second (newline ∷ rest) m lt refl,
    ) refl

-- a directive that is spelled is read
pub one_is_read : (d : Directive) (bytes rest : List ℕ) → SpellsOne d bytes → IsRead d bytes rest
unfolding directive_at
one_is_read (Quotes first second) bytes rest p =
    pair_is_read letter_Q Quotes first second bytes rest p (λ bs. refl) (λ bs. refl)
one_is_read (Comments first second) bytes rest p =
    pair_is_read letter_C Comments first second bytes rest p (λ bs. refl) (λ bs. refl)
one_is_read (Text first second) bytes rest p =
    pair_is_read letter_T Text first second bytes rest p (λ bs. refl) (λ bs. refl)
one_is_read (Builtin first second) bytes rest p =
    pair_is_read letter_F Builtin first second bytes rest p (λ bs. refl) (λ bs. refl)
one_is_read (Diversion number text) bytes rest p = record {
  letter = letter_D;
  after = diversion_text number text bytes p rest;
  begins = ap (λ (bs : List ℕ). bs ++ rest) p.spelled ∙ simp append_assoc;
  apart = refl;
  gives = diversion_head-spelled (λ z. last_string (Diversion z)) number (length text) p.first_number p.blanks
      p.second_number (text ++ newline ∷ rest) p.number_is p.fits.0 p.are_blanks p.text_length p.fits.1
      ∙ last_string-spelled (Diversion number) text rest;
}

-- a directive is read after complete lines
pub next_at-spelled : (d : Directive) (lines one rest : List ℕ) → AreSkippedLines lines
    → IsRead d one rest → next_at (skip_lines false (lines ++ one ++ rest)) ≡ Ok (Some (d, rest))
next_at-spelled d lines one rest are r =
    let e : skip_lines false (lines ++ one ++ rest) ≡ r.letter ∷ r.after =
    ap (skip_lines false) (append_assoc lines one rest)
    ∙ skip_lines-append lines (one ++ rest) are ∙ ap (skip_lines false) r.begins
    ∙ r.apart in
    ap (next_at) e ∙ rw r.gives refl

-- directives that are spelled are read, if there are fewer than are asked for
pub directives_at-spelled : (ds : List Directive) (bytes : List ℕ) (n : ℕ) → SpellsAll true ds bytes
    → length ds < n → directives_at n bytes ≡ Ok ds
unfolding directives_at
directives_at-spelled ds bytes zero h lt = absurd (omega arith)
directives_at-spelled [] bytes (suc n) h lt = rw (skip_lines-last bytes h) refl
directives_at-spelled (d ∷ ds) bytes (suc n) h lt =
    let first : next_at (skip_lines false bytes) ≡ Ok (Some (d, h.2)) =
    ap (λ (bs : List ℕ). next_at (skip_lines false bs)) h.6
    ∙ next_at-spelled d h.0 h.1 h.2 h.3 (one_is_read d h.1 h.2 h.4) in
    rw (first, directives_at-spelled ds h.2 n h.5 (omega arith)) refl

-- a directive takes a byte at least
pub some_SpellsOne : (d : Directive) (one : List ℕ) → SpellsOne d one → 0 < length one
some_SpellsOne (Quotes first second) one p = rw p.spelled (omega arith)
some_SpellsOne (Comments first second) one p = rw p.spelled (omega arith)
some_SpellsOne (Text first second) one p = rw p.spelled (omega arith)
some_SpellsOne (Builtin first second) one p = rw p.spelled (omega arith)
some_SpellsOne (Diversion number text) one p = rw p.spelled (omega arith)

-- each directive takes a byte at least
pub length-SpellsAll : (may_lack : Bool) (ds : List Directive) (bytes : List ℕ)
    → SpellsAll may_lack ds bytes → length ds ≤ length bytes
length-SpellsAll may_lack [] bytes h = omega arith
length-SpellsAll may_lack (d ∷ ds) bytes h =
    rw h.6 (omega (
      arith,
      length-append (h.0 ++ h.1) h.2,
      length-append h.0 h.1,
      some_SpellsOne d h.1 h.4,
      length-SpellsAll may_lack ds h.2 h.5,
    ))

-- the version is read
pub version_at-number : (number rest : List ℕ) → IsNumber 1 number → IsTrue (no_digit_first rest)
    → version_at (number ++ rest) ≡ Ok rest
unfolding version_at
version_at-number number rest p apart =
    let blanks : skip_blanks (number ++ rest) ≡ p.digits ++ rest =
    ap (λ (bs : List ℕ). skip_blanks (bs ++ rest)) p.spelled
    ∙ ap skip_blanks (append_assoc p.blanks p.digits rest)
    ∙ skip_blanks-append p.blanks (p.digits ++ rest) p.are_blanks
    ∙ skip_blanks-digits p.digits rest p.are_digits in
    rw (blanks, some_digits_at-digits p.digits rest p.are_digits apart, p.value) refl

-- what spells directives is read as these
pub file_at-spelled : (ds : List Directive) (bytes : List ℕ) → Spells ds bytes
    → file_at bytes ≡ Ok ds
unfolding file_at
file_at-spelled ds bytes p =
    let start : skip_lines false bytes ≡ letter_V ∷ p.number ++ newline ∷ p.rest =
    ap (skip_lines false) p.spelled
    ∙ ap (skip_lines false) (append_assoc p.lines (letter_V ∷ p.number) (newline ∷ p.rest))
    ∙ skip_lines-append p.lines (letter_V ∷ p.number ++ newline ∷ p.rest) p.are_lines in
    rw (
      start,
      version_at-number p.number (newline ∷ p.rest) p.version refl,
      directives_at-spelled ds p.rest (length p.rest + 1) p.others
          (omega (arith, length-SpellsAll true ds p.rest p.others)),
    ) refl

-- an answer without a fault
abbrev given : List Directive → Result (List Directive) Refusal
given ds = Ok ds

-- two such answers that are one have the same directives
same_given : (a b : List Directive) → given a ≡ given b → a ≡ b
same_given a b e = cc

-- no bytes spell two lists of directives
pub one_spelling : (ds es : List Directive) (bytes : List ℕ) → Spells ds bytes → Spells es bytes
    → ds ≡ es
one_spelling ds es bytes p q = same_given ds es (sym (file_at-spelled ds bytes p)
    ∙ file_at-spelled es bytes q)
