-- The directive of a text as most are, found at the start of bytes.
use Rattle.std.proofs.Common.{◌≡◌, ℕ, ◌+◌, ◌-◌, ◌<◌, ◌≤◌, List, [], ◌∷◌, ◌++◌, length, take, drop, get_or, drop-cons}
use Rattle.std.proofs.Common.{false, refl, sym, ap, ◌∙◌, append_assoc, arith, inr, add-one}
use Rattle.std.proofs.Math.Seq.{take-add}
use Rattle.std.proofs.lemmas.List.{length-append, length-take-le, length-drop, take-append-drop, drop_at}
use Rattle.std.proofs.lemmas.List.Elements.{All-nil}
use Rattle.m4_frozen.specs.Ascii.{newline, comma, letter_T}
use Rattle.m4_frozen.specs.Directive.{Text}
use Rattle.m4_frozen.specs.Spells.{IsNumber, IsPair, IsSkippedLine, AreSkippedLines}
use Rattle.m4_frozen.specs.ReaderSteps.{next_at, skip_lines}
use Rattle.m4_frozen.specs.Underway.{BeginsWithNumber, IsTextLine, IsTextAt}
use Rattle.m4_frozen.proofs.ReadBack.{one_is_read, next_at-spelled}

-- digits with no blanks before them are a number
as_number : (n : ℕ) (bytes rest : List ℕ) → (b : BeginsWithNumber n bytes rest) → IsNumber n b.digits
as_number n bytes rest b = record { blanks = []; digits = b.digits; are_blanks = refl; are_digits = b.are_digits; spelled = refl; value = b.value }

no_lines : AreSkippedLines []
no_lines = ([], All-nil IsSkippedLine, refl)

-- two strings and a newline
parted : (strings : List ℕ) (middle len : ℕ) → middle + len < length strings → get_or strings (middle + len) 0 ≡ newline
    → strings ≡ take middle strings ++ (take len (drop middle strings) ++ newline ∷ drop (middle + len + 1) strings)
parted strings middle len within ends =
    let both : ℕ = middle + len in
    sym (take-append-drop both strings)
    ∙ (λ j. take-add middle len strings j ++ (drop-cons strings both 0 within ∙ (λ i. ends i ∷ drop (sym (add-one both) i) strings)) j)
    ∙ append_assoc (take middle strings) (take len (drop middle strings)) (newline ∷ drop (both + 1) strings)

-- the first line, and all after it
lined : (bytes line strings : List ℕ) (middle len after : ℕ) → line ≡ take 16 bytes → 16 ≤ length bytes → (l : IsTextLine middle len after line)
    → strings ≡ drop (16 - after) bytes
    → bytes ≡ (letter_T ∷ l.name_length.digits ++ comma ∷ l.text_length.digits ++ newline ∷ []) ++ strings
lined bytes line strings middle len after piece long l is =
    let head : List ℕ = letter_T ∷ l.name_length.digits ++ comma ∷ l.text_length.digits ++ newline ∷ [] in
    let whole : line ≡ head ++ l.rest = l.spelled ∙ rw (l.name_length.spelled, l.text_length.spelled) (simp append_assoc) in
    let all : bytes ≡ head ++ (l.rest ++ drop 16 bytes) =
    sym (take-append-drop 16 bytes) ∙ ap (λ (x : List ℕ). x ++ drop 16 bytes) (sym piece ∙ whole) ∙ append_assoc head l.rest (drop 16 bytes) in
    let size : length head ≡ 16 - after =
    omega (arith, l.left, ap (λ (x : List ℕ). length x) (sym piece ∙ whole), length-append head l.rest, length-take-le 16 bytes long) in
    let rest : strings ≡ l.rest ++ drop 16 bytes =
    is ∙ ap (drop (16 - after)) all ∙ drop_at head (l.rest ++ drop 16 bytes) (16 - after) size in
    all ∙ ap (λ (x : List ℕ). head ++ x) (sym rest)

-- what is after the first line is within its piece
pub line_within : (bytes line : List ℕ) (middle len after : ℕ) → line ≡ take 16 bytes → 16 ≤ length bytes → IsTextLine middle len after line → after ≤ 16
line_within bytes line middle len after piece long l =
    omega (
      arith,
      l.left,
      ap (λ (x : List ℕ). length x) (sym piece ∙ l.spelled),
      length-take-le 16 bytes long,
      ap (λ (x : List ℕ). length x) l.name_length.spelled,
      length-append l.name_length.digits (comma ∷ l.second),
      ap (λ (x : List ℕ). length x) l.text_length.spelled,
      length-append l.text_length.digits (newline ∷ l.rest),
    )

-- so the directive of a text is at the start
pub text_found : (bytes line strings : List ℕ) (middle len after : ℕ) → line ≡ take 16 bytes → 16 ≤ length bytes → IsTextLine middle len after line
    → strings ≡ drop (16 - after) bytes → middle + len < length strings → get_or strings (middle + len) 0 ≡ newline
    → IsTextAt middle len strings bytes
text_found bytes line strings middle len after piece long l is within ends =
    let name : List ℕ = take middle strings in
    let text : List ℕ = take len (drop middle strings) in
    let rest : List ℕ = drop (middle + len + 1) strings in
    let first : List ℕ = l.name_length.digits in
    let second : List ℕ = l.text_length.digits in
    let head : List ℕ = letter_T ∷ first ++ comma ∷ second ++ newline ∷ [] in
    let start : bytes ≡ head ++ strings = lined bytes line strings middle len after piece long l is in
    let one : List ℕ = letter_T ∷ first ++ [] ++ comma ∷ second ++ newline ∷ name ++ text ++ newline ∷ [] in
    let whole : bytes ≡ one ++ rest = start ∙ ap (λ (x : List ℕ). head ++ x) (parted strings middle len within ends) ∙ simp append_assoc in
    let named : length name ≡ middle = length-take-le middle strings (omega (arith, within)) in
    let texted : length text ≡ len = length-take-le len (drop middle strings) (omega (arith, within, length-drop middle strings)) in
    let pair : IsPair letter_T name text one = record {
      first_number = first;
      blanks = [];
      second_number = second;
      first_length = rw named (as_number middle _ _ l.name_length);
      are_blanks = refl;
      second_length = rw texted (as_number len _ _ l.text_length);
      fits = (omega (arith, named, l.name_length.few), omega (arith, texted, l.text_length.few));
      spelled = refl;
    } in
    record {
      line = head;
      spelled = start;
      within = within;
      at = inr (refl, ap (skip_lines false) start ∙ sym start);
      gives = ap next_at (whole ∙ refl) ∙ next_at-spelled (Text name text) [] one rest no_lines (one_is_read (Text name text) one rest pair);
    }
