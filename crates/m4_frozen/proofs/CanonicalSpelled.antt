-- The canonical text of a state spells its canonical directives, if the state is sized.
use Rattle.std.proofs.Common.{◌≡◌, ℕ, suc, ◌<◌, ◌^◌, ℤ, pos, negsuc, Bool, true, false, cond, List, [], ◌∷◌, ◌++◌}
use Rattle.std.proofs.Common.{map, length, refl, sym, ap, append_assoc, arith, rules, inl, inr}
use Rattle.std.specs.Prelude.{IsTrue, FitsSigned, codes, decimal, neg_ℤ}
use Rattle.std.specs.Int.{w32}
use Rattle.std.specs.Fmt.{signed_decimal}
use Rattle.std.specs.Char.{is_ascii_digit}
use Rattle.std.specs.List.{flat_map, list_all, AllByRecursion}
use Rattle.std.specs.Ordering.{int_eq}
use Rattle.std.proofs.lemmas.Int.{ints}
use Rattle.std.proofs.lemmas.List.{append-nil}
use Rattle.std.proofs.lemmas.List.Elements.{All-nil, All-cons}
use Rattle.std.proofs.lemmas.Fmt.{digits_decimal, digits_value-decimal, decimal_nonempty}
use Rattle.std.proofs.lemmas.Str.Parse.{IsNumeralModel, numerals_by_fold}
use Rattle.m4_state.specs.declared.definition.Def.{Def}
use Rattle.m4_state.specs.declared.definition.Def.TheVariants as defs
use Rattle.m4_state.specs.declared.delimiters.Delimiters.{Delimiters}
use Rattle.m4_state.specs.Definition.{IsSizedDefinition}
use Rattle.m4_state.specs.Delimiters.{default_quotes, default_comments}
use Rattle.m4_state.specs.State.{State, IsState, IsSized, AreSizedDiversions, IsDiversion as IsDiversionOfState}
use Rattle.m4_state.specs.State.{NumberedText}
use Rattle.m4_state.specs.Table.{Pairs, IsSizedStack}
use Rattle.m4_frozen.specs.Ascii.{newline, letter_Q, letter_C, letter_T, letter_F}
use Rattle.m4_frozen.specs.Directive.{Directive, Quotes, Comments, Text, Builtin, Diversion}
use Rattle.m4_frozen.specs.Freeze.{unless_default, definition, last_number}
use Rattle.m4_frozen.specs.Freeze.{current_unless_last, canonical, two_strings, spelling, freeze}
use Rattle.m4_frozen.proofs.Cases.{definitions}
use Rattle.m4_frozen.specs.WriterSteps.{same_delimiters, diversion, header, end_line}
use Rattle.m4_frozen.specs.Spells.{AreDigits, value_of, IsNumber, IsSigned, IsPair, IsDiversion}
use Rattle.m4_frozen.specs.Spells.{SpellsOne, IsSkippedLine, AreSkippedLines, AreLines, SpellsAll, Spells}
use Rattle.m4_frozen.proofs.Digits.{value_from}

-- ---- numbers

-- digits and their value, as std's lemmas on `decimal` take them
numerals : IsNumeralModel (λ digits. IsTrue (list_all is_ascii_digit digits)) value_of
numerals = numerals_by_fold _ (search rules) value_from (search rules)

decimal_digits : (n : ℕ) → n < 2 ^ 64 → AreDigits (decimal n)
decimal_digits n lt = (
  λ (none : decimal n ≡ []). absurd (omega (arith, decimal_nonempty n lt, ap length none)),
  digits_decimal numerals n lt,
)

-- a length without blanks and leading zeros
number_spelled : (n : ℕ) → n < 2 ^ 64 → IsNumber n (decimal n)
number_spelled n lt = record {
  blanks = [];
  digits = decimal n;
  are_blanks = refl;
  are_digits = decimal_digits n lt;
  spelled = refl;
  value = digits_value-decimal numerals n lt;
}

-- the number of a diversion
signed_spelled : (z : ℤ) → FitsSigned w32 z → IsSigned z (signed_decimal z)
signed_spelled (pos n) fits =
    let lt : n < 2 ^ 64 = omega (arith, ints) in record {
      blanks = [];
      minus = false;
      digits = decimal n;
      are_blanks = refl;
      are_digits = decimal_digits n lt;
      spelled = refl;
      value = ap (λ (k : ℕ). pos k) (digits_value-decimal numerals n lt);
    }
signed_spelled (negsuc n) fits =
    let lt : suc n < 2 ^ 64 = omega (arith, ints) in record {
      blanks = [];
      minus = true;
      digits = decimal (suc n);
      are_blanks = refl;
      are_digits = decimal_digits (suc n) lt;
      spelled = refl;
      value = ap (λ (k : ℕ). neg_ℤ (pos k)) (digits_value-decimal numerals (suc n) lt);
    }

-- ---- one directive

-- its lengths are numbers of 64 bits, and the number of a diversion is one of 32
abbrev pub Fits : Directive → Type 0
Fits (Quotes begin end) = (length begin < 2 ^ 64) × (length end < 2 ^ 64)
Fits (Comments begin end) = (length begin < 2 ^ 64) × (length end < 2 ^ 64)
Fits (Text name text) = (length name < 2 ^ 64) × (length text < 2 ^ 64)
Fits (Builtin name builtin) = (length name < 2 ^ 64) × (length builtin < 2 ^ 64)
Fits (Diversion number text) = FitsSigned w32 number × (length text < 2 ^ 64)

pair_spelled : (letter : ℕ) (first second : List ℕ) → length first < 2 ^ 64 → length second < 2 ^ 64
    → IsPair letter first second (two_strings letter first second)
pair_spelled letter first second fits_first fits_second = record {
  first_number = decimal (length first);
  blanks = [];
  second_number = decimal (length second);
  first_length = number_spelled (length first) fits_first;
  are_blanks = refl;
  second_length = number_spelled (length second) fits_second;
  fits = (fits_first, fits_second);
  spelled = simp append_assoc;
}

diversion_spelled : (number : ℤ) (text : List ℕ) → FitsSigned w32 number → length text < 2 ^ 64
    → IsDiversion number text (spelling (Diversion number text))
diversion_spelled number text fits_number fits_text = record {
  first_number = signed_decimal number;
  blanks = [];
  second_number = decimal (length text);
  number_is = signed_spelled number fits_number;
  are_blanks = refl;
  text_length = number_spelled (length text) fits_text;
  fits = (fits_number, fits_text);
  spelled = simp append_assoc;
}

pub one_spelled : (d : Directive) → Fits d → SpellsOne d (spelling d)
one_spelled (Quotes begin end) fits = pair_spelled letter_Q begin end fits.0 fits.1
one_spelled (Comments begin end) fits = pair_spelled letter_C begin end fits.0 fits.1
one_spelled (Text name text) fits = pair_spelled letter_T name text fits.0 fits.1
one_spelled (Builtin name builtin) fits = pair_spelled letter_F name builtin fits.0 fits.1
one_spelled (Diversion number text) fits = diversion_spelled number text fits.0 fits.1

-- ---- all directives of a text

pub no_lines : AreSkippedLines []
no_lines = ([], All-nil IsSkippedLine, refl)

-- a comment line
comment_line : (text : List ℕ) → IsSkippedLine text → AreSkippedLines (text ++ newline ∷ [])
comment_line text is = (
  text ∷ [],
  All-cons IsSkippedLine text [] is (All-nil IsSkippedLine),
  sym (append-nil (text ++ newline ∷ [])),
)

end_line_skipped : AreLines true end_line
end_line_skipped = (
  end_line,
  [],
  comment_line (codes "# End of frozen state file")
      (inr (codes " End of frozen state file", refl, refl)),
  inl refl,
  refl,
)

all_spelled : (ds : List Directive) → AllByRecursion Fits ds
    → SpellsAll true ds (flat_map spelling ds ++ end_line)
all_spelled [] fits = end_line_skipped
all_spelled (d ∷ ds) fits = (
  [],
  spelling d,
  flat_map spelling ds ++ end_line,
  no_lines,
  one_spelled d fits.0,
  all_spelled ds fits.1,
  append_assoc (spelling d) (flat_map spelling ds) end_line,
)

-- the first line
pub header_lines : AreSkippedLines (codes "# m4 frozen state\n")
header_lines = comment_line (codes "# m4 frozen state") (inr (codes " m4 frozen state", refl, refl))

-- the number of the second
pub header_number : IsNumber 1 (codes "1")
header_number = record {
  blanks = [];
  digits = codes "1";
  are_blanks = refl;
  are_digits = ((λ (none : codes "1" ≡ []). absurd cc), refl);
  spelled = refl;
  value = refl;
}

-- directives that fit, between the header and the end line
text_spelled : (ds : List Directive) → AllByRecursion Fits ds
    → Spells ds (header ++ flat_map spelling ds ++ end_line)
text_spelled ds fits = record {
  lines = codes "# m4 frozen state\n";
  number = codes "1";
  rest = flat_map spelling ds ++ end_line;
  are_lines = header_lines;
  version = header_number;
  others = all_spelled ds fits;
  spelled = append_assoc header (flat_map spelling ds) end_line;
}

-- ---- the canonical directives

-- what holds of the elements of two lists holds of those of both
AllByRecursion-append : {X : Type 0} (P : X → Type 0) (xs ys : List X) → AllByRecursion P xs
    → AllByRecursion P ys → AllByRecursion P (xs ++ ys)
AllByRecursion-append P [] ys first second = second
AllByRecursion-append P (x ∷ xs) ys first second =
    (first.0, AllByRecursion-append P xs ys first.1 second)

delimiters_fit : (make : List ℕ → List ℕ → Directive) (default d : Delimiters)
    → Fits (make d.begin d.end) → AllByRecursion Fits (unless_default make default d)
delimiters_fit make default d fits = by (same_delimiters d default)
  where
    by : (b : Bool) → AllByRecursion Fits (cond b [] (make d.begin d.end ∷ []))
    by true = tt
    by false = (fits, tt)

definition_fits : (name : List ℕ) (d : Def) → length name < 2 ^ 64 → IsSizedDefinition d
    → Fits (definition name d)
definition_fits name (defs.Text text) fits sized = (fits, sized)
definition_fits name (defs.Builtin builtin) fits sized = (fits, sized)
definition_fits name (defs.Placeholder builtin) fits sized = (fits, sized)

stack_fits : (name : List ℕ) (stack : List Def) → length name < 2 ^ 64
    → AllByRecursion IsSizedDefinition stack → AllByRecursion Fits (map (definition name) stack)
stack_fits name [] fits sized = tt
stack_fits name (d ∷ stack) fits sized =
    (definition_fits name d fits sized.0, stack_fits name stack fits sized.1)

names_fit : (es : Pairs) → AllByRecursion IsSizedStack es
    → AllByRecursion Fits (flat_map (λ e. map (definition e.0) e.1) es)
names_fit [] sized = tt
names_fit (e ∷ es) sized = AllByRecursion-append Fits (map (definition e.0) e.1) _
    (stack_fits e.0 e.1 sized.0.name sized.0.definitions)
    (names_fit es sized.1)

diversions_fit : (ds : List NumberedText) → AllByRecursion IsDiversionOfState ds
    → AreSizedDiversions ds → AllByRecursion Fits (map diversion ds)
diversions_fit [] valid sized = tt
diversions_fit (d ∷ ds) valid sized =
    ((valid.0.fits, sized.0), diversions_fit ds valid.1 sized.1)

current_fits : (s : State) → FitsSigned w32 s.current → AllByRecursion Fits (current_unless_last s)
current_fits s fits = by (int_eq s.current (last_number (pos 0) s.diversions))
  where
    by : (b : Bool) → AllByRecursion Fits (cond b [] (Diversion s.current [] ∷ []))
    by true = tt
    by false = ((fits, omega arith), tt)

pub canonical_fits : (s : State) → IsState s → IsSized s → AllByRecursion Fits (canonical s)
canonical_fits s valid sized =
    AllByRecursion-append Fits _ (current_unless_last s)
    (AllByRecursion-append Fits _ (map diversion s.diversions)
    (AllByRecursion-append Fits _ (definitions s)
    (AllByRecursion-append Fits _ (unless_default Comments default_comments s.comments)
    (delimiters_fit Quotes default_quotes s.quotes sized.quotes)
    (delimiters_fit Comments default_comments s.comments sized.comments))
    (names_fit s.table sized.table))
    (diversions_fit s.diversions valid.diversions.each sized.diversions))
    (current_fits s valid.current)

-- what a state freezes to spells its canonical directives
pub freeze_spelled : (s : State) → IsState s → IsSized s → Spells (canonical s) (freeze s)
freeze_spelled s valid sized = text_spelled (canonical s) (canonical_fits s valid sized)
