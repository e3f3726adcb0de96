-- What the parts of the writer put, joined, is the canonical text.
use Rattle.std.proofs.Common.{◌≡◌, ℕ, ℤ, pos, Bool, true, false, cond, List, [], ◌∷◌, ◌++◌, map, refl, sym, ap, ◌∙◌, append_assoc}
use Rattle.std.specs.Prelude.{FitsSigned}
use Rattle.std.specs.Int.{w32}
use Rattle.std.specs.List.{flat_map, AllByRecursion}
use Rattle.std.specs.Ordering.{int_eq}
use Rattle.std.proofs.lemmas.List.{append-nil}
use Rattle.std.proofs.lemmas.Grind.{flat_map-append}
use Rattle.m4_state.specs.State.{State, IsDiversion, NumberedText}
use Rattle.m4_state.specs.declared.definition.Def.{Def}
use Rattle.m4_state.specs.declared.delimiters.Delimiters.{Delimiters}
use Rattle.m4_state.specs.Delimiters.{default_quotes, default_comments}
use Rattle.m4_state.specs.Table.{Pairs}
use Rattle.m4_frozen.specs.Ascii.{letter_C, letter_Q}
use Rattle.m4_frozen.specs.Directive.{Directive, Quotes, Comments, Diversion}
use Rattle.m4_frozen.specs.WriterSteps.{delimiters_text, stack_text, names_text, texts_text, current_text, directives_text, frozen_text}
use Rattle.m4_frozen.specs.Freeze.{last_number, unless_default, definition}
use Rattle.m4_frozen.specs.Freeze.{current_unless_last, two_strings, spelling, freeze}
use Rattle.m4_frozen.proofs.Cases.{definitions}
use Rattle.m4_frozen.specs.WriterSteps.{same_delimiters, diversion, header, end_line}

-- the last number is one of 32 bits
pub last_fits : (n : ℤ) (ds : List NumberedText) → FitsSigned w32 n → AllByRecursion IsDiversion ds → FitsSigned w32 (last_number n ds)
last_fits n [] fits h = fits
last_fits n (d ∷ ds) fits h = last_fits d.0 ds h.0.fits h.1

-- ---- the whole text

-- the texts of a name's definitions
stack_text-map : (name : List ℕ) (stack : List Def) → stack_text name stack ≡ flat_map spelling (map (definition name) stack)
stack_text-map name [] = refl
stack_text-map name (d ∷ stack) = ap (λ (t : List ℕ). spelling (definition name d) ++ t) (stack_text-map name stack)

-- and of all names
names_text-definitions : (es : Pairs) → names_text es ≡ flat_map spelling (flat_map (λ e. map (definition e.0) e.1) es)
names_text-definitions [] = refl
names_text-definitions (e ∷ es) =
    ap (λ (t : List ℕ). t ++ names_text es) (stack_text-map e.0 e.1)
    ∙ ap (λ (t : List ℕ). flat_map spelling (map (definition e.0) e.1) ++ t) (names_text-definitions es)
    ∙ sym (flat_map-append spelling (map (definition e.0) e.1) (flat_map (λ e. map (definition e.0) e.1) es))

delimiters_text-unless : (letter : ℕ) (make : List ℕ → List ℕ → Directive) (default d : Delimiters)
    → spelling (make d.begin d.end) ≡ two_strings letter d.begin d.end
    → delimiters_text letter default d ≡ flat_map spelling (unless_default make default d)
delimiters_text-unless letter make default d is = by (same_delimiters d default)
  where
    by : (b : Bool) → cond b [] (two_strings letter d.begin d.end) ≡ flat_map spelling (cond b [] (make d.begin d.end ∷ []))
    by true = refl
    by false = sym is ∙ sym (append-nil (spelling (make d.begin d.end)))

texts_text-map : (ds : List NumberedText) → texts_text ds ≡ flat_map spelling (map diversion ds)
texts_text-map [] = refl
texts_text-map (d ∷ ds) = ap (λ (t : List ℕ). spelling (diversion d) ++ t) (texts_text-map ds)

current_text-unless : (s : State) → current_text s.current (last_number (pos 0) s.diversions) ≡ flat_map spelling (current_unless_last s)
current_text-unless s = by (int_eq s.current (last_number (pos 0) s.diversions))
  where
    by : (b : Bool) → cond b [] (spelling (Diversion s.current [])) ≡ flat_map spelling (cond b [] (Diversion s.current [] ∷ []))
    by true = refl
    by false = sym (append-nil (spelling (Diversion s.current [])))

-- what the parts of the writer put is the canonical text
pub frozen_text-freeze : (s : State) → frozen_text s s.table ≡ freeze s
unfolding directives_text
frozen_text-freeze s =
    let quotes = delimiters_text-unless letter_Q Quotes default_quotes s.quotes refl in
    let comments = delimiters_text-unless letter_C Comments default_comments s.comments refl in
    let names = names_text-definitions s.table in
    let texts = texts_text-map s.diversions in
    let current = current_text-unless s in
    rw (quotes, comments, names, texts, current)
    (by (unless_default Quotes default_quotes s.quotes) (unless_default Comments default_comments s.comments)
    (definitions s) (map diversion s.diversions) (current_unless_last s))
  where
    by : (q c d t n : List Directive) → header
        ++ (((flat_map spelling q ++ flat_map spelling c)
        ++ (flat_map spelling d ++ (flat_map spelling t ++ flat_map spelling n))) ++ end_line)
        ≡ header ++ flat_map spelling (q ++ c ++ d ++ t ++ n) ++ end_line
    by q c d t n = simp (flat_map-append {X = Directive} {A = ℕ} spelling, append_assoc) refl
