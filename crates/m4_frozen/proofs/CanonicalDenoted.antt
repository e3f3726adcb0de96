-- The canonical directives of a state denote it, and issue nothing.
use Rattle.std.proofs.Common.{◌≡◌, ◌≢◌, ℕ, zero, suc, ℤ, pos, negsuc, Bool, true, false, cond, List, [], ◌∷◌, ◌++◌}
use Rattle.std.proofs.Common.{map, Option, unwrap_or, refl, sym, ap, ◌∙◌, append_assoc}
use Rattle.std.specs.Prelude.{IsTrue, ◌↔◌, fold}
use Rattle.std.specs.List.{flat_map, AllByRecursion}
use Rattle.std.specs.Ordering.{int_cmp, int_eq}
use Rattle.std.specs.Str.{bytes_eq}
use Rattle.std.specs.Cmp.{int_cmp_total}
use Rattle.std.specs.Cmp.Lexicographic.{nat_list_cmp_total}
use Rattle.std.specs.FinMap.{put, is_sorted}
use Rattle.std.proofs.lemmas.Bool.Decides.{Decides-int_eq}
use Rattle.std.proofs.lemmas.Grind.{flat_map-append}
use Rattle.std.proofs.lemmas.List.{append-nil}
use Rattle.std.proofs.lemmas.List.Sums.{fold-append}
use Rattle.std.proofs.lemmas.Slice.Eq.{bytes_eq-Decides}
use Rattle.m4_state.specs.declared.definition.Def.{Def}
use Rattle.m4_state.specs.declared.definition.Def.TheVariants as defs
use Rattle.m4_state.specs.declared.delimiters.Delimiters.{Delimiters}
use Rattle.m4_state.specs.Builtin.{name_of}
use Rattle.m4_state.proofs.CallerLaws.{builtin_named-name_of}
use Rattle.m4_state.specs.Definition.{IsDefinition}
use Rattle.m4_state.specs.Delimiters.{default_quotes, default_comments, chosen, IsPaired}
use Rattle.m4_state.specs.State.{State, NumberedText, IsDiversion, IsState, empty, pushed, with_text}
use Rattle.m4_state.specs.State.{holds_text}
use Rattle.m4_state.specs.Table.{Pairs, byte_order, with_push, IsStack}
use Rattle.m4_state.proofs.Pairs.{both}
use Rattle.m4_state.proofs.TextsByNumber.{with_text-some}
use Rattle.m4_frozen.specs.Denote.{with_directive, issued_by, denote}
use Rattle.m4_frozen.proofs.Cases.{definitions, builtin_or_placeholder}
use Rattle.m4_frozen.specs.Directive.{Directive, Quotes, Comments, Diversion}
use Rattle.m4_frozen.specs.Freeze.{unless_default, definition, last_number}
use Rattle.m4_frozen.specs.Freeze.{current_unless_last, canonical}
use Rattle.m4_frozen.specs.WriterSteps.{same_delimiters, diversion}
use Rattle.m4_frozen.proofs.LastPlace.{AreBelow, AreBelowFirst, AreBelowFirst-next, find-missing, find-last}
use Rattle.m4_frozen.proofs.LastPlace.{put-missing, put-last}

-- ---- the delimiters

-- the state after some directives
abbrev state_after : State → List Directive → State
state_after t ds = fold with_directive t ds

same_delimiters-is : (d default : Delimiters) → same_delimiters d default ≡ true → default ≡ d
same_delimiters-is d default is =
    let parts = both (bytes_eq d.begin default.begin) (bytes_eq d.end default.end) is in
    let begin : d.begin ≡ default.begin = (bytes_eq-Decides d.begin default.begin).0 parts.0 in
    let end : d.end ≡ default.end = (bytes_eq-Decides d.end default.end).0 parts.1 in
    sym (λ i. record { begin = begin i; end = end i })

-- both strings of a pair choose that pair
chosen-paired : (default d : Delimiters) → IsPaired d → chosen default d.begin d.end ≡ d
chosen-paired default d paired = by d.begin d.end paired
  where
    by : (begin end : List ℕ) → (begin ≡ []) ↔ (end ≡ [])
        → chosen default begin end ≡ record { begin = begin; end = end }
    by [] [] paired = refl
    by [] (e ∷ end) paired = let none : e ∷ end ≡ [] = paired.0 refl in absurd cc
    by (b ∷ begin) [] paired = let none : b ∷ begin ≡ [] = paired.1 refl in absurd cc
    by (b ∷ begin) (e ∷ end) paired = refl

abbrev quoted : State → Delimiters → State
quoted t d = record t { quotes = d }

quotes_denoted : (t : State) (d : Delimiters) → t.quotes ≡ default_quotes → IsPaired d
    → state_after t (unless_default Quotes default_quotes d) ≡ quoted t d
quotes_denoted t d default paired = by (same_delimiters d default_quotes) refl
  where
    by : (b : Bool) → same_delimiters d default_quotes ≡ b
        → state_after t (cond b [] (Quotes d.begin d.end ∷ [])) ≡ quoted t d
    by true is = ap (quoted t) (default ∙ same_delimiters-is d default_quotes is)
    by false is = ap (quoted t) (chosen-paired default_quotes d paired)

abbrev commented : State → Delimiters → State
commented t d = record t { comments = d }

comments_denoted : (t : State) (d : Delimiters) → t.comments ≡ default_comments → IsPaired d
    → state_after t (unless_default Comments default_comments d) ≡ commented t d
comments_denoted t d default paired = by (same_delimiters d default_comments) refl
  where
    by : (b : Bool) → same_delimiters d default_comments ≡ b
        → state_after t (cond b [] (Comments d.begin d.end ∷ [])) ≡ commented t d
    by true is = ap (commented t) (default ∙ same_delimiters-is d default_comments is)
    by false is = ap (commented t) (chosen-paired default_comments d paired)

-- ---- the definitions

definition_denoted : (t : State) (name : List ℕ) (d : Def) → IsDefinition d
    → with_directive t (definition name d) ≡ pushed t name d
definition_denoted t name (defs.Text text) valid = refl
definition_denoted t name (defs.Builtin builtin) valid =
    ap (λ (found : Option _). pushed t name (builtin_or_placeholder found (name_of builtin)))
    (builtin_named-name_of builtin)
definition_denoted t name (defs.Placeholder builtin) valid =
    ap (λ (found : Option _). pushed t name (builtin_or_placeholder found builtin)) valid

-- where the table is this one
abbrev with_names : State → Pairs → State
with_names t table = record t { table = table }

-- each name that is done is below this one
abbrev IsPrefixed : Pairs → List ℕ → Type 0
IsPrefixed done name = AreBelow byte_order nat_list_cmp_total done name

-- the first definition of a name
first_push : (done : Pairs) (name : List ℕ) (d : Def) → IsPrefixed done name
    → with_push done name d ≡ done ++ (name, d ∷ []) ∷ []
first_push done name d after =
    ap (λ (found : Option (List Def)). put byte_order name (unwrap_or found [] ++ d ∷ []) done)
    (find-missing byte_order nat_list_cmp_total name done after)
    ∙ put-missing byte_order nat_list_cmp_total name (d ∷ []) done after

-- one more on top of those that the name has
next_push : (done : Pairs) (name : List ℕ) (front : List Def) (d : Def) → IsPrefixed done name
    → with_push (done ++ (name, front) ∷ []) name d ≡ done ++ (name, front ++ d ∷ []) ∷ []
next_push done name front d after =
    let table : Pairs = done ++ (name, front) ∷ [] in
    ap (λ (found : Option (List Def)). put byte_order name (unwrap_or found [] ++ d ∷ []) table)
    (find-last byte_order nat_list_cmp_total name front done after)
    ∙ put-last byte_order nat_list_cmp_total name front (front ++ d ∷ []) done after

more_denoted : (t : State) (done : Pairs) (name : List ℕ) (front stack : List Def)
    → IsPrefixed done name → AllByRecursion IsDefinition stack
    → state_after (with_names t (done ++ (name, front) ∷ [])) (map (definition name) stack)
    ≡ with_names t (done ++ (name, front ++ stack) ∷ [])
more_denoted t done name front [] after valid =
    ap (λ (stack : List Def). with_names t (done ++ (name, stack) ∷ [])) (sym (append-nil front))
more_denoted t done name front (d ∷ stack) after valid =
    let old : State = with_names t (done ++ (name, front) ∷ []) in
    let new : State = with_names t (done ++ (name, front ++ d ∷ []) ∷ []) in
    let here : with_directive old (definition name d) ≡ new =
    definition_denoted old name d valid.0
    ∙ ap (with_names t) (next_push done name front d after) in
    ap (λ (u : State). state_after u (map (definition name) stack)) here
    ∙ more_denoted t done name (front ++ d ∷ []) stack after valid.1
    ∙ ap (λ (all : List Def). with_names t (done ++ (name, all) ∷ []))
    (append_assoc front (d ∷ []) stack)

stack_denoted : (t : State) (done : Pairs) (name : List ℕ) (stack : List Def)
    → stack ≢ [] → AllByRecursion IsDefinition stack → IsPrefixed done name
    → state_after (with_names t done) (map (definition name) stack)
    ≡ with_names t (done ++ (name, stack) ∷ [])
stack_denoted t done name [] some valid after = absurd (some refl)
stack_denoted t done name (d ∷ stack) some valid after =
    let old : State = with_names t done in
    let new : State = with_names t (done ++ (name, d ∷ []) ∷ []) in
    let here : with_directive old (definition name d) ≡ new =
    definition_denoted old name d valid.0
    ∙ ap (with_names t) (first_push done name d after) in
    ap (λ (u : State). state_after u (map (definition name) stack)) here
    ∙ more_denoted t done name (d ∷ []) stack after valid.1

abbrev directives_of_names : Pairs → List Directive
directives_of_names es = flat_map (λ e. map (definition e.0) e.1) es

names_denoted : (t : State) (done es : Pairs) → IsTrue (is_sorted byte_order es)
    → AllByRecursion IsStack es → AreBelowFirst byte_order nat_list_cmp_total done es
    → state_after (with_names t done) (directives_of_names es) ≡ with_names t (done ++ es)
names_denoted t done [] sorted stacks after = ap (with_names t) (sym (append-nil done))
names_denoted t done (e ∷ es) sorted stacks after =
    let rest : List Directive = directives_of_names es in
    fold-append with_directive (with_names t done) (map (definition e.0) e.1) rest
    ∙ ap (λ (u : State). state_after u rest)
    (stack_denoted t done e.0 e.1 stacks.0.some stacks.0.definitions after)
    ∙ names_denoted t (done ++ e ∷ []) es (both _ _ sorted).1 stacks.1
    (AreBelowFirst-next byte_order nat_list_cmp_total done e es sorted after)
    ∙ ap (with_names t) (append_assoc done (e ∷ []) es)

-- ---- the diversions

-- where the diversions are these, and this number is current
abbrev with_texts : State → ℤ → List NumberedText → State
with_texts t number diversions = record t { diversions = diversions; current = number }

-- the text of a number above all others is the last one
text_added : (done : List NumberedText) (d : NumberedText) → IsDiversion d
    → AreBelow int_cmp int_cmp_total done d.0 → with_text done d.0 d.1 ≡ done ++ d ∷ []
text_added done d valid after =
    with_text-some d.0 d.1 done valid.some
    ∙ ap (λ (found : Option (List ℕ)). put int_cmp d.0 (unwrap_or found [] ++ d.1) done)
    (find-missing int_cmp int_cmp_total d.0 done after)
    ∙ put-missing int_cmp int_cmp_total d.0 d.1 done after

diversion_denoted : (t : State) (number : ℤ) (done : List NumberedText) (d : NumberedText)
    → IsDiversion d → AreBelow int_cmp int_cmp_total done d.0
    → with_directive (with_texts t number done) (diversion d) ≡ with_texts t d.0 (done ++ d ∷ [])
diversion_denoted t number done d valid after =
    let text : List NumberedText = with_text done d.0 d.1 in
    ap (λ (holds : Bool). with_texts t d.0 (cond holds text done)) valid.positive
    ∙ ap (with_texts t d.0) (text_added done d valid after)

diversions_denoted : (t : State) (number : ℤ) (done ds : List NumberedText)
    → IsTrue (is_sorted int_cmp ds) → AllByRecursion IsDiversion ds
    → AreBelowFirst int_cmp int_cmp_total done ds
    → state_after (with_texts t number done) (map diversion ds)
    ≡ with_texts t (last_number number ds) (done ++ ds)
diversions_denoted t number done [] sorted valid after =
    ap (with_texts t number) (sym (append-nil done))
diversions_denoted t number done (d ∷ ds) sorted valid after =
    ap (λ (u : State). state_after u (map diversion ds))
    (diversion_denoted t number done d valid.0 after)
    ∙ diversions_denoted t d.0 (done ++ d ∷ []) ds (both _ _ sorted).1 valid.1
    (AreBelowFirst-next int_cmp int_cmp_total done d ds sorted after)
    ∙ ap (with_texts t (last_number d.0 ds)) (append_assoc done (d ∷ []) ds)

-- ---- the current number

abbrev current_at : State → ℤ → State
current_at s number = record s { current = number }

-- the number that the last diversion leaves
abbrev left_by_last : State → ℤ
left_by_last s = last_number (pos 0) s.diversions

-- an empty text changes nothing but the number
empty_text_denoted : (s t : State) → current_at t s.current ≡ s
    → with_directive t (Diversion s.current []) ≡ s
empty_text_denoted s t is =
    ap (λ (ds : List NumberedText). record t { diversions = ds; current = s.current })
    (by (holds_text s.current))
    ∙ is
  where
    by : (holds : Bool) → cond holds t.diversions t.diversions ≡ t.diversions
    by true = refl
    by false = refl

current_denoted : (s : State) → state_after (current_at s (left_by_last s)) (current_unless_last s) ≡ s
current_denoted s = by (int_eq s.current (left_by_last s)) refl
  where
    by : (b : Bool) → int_eq s.current (left_by_last s) ≡ b
        → state_after (current_at s (left_by_last s)) (cond b [] (Diversion s.current [] ∷ [])) ≡ s
    by true is = ap (current_at s) (sym ((Decides-int_eq s.current (left_by_last s)).0 is))
    by false is = empty_text_denoted s (current_at s (left_by_last s)) refl

-- ---- the state

-- nothing is done before the first
no_name_done : (es : Pairs) → AreBelowFirst byte_order nat_list_cmp_total [] es
no_name_done [] = tt
no_name_done (e ∷ es) = tt

no_text_done : (ds : List NumberedText) → AreBelowFirst int_cmp int_cmp_total [] ds
no_text_done [] = tt
no_text_done (d ∷ ds) = tt

-- directives after others
then_after : (t u v : State) (ds es : List Directive) → state_after t ds ≡ u → state_after u es ≡ v
    → state_after t (ds ++ es) ≡ v
then_after t u v ds es first second =
    fold-append with_directive t ds es ∙ ap (λ (w : State). state_after w es) first ∙ second

canonical_state : (s : State) → IsState s → state_after empty (canonical s) ≡ s
canonical_state s valid =
    let quotes : List Directive = unless_default Quotes default_quotes s.quotes in
    let comments : List Directive = unless_default Comments default_comments s.comments in
    let names : List Directive = definitions s in
    let texts : List Directive = map diversion s.diversions in
    let q : State = quoted empty s.quotes in
    let c : State = commented q s.comments in
    let n : State = with_names c s.table in
    let d : State = with_texts n (left_by_last s) s.diversions in
    then_after empty d s (quotes ++ comments ++ names ++ texts) (current_unless_last s)
    (then_after empty n d (quotes ++ comments ++ names) texts
    (then_after empty c n (quotes ++ comments) names
    (then_after empty q c quotes comments
    (quotes_denoted empty s.quotes refl valid.quotes)
    (comments_denoted q s.comments refl valid.comments))
    (names_denoted c [] s.table valid.table.sorted valid.table.stacks (no_name_done s.table)))
    (diversions_denoted n (pos 0) [] s.diversions
    valid.diversions.sorted valid.diversions.each (no_text_done s.diversions)))
    (current_denoted s)

-- ---- the issued text

delimiters_issue : (make : List ℕ → List ℕ → Directive) (default d : Delimiters)
    → issued_by (make d.begin d.end) ≡ [] → flat_map issued_by (unless_default make default d) ≡ []
delimiters_issue make default d none = by (same_delimiters d default)
  where
    by : (b : Bool) → flat_map issued_by (cond b [] (make d.begin d.end ∷ [])) ≡ []
    by true = refl
    by false = ap (λ (text : List ℕ). text ++ []) none

definition_issues : (name : List ℕ) (d : Def) → issued_by (definition name d) ≡ []
definition_issues name (defs.Text text) = refl
definition_issues name (defs.Builtin builtin) = refl
definition_issues name (defs.Placeholder builtin) = refl

stack_issues : (name : List ℕ) (stack : List Def)
    → flat_map issued_by (map (definition name) stack) ≡ []
stack_issues name [] = refl
stack_issues name (d ∷ stack) = rw (definition_issues name d) (stack_issues name stack)

names_issue : (es : Pairs) → flat_map issued_by (directives_of_names es) ≡ []
names_issue [] = refl
names_issue (e ∷ es) =
    let rest : List Directive = directives_of_names es in
    flat_map-append issued_by (map (definition e.0) e.1) rest
    ∙ ap (λ (text : List ℕ). text ++ flat_map issued_by rest) (stack_issues e.0 e.1)
    ∙ names_issue es

-- a diversion has a positive number, so its text isn't issued
diversion_issues : (number : ℤ) (text : List ℕ) → IsTrue (holds_text number)
    → issued_by (Diversion number text) ≡ []
diversion_issues (pos zero) text positive = absurd cc
diversion_issues (pos (suc n)) text positive = refl
diversion_issues (negsuc n) text positive = refl

diversions_issue : (ds : List NumberedText) → AllByRecursion IsDiversion ds
    → flat_map issued_by (map diversion ds) ≡ []
diversions_issue [] valid = refl
diversions_issue (d ∷ ds) valid =
    rw (diversion_issues d.0 d.1 valid.0.positive) (diversions_issue ds valid.1)

empty_text_issues : (number : ℤ) → issued_by (Diversion number []) ≡ []
empty_text_issues (pos zero) = refl
empty_text_issues (pos (suc n)) = refl
empty_text_issues (negsuc n) = refl

current_issues : (s : State) → flat_map issued_by (current_unless_last s) ≡ []
current_issues s = by (int_eq s.current (left_by_last s))
  where
    by : (b : Bool) → flat_map issued_by (cond b [] (Diversion s.current [] ∷ [])) ≡ []
    by true = refl
    by false = ap (λ (text : List ℕ). text ++ []) (empty_text_issues s.current)

canonical_issued : (s : State) → IsState s → flat_map issued_by (canonical s) ≡ []
canonical_issued s valid =
    let parts = flat_map-append {X = Directive} {A = ℕ} issued_by in
    let quotes = delimiters_issue Quotes default_quotes s.quotes refl in
    let comments = delimiters_issue Comments default_comments s.comments refl in
    let names = names_issue s.table in
    let diversions = diversions_issue s.diversions valid.diversions.each in
    let current = current_issues s in
    simp (parts, quotes, comments, names, diversions, current)

-- ---- both

-- the canonical directives denote the state
pub canonical_denoted : (s : State) → IsState s
    → denote (canonical s) ≡ record { state = s; issued = [] }
canonical_denoted s valid =
    let state : fold with_directive empty (canonical s) ≡ s = canonical_state s valid in
    let issued : flat_map issued_by (canonical s) ≡ [] = canonical_issued s valid in
    λ i. record { state = state i; issued = issued i }
