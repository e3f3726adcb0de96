-- Joins: a list that is joined, and a text whose arguments are put in, from the front.
use Rattle.std.proofs.Common.{◌≡◌, ℕ, zero, suc, ◌+◌, ◌-◌, ◌*◌, ◌^◌, ◌<◌, ◌≤◌, Bool, true, false, not, List, [], ◌∷◌}
use Rattle.std.proofs.Common.{◌++◌, length, take, drop, map, refl, sym, ap, ◌∙◌, arith, append_assoc, append-nil}
use Rattle.std.proofs.Common.{get_or, drop-cons, add-one, Some, None, Option}
use Rattle.std.proofs.Math.ListN.{drop_of_length-le}
use Rattle.std.specs.Prelude.{slice_get, fold, ◌==◌}
use Rattle.m4_input.proofs.Parts.{take_long}
use Rattle.m4_state.specs.declared.delimiters.Delimiters.{Delimiters}
use Rattle.m4_input.specs.Ascii.{dollar, digit_zero}
use Rattle.m4_input.specs.Token.{run_length}
use Rattle.m4_builtins.specs.declared.args.Arg.{Arg}
use Rattle.m4_builtins.specs.Args.{joined_by, quoted, text_of_arg}
use Rattle.m4_builtins.specs.EffectView.{text_of_any}
use Rattle.m4_builtins.proofs.Cases.{or_empty}
use Rattle.m4_builtins.specs.Subst.{subst_from, after_dollar, nth_text}
use Rattle.m4_builtins.specs.Numbers.{IsNumber}

-- what is still to be written of a joined list
abbrev pub joined_rest : Bool → List ℕ → List (List ℕ) → List ℕ
joined_rest true separator xs = joined_by separator xs
joined_rest false separator [] = []
joined_rest false separator (x ∷ xs) = separator ++ joined_by separator (x ∷ xs)

pub joined_step : (separator x : List ℕ) (xs : List (List ℕ)) → joined_by separator (x ∷ xs) ≡ x ++ joined_rest false separator xs
joined_step separator x [] = sym (append-nil x)
joined_step separator x (y ∷ ys) = append_assoc x separator (joined_by separator (y ∷ ys))

-- a text is written between quotes, after a separator if it is not the first
module _ (q : Delimiters) (separator out mid new text all : List ℕ) (rest : List (List ℕ)) (first : Bool) where
  abbrev this : List ℕ
  this = quoted q text

  abbrev left : List ℕ
  left = joined_rest false separator (map (quoted q) rest)

  rejoined : (b : Bool) → first ≡ b → out ++ joined_rest first separator (this ∷ map (quoted q) rest) ≡ all
      → out ++ joined_rest b separator (this ∷ map (quoted q) rest) ≡ all
  rejoined b is before = ap (λ (v : Bool). out ++ joined_rest v separator (this ∷ map (quoted q) rest)) (sym is) ∙ before

  pub quoted_first : first ≡ true → mid ≡ out → new ≡ mid ++ this → out ++ joined_rest first separator (this ∷ map (quoted q) rest) ≡ all → new ++ left ≡ all
  quoted_first is m n before =
      ap (λ (y : List ℕ). y ++ left) (n ∙ ap (λ (y : List ℕ). y ++ this) m)
      ∙ append_assoc out this left
      ∙ ap (λ (y : List ℕ). out ++ y) (sym (joined_step separator this (map (quoted q) rest)))
      ∙ rejoined true is before

  pub quoted_later : first ≡ false → mid ≡ out ++ separator → new ≡ mid ++ this
      → out ++ joined_rest first separator (this ∷ map (quoted q) rest) ≡ all → new ++ left ≡ all
  quoted_later is m n before =
      ap (λ (y : List ℕ). y ++ left) (n ∙ ap (λ (y : List ℕ). y ++ this) m)
      ∙ append_assoc (out ++ separator) this left
      ∙ append_assoc out separator (this ++ left)
      ∙ ap (λ (y : List ℕ). out ++ (separator ++ y)) (sym (joined_step separator this (map (quoted q) rest)))
      ∙ rejoined false is before

-- texts between quotes that are empty
pub between_none : (texts : List (List ℕ)) → map (quoted (record { begin = []; end = [] })) texts ≡ texts
between_none [] = refl
between_none (x ∷ texts) =
    ap (λ (y : List ℕ). y ∷ map (quoted (record { begin = []; end = [] })) texts) (append-nil x)
    ∙ ap (λ (ys : List (List ℕ)). x ∷ ys) (between_none texts)

-- the number of digits after those whose number is n
abbrev pub number_from : ℕ → List ℕ → ℕ
number_from n digits = fold (λ m d. m * 10 + (d - digit_zero)) n digits

-- it is no less
pub number_grows : (n : ℕ) (digits : List ℕ) → n ≤ number_from n digits
number_grows n [] = omega arith
number_grows n (d ∷ digits) = let more : n * 10 + (d - digit_zero) ≤ number_from (n * 10 + (d - digit_zero)) digits =
    number_grows (n * 10 + (d - digit_zero)) digits in omega arith

-- the next digit
pub number_next : (n i : ℕ) (digits : List ℕ) → i < length digits
    → number_from n (drop i digits) ≡ number_from (n * 10 + (get_or digits i 0 - digit_zero)) (drop (i + 1) digits)
number_next n i digits h = ap (number_from n) (drop-cons digits i 0 h)
    ∙ ap (λ (j : ℕ). number_from (n * 10 + (get_or digits i 0 - digit_zero)) (drop j digits)) (sym (add-one i))

-- the text of an argument that is there
pub get_map : (xs : List Arg) (k : ℕ) (d : Arg) → k < length xs → slice_get (map text_of_arg xs) k ≡ Some (text_of_arg (get_or xs k d))
get_map [] k d h = absurd (omega arith)
get_map (x ∷ xs) zero d h = refl
get_map (x ∷ xs) (suc k) d h = get_map xs k d (omega arith)

-- there is none past the last
pub get_past : (xs : List Arg) (k : ℕ) → length xs ≤ k → slice_get (map text_of_arg xs) k ≡ None
get_past [] zero h = refl
get_past [] (suc k) h = refl
get_past (x ∷ xs) zero h = absurd (omega arith)
get_past (x ∷ xs) (suc k) h = get_past xs k (omega arith)

-- the argument of a number that is no more than their count
pub nth_within : (name : List ℕ) (xs : List Arg) (n : ℕ) (a : Arg) → (n ≡ 0 → ⊥) → n ≤ length xs
    → a ≡ get_or xs (n - 1) a → nth_text name (map text_of_arg xs) n ≡ text_of_arg a
nth_within name xs zero a ne le is = absurd (ne refl)
nth_within name xs (suc n) a ne le is =
    let f : suc n - 1 ≡ n = omega arith in
    ap or_empty (get_map xs n a (omega arith)) ∙ ap (λ i. text_of_arg (get_or xs i a)) (sym f) ∙ ap text_of_arg (sym is)

-- there is none of a greater number
pub nth_beyond : (name : List ℕ) (xs : List Arg) (n : ℕ) → length xs < n → nth_text name (map text_of_arg xs) n ≡ []
nth_beyond name xs zero lt = absurd (omega arith)
nth_beyond name xs (suc n) lt = ap or_empty (get_past xs n (omega arith))

-- bytes that are skipped
pub subst_skip : (name : List ℕ) (xs : List (List ℕ)) (q : Delimiters) (n : ℕ) (y : List ℕ) → subst_from name xs q n y ≡ subst_from name xs q 0 (drop n y)
subst_skip name xs q zero y = refl
subst_skip name xs q (suc n) [] = refl
subst_skip name xs q (suc n) (b ∷ y) = subst_skip name xs q n y

-- after a run comes a byte that ends it
pub run_stops : (f : ℕ → Bool) (x : List ℕ) (b : ℕ) (y : List ℕ) → drop (run_length f x) x ≡ b ∷ y → f b ≡ false
run_stops f [] b y e = absurd cc
run_stops f (c ∷ x) b y e = by (f c) refl e (run_stops f x b y)
  where
    by : (t : Bool) → f c ≡ t → drop (elim t [ true ↦ suc (run_length f x) | false ↦ 0 ]) (c ∷ x) ≡ b ∷ y
        → (drop (run_length f x) x ≡ b ∷ y → f b ≡ false) → f b ≡ false
    by true is e later = later e
    by false is e later = let same : c ≡ b = cc in ap f (sym same) ∙ is

-- bytes before the first dollar are copied
pub subst_plain : (name : List ℕ) (xs : List (List ℕ)) (q : Delimiters) (x : List ℕ)
    → let n = run_length (λ b. not (b == dollar)) x in subst_from name xs q 0 x ≡ take n x ++ subst_from name xs q 0 (drop n x)
subst_plain name xs q [] = refl
subst_plain name xs q (b ∷ x) = by (b == dollar) refl (subst_plain name xs q x)
  where
    by : (t : Bool) → (b == dollar) ≡ t
        → (let n = run_length (λ b. not (b == dollar)) x in subst_from name xs q 0 x ≡ take n x ++ subst_from name xs q 0 (drop n x))
        → let n : ℕ = elim (not t) [ true ↦ suc (run_length (λ b. not (b == dollar)) x) | false ↦ 0 ] in subst_from name
        xs q 0 (b ∷ x) ≡ take n (b ∷ x) ++ subst_from name xs q 0 (drop n (b ∷ x))
    by true is later = refl
    by false is later = rw is (ap (λ (y : List ℕ). b ∷ y) later)

is_dollar : (b : ℕ) → not (b == dollar) ≡ false → (b == dollar) ≡ true
is_dollar b h = by (b == dollar) h
  where
    by : (t : Bool) → not t ≡ false → t ≡ true
    by true h = refl
    by false h = absurd cc

-- a dollar is replaced as the bytes after it say
pub subst_dollar : (name : List ℕ) (xs : List (List ℕ)) (q : Delimiters) (b : ℕ) (y : List ℕ) → not (b == dollar) ≡ false
    → let p = after_dollar name xs q y in subst_from name xs q 0 (b ∷ y) ≡ p.0 ++ subst_from name xs q 0 (drop p.1 y)
subst_dollar name xs q b y h =
    let here : (b == dollar) ≡ true = is_dollar b h in
    let p = after_dollar name xs q y in
    rw here (ap (λ (z : List ℕ). p.0 ++ z) (subst_skip name xs q p.1 y))

-- a text's front is written: all of the text is plain
pub front_plain : (name : List ℕ) (xs : List (List ℕ)) (q : Delimiters) (out out' x y : List ℕ) (n : ℕ)
    → n ≡ run_length (λ b. not (b == dollar)) x → y ≡ drop n x → out' ≡ out ++ take n x
    → out' ++ subst_from name xs q 0 y ≡ out ++ subst_from name xs q 0 x
front_plain name xs q out out' x y n e f g =
    ap (λ (z : List ℕ). z ++ subst_from name xs q 0 y) g ∙ append_assoc out (take n x) (subst_from name xs q 0 y)
    ∙ ap (λ (z : List ℕ). out ++ (take n x ++ subst_from name xs q 0 z)) f
    ∙ ap (λ (m : ℕ). out ++ (take m x ++ subst_from name xs q 0 (drop m x))) e
    ∙ ap (λ (z : List ℕ). out ++ z) (sym (subst_plain name xs q x))

-- the start of a text is written, and the replacement of the dollar after it
pub front_dollar : (name : List ℕ) (xs : List (List ℕ)) (q : Delimiters) (out mid out' x y z rest : List ℕ)
    (n b used : ℕ) → n ≡ run_length (λ b. not (b == dollar)) x → y ≡ drop n x → mid ≡ out ++ take n x
    → y ≡ b ∷ z → used ≡ (after_dollar name xs q z).1 → out' ≡ mid ++ (after_dollar name xs q z).0 → rest ≡ drop used z
    → out' ++ subst_from name xs q 0 rest ≡ out ++ subst_from name xs q 0 x
front_dollar name xs q out mid out' x y z rest n b used e f g here h i j =
    let p = after_dollar name xs q z in
    let stop : not (b == dollar) ≡ false = run_stops (λ b. not (b == dollar)) x b z (ap (λ (m : ℕ). drop m x) (sym e) ∙ sym f ∙ here) in
    ap (λ (w : List ℕ). w ++ subst_from name xs q 0 rest) i ∙ append_assoc mid p.0 (subst_from name xs q 0 rest)
    ∙ ap (λ (w : List ℕ). mid ++ (p.0 ++ subst_from name xs q 0 w)) (j ∙ ap (λ (m : ℕ). drop m z) h)
    ∙ ap (λ (w : List ℕ). mid ++ w) (sym (subst_dollar name xs q b z stop))
    ∙ ap (λ (w : List ℕ). mid ++ subst_from name xs q 0 w) (sym here)
    ∙ front_plain name xs q out mid x y n e f g

-- digits whose number grew too great
pub too_great : (r : Option ℕ) (n : ℕ) (digits : List ℕ) (m : ℕ) → r ≡ None → number_from n digits ≡ m → 2 ^ 64 ≤ n → IsNumber r m
too_great (Some k) n digits m is e h = absurd cc
too_great None n digits m is e h = let more : n ≤ number_from n digits = number_grows n digits in omega arith

-- a text without a dollar is its own expansion
pub all_plain : (name : List ℕ) (texts : List (List ℕ)) (q : Delimiters) (x : List ℕ)
    → run_length (λ b. not (b == dollar)) x ≡ length x → subst_from name texts q 0 x ≡ x
all_plain name texts q x h =
    subst_plain name texts q x
    ∙ ap (λ m. take m x ++ subst_from name texts q 0 (drop m x)) h
    ∙ ap (λ (y : List ℕ). take (length x) x ++ subst_from name texts q 0 y) (drop_of_length-le x (omega arith))
    ∙ append-nil (take (length x) x)
    ∙ take_long (length x) x (omega arith)

-- an argument that may be missing
pub any_at : (list : List Arg) (n : ℕ) → text_of_any (slice_get list n) ≡ or_empty (slice_get (map text_of_arg list) n)
any_at [] n = refl
any_at (a ∷ list) zero = refl
any_at (a ∷ list) (suc n) = any_at list n
