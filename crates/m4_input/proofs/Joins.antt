-- Joins: the rests of segments, joined.
use Rattle.std.proofs.Common.{◌≡◌, ℕ, zero, suc, ◌+◌, ◌-◌, ◌<◌, ◌≤◌, List, [], ◌∷◌, ◌++◌, length, refl, sym, ap, ◌∙◌}
use Rattle.std.proofs.Common.{arith, append_assoc, append-nil, length-append, length-drop, take, drop}
use Rattle.m4_input.specs.Text.{HeldText, joined, with_text, text_in, text_after}
use Rattle.std.proofs.Math.ListN.{get_or, set}
use Rattle.std.proofs.lemmas.List.{set_split, take-set-le, set-get_or}
use Rattle.m4_input.proofs.Parts.{apart_taken, drop_parts}
use Rattle.std.proofs.Math.ListN.{drop_of_length-le}

-- the one that was put above the others is read first
pub joined_push : (below : List (List ℕ)) (s : List ℕ) → joined (below ++ s ∷ []) ≡ s ++ joined below
joined_push [] s = sym (append-nil s)
joined_push (b ∷ below) s = ap (λ (x : List ℕ). x ++ b) (joined_push below s) ∙ append_assoc s (joined below) b

pub joined_length : (below : List (List ℕ)) (s : List ℕ) → length (joined (below ++ s ∷ [])) ≡ length s + length (joined below)
joined_length below s = ap length (joined_push below s) ∙ length-append s (joined below)

-- some bytes are left
pub some_left : (n : ℕ) (x : List ℕ) → n < length x → drop n x ≡ [] → ⊥
some_left n x h e =
    let none : length (drop n x) ≡ 0 = ap length e in
    let left : length (drop n x) ≡ length x - n = length-drop n x in
    omega (arith, none, left)

pub some_bytes : (x : List ℕ) → 0 < length x → x ≡ [] → ⊥
some_bytes x h e =
    let none : length x ≡ 0 = ap length e in
    omega (arith, none)

-- the first bytes of bytes to which others are added
pub take_more : (n : ℕ) (x y : List ℕ) → take n (take n x ++ y) ≡ take n (x ++ y)
take_more zero x y = refl
take_more (suc n) [] y = refl
take_more (suc n) (b ∷ x) y = ap (λ (z : List ℕ). b ∷ z) (take_more n x y)

-- a text that comes first, and the bytes after it
pub text_first : (x : List ℕ) (t : HeldText) → text_in (with_text x t) ≡ x ++ text_in t
text_first x t = append_assoc x t.pushed t.unread

pub texts_first : (x y : List ℕ) (t : HeldText) → with_text (x ++ y) t ≡ with_text x (with_text y t)
texts_first x y t = ap (λ (z : List ℕ). let u : HeldText = record t { pushed = z } in u) (append_assoc x y t.pushed)

-- the first text is consumed, and then some of the rest
pub first_taken : (x y : List ℕ) (t : HeldText) (n : ℕ) → length x ≤ n → text_after (n - length x) (with_text y t) ≡ text_after n (with_text (x ++ y) t)
first_taken x y t n h = apart_taken x (with_text y t) n h ∙ ap (text_after n) (sym (texts_first x y t))

-- the bytes after all of a text, and some more
pub late_bytes : (x y : List ℕ) (n : ℕ) → length x ≤ n → drop n (x ++ y) ≡ drop (n - length x) y
late_bytes x y n h = drop_parts n x y ∙ ap (λ (z : List ℕ). z ++ drop (n - length x) y) (drop_of_length-le x h)

-- the last segment below, when a text was put before it and it was removed
last_is : (below front : List (List ℕ)) (i : ℕ) (s : List ℕ) → suc i ≡ length below → front ≡ take i (set below i s) → set below i s ≡ front ++ s ∷ []
last_is below front i s l e =
    let inside : i < length below = omega (arith, l) in
    let all : length below ≤ suc i = omega (arith, l) in
    set_split below i s inside ∙ ap (λ (x : List (List ℕ)). take i below ++ s ∷ x) (drop_of_length-le below all)
    ∙ ap (λ (x : List (List ℕ)). x ++ s ∷ []) (sym (e ∙ take-set-le i below i s (omega arith)))

pub last_below : (below front : List (List ℕ)) (i : ℕ) (s put d : List ℕ) → suc i ≡ length below → s ≡ get_or below i d
    → front ≡ take i (set below i put) → joined below ≡ s ++ joined front
last_below below front i s put d l e f =
    let same : front ≡ take i (set below i s) = f ∙ take-set-le i below i put (omega arith) ∙ sym (take-set-le i below i s (omega arith)) in
    ap joined (sym (set-get_or below i d) ∙ ap (λ (x : List ℕ). set below i x) (sym e) ∙ last_is below front i s l same) ∙ joined_push front s

pub last_put : (below front : List (List ℕ)) (i : ℕ) (put next : List ℕ) → suc i ≡ length below
    → set below i put ≡ front ++ next ∷ [] → front ≡ take i (set below i put) → next ++ joined front ≡ put ++ joined front
last_put below front i put next l e f = sym (joined_push front next) ∙ ap joined (sym e ∙ last_is below front i put l f) ∙ joined_push front put
