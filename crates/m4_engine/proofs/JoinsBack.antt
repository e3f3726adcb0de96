-- JoinsBack: texts taken from the end, one after the other, are joined the last first.
use Rattle.std.proofs.Common.{◌≡◌, ℕ, List, [], ◌∷◌, ◌++◌, sym, ap, ◌∙◌, append-nil, append_assoc}
use Rattle.m4_engine.specs.Wraps.{joined_back}

-- the last text comes first
pub joined_back-last : (xs : List (List ℕ)) (x : List ℕ) → joined_back (xs ++ x ∷ []) ≡ x ++ joined_back xs
joined_back-last [] x = sym (append-nil x)
joined_back-last (y ∷ ys) x = ap (λ z. z ++ y) (joined_back-last ys x) ∙ append_assoc x (joined_back ys) y

-- a text more is joined
pub joined_on : (joined joined' text whole : List ℕ) (left left' : List (List ℕ)) → joined ++ joined_back left ≡ whole
    → left ≡ left' ++ text ∷ [] → joined' ≡ joined ++ text → joined' ++ joined_back left' ≡ whole
joined_on joined joined' text whole left left' e f g =
    ap (λ z. z ++ joined_back left') g ∙ append_assoc joined text (joined_back left')
    ∙ ap (λ z. joined ++ z) (sym (joined_back-last left' text)) ∙ ap (λ (z : List (List ℕ)). joined ++ joined_back z) (sym f) ∙ e
