-- Files: bytes of which the first were pushed, when some are consumed, put before them or come after them.
use Rattle.std.proofs.Common.{◌≡◌, ℕ, zero, suc, ◌+◌, ◌-◌, ◌≤◌, List, [], ◌∷◌, ◌++◌, length, take, drop, sym, ap, ◌∙◌, arith}
use Rattle.std.proofs.lemmas.List.{drop-drop, take-take, take-append-drop, length-take-le, take-append-le, drop-append-le}
use Rattle.std.proofs.Math.Seq.{take-append-add, drop-append-add, take-nil}
use Rattle.m4_input.specs.Pending.{counted, newlines_in}
use Rattle.m4_input.specs.Text.{HeldText, text_after, with_text}
use Rattle.m4_input.specs.FileView.{split_at}
use Rattle.m4_input.proofs.Parts.{drop_parts, newlines_append}
use Rattle.m4_input.proofs.Names.{part_has_none}

-- the bytes between two places, counted from either one
pub between : (n k : ℕ) (w : List ℕ) → drop n (take k w) ≡ take (k - n) (drop n w)
between zero k w = let e : k ≡ k - 0 = omega arith in ap (λ i. take i w) e
between (suc n) zero w = let e : 0 ≡ 0 - suc n = omega arith in ap (λ i. take i (drop (suc n) w)) e
between (suc n) (suc k) [] = sym (take-nil (suc k - suc n))
between (suc n) (suc k) (b ∷ w) = let e : k - n ≡ suc k - suc n = omega arith in between n k w ∙ ap (λ i. take i (drop n w)) e

-- the bytes after the later of two places
after_both : (n k : ℕ) (w : List ℕ) → drop (k - n) (drop n w) ≡ drop (n - k) (drop k w)
after_both n k w =
    let e : n + (k - n) ≡ k + (n - k) = omega arith in
    drop-drop (k - n) n w ∙ ap (λ i. drop i w) e ∙ sym (drop-drop (n - k) k w)

-- the last bytes before a place have no newlines: they count for nothing
pub no_newlines_after : (i n k : ℕ) (w : List ℕ) → i ≤ n → newlines_in (take i (drop (n - i) w)) ≡ 0
    → newlines_in (take (n - k) (drop k w)) ≡ newlines_in (take ((n - i) - k) (drop k w))
no_newlines_after i n k w h none =
    let a : ℕ = n - i in
    let y : List ℕ = take n w in
    let last : n - a ≡ i = omega arith in
    let rest : newlines_in (drop a y) ≡ 0 = ap newlines_in (between a n w) ∙ ap (λ j. newlines_in (take j (drop a w))) last ∙ none in
    let first : take a y ≡ take a w = take-take a n w (omega arith) in
    ap newlines_in (sym (between k n w)) ∙ ap (λ (x : List ℕ). newlines_in (drop k x)) (sym (take-append-drop a y))
    ∙ ap newlines_in (drop_parts k (take a y) (drop a y))
    ∙ newlines_append (drop k (take a y)) (drop (k - length (take a y)) (drop a y))
    ∙ ap (λ m. newlines_in (drop k (take a y)) + m) (part_has_none (k - length (take a y)) (drop a y) rest)
    ∙ omega arith ∙ ap (λ (x : List ℕ). newlines_in (drop k x)) first ∙ ap newlines_in (between k a w)

-- the first n bytes are consumed, of which those after the first k are the file's
pub taken : (k n m c : ℕ) (w : List ℕ) → k ≤ length w → c ≡ counted m (newlines_in (take (n - k) (drop k w)))
    → split_at (k - n) (drop n w) c ≡ text_after n (split_at k w m)
taken k n m c w fits count =
    let i : n - k ≡ n - length (take k w) = ap (λ j. n - j) (sym (length-take-le k w fits)) in
    ap (λ (x : List ℕ). let s : HeldText = record { pushed = x; unread = drop (k - n) (drop n w); newlines = c } in s) (sym (between n k w))
    ∙ ap (λ (x : List ℕ). let s : HeldText = record { pushed = drop n (take k w); unread = x; newlines = c } in s) (after_both n k w)
    ∙ ap (λ j. let s : HeldText = record { pushed = drop n (take k w); unread = drop (n - k) (drop k w); newlines = j } in s) count
    ∙ ap (λ j. let s : HeldText = record {
      pushed = drop n (take k w);
      unread = drop j (drop k w);
      newlines = counted m (newlines_in (take j (drop k w)));
    } in s) i

pub put_first : (k m : ℕ) (x w z : List ℕ) → z ≡ x ++ w → split_at (k + length x) z m ≡ with_text x (split_at k w m)
put_first k m x w z e =
    let l : k + length x ≡ length x + k = omega arith in
    ap (λ (y : List ℕ). split_at (k + length x) y m) e ∙ ap (λ i. split_at i (x ++ w) m) l
    ∙ ap (λ (y : List ℕ). let s : HeldText = record { pushed = y; unread = drop (length x + k) (x ++ w); newlines = m } in s) (take-append-add x w k)
    ∙ ap (λ (y : List ℕ). let s : HeldText = record { pushed = x ++ take k w; unread = y; newlines = m } in s) (drop-append-add x w k)

pub block_added : (k m : ℕ) (w x : List ℕ) → k ≤ length w → split_at k (w ++ x) m ≡ record (split_at k w m) { unread = drop k w ++ x }
block_added k m w x fits =
    ap (λ (y : List ℕ). let s : HeldText = record { pushed = y; unread = drop k (w ++ x); newlines = m } in s) (take-append-le k w x fits)
    ∙ ap (λ (y : List ℕ). let s : HeldText = record { pushed = take k w; unread = y; newlines = m } in s) (drop-append-le k w x fits)
