-- Appends: what a piece of a fixed length appends, once what comes after the bytes wanted is cut off.
use Rattle.std.proofs.Common.{◌≡◌, ◌≤◌, ◌++◌, ◌+◌, ◌-◌, ◌∙◌, List, ℕ, ap, sym, arith}
use Rattle.std.specs.Prelude.{take, drop, length}
use Rattle.std.proofs.lemmas.List.{length-append, length-drop, length-take-le, take-append-drop, take-append-le, take-take}
use Rattle.std.proofs.Math.Seq.{take-append-add, take-append_seam}

-- the first bytes of a piece that was appended
pub piece_cut : (before piece all cut : List ℕ) (old len : ℕ) → old ≡ length before → all ≡ before ++ piece
    → cut ≡ take (old + len) all → cut ≡ before ++ take len piece
piece_cut before piece all cut old len o a c =
    c
    ∙ ap (λ (n : ℕ). take (n + len) all) o
    ∙ ap (λ (x : List ℕ). take (length before + len) x) a
    ∙ take-append-add before piece len

-- a piece that was written after some bytes
pub piece_written : (before piece after : List ℕ) (at len : ℕ) → at ≡ length before → len ≡ length piece
    → take (at + len) (before ++ (piece ++ after)) ≡ before ++ piece
piece_written before piece after at len a l =
    ap (λ (n : ℕ). take (n + len) (before ++ (piece ++ after))) a
    ∙ take-append-add before (piece ++ after) len
    ∙ ap (λ (n : ℕ). before ++ take n (piece ++ after)) l
    ∙ ap (λ (x : List ℕ). before ++ x) (take-append_seam piece after)

-- the first bytes of a piece of a text that was written
pub front_written : (old new text : List ℕ) (at len : ℕ) → at ≤ length old → len ≤ 16
    → take (at + 16) new ≡ take at old ++ take 16 text → take (at + len) new ≡ take at old ++ take len text
front_written old new text at len h l w =
    sym (take-take (at + len) (at + 16) new (omega arith))
    ∙ ap (λ (x : List ℕ). take (at + len) x) w
    ∙ ap (λ (n : ℕ). take (n + len) (take at old ++ take 16 text)) (sym (length-take-le at old h))
    ∙ take-append-add (take at old) (take 16 text) len
    ∙ ap (λ (x : List ℕ). take at old ++ x) (take-take len 16 text l)

-- a short text is the front of the piece in which it is
pub front_of_piece : (text room piece : List ℕ) (len : ℕ) → text ≡ take len room → len ≤ length room → len ≤ 30
    → piece ≡ take 30 room → text ≡ take (length text) piece
front_of_piece text room piece len v h l p =
    v
    ∙ sym (take-take len 30 room l)
    ∙ ap (λ (x : List ℕ). take len x) (sym p)
    ∙ ap (λ (n : ℕ). take n piece) (sym (ap length v ∙ length-take-le len room h))

-- two halves of a piece that overlap, written one after the other
pub halves_written : (piece old front back : List ℕ) → length piece ≡ 30 → length old ≡ 30 → front ≡ take 16 piece
    → back ≡ drop (length piece - 16) piece
    → take (length (front ++ drop 16 old) - 16) (front ++ drop 16 old) ++ back ≡ piece
halves_written piece old front back l o f b =
    let of_front : length front ≡ 16 = ap length f ∙ length-take-le 16 piece (omega arith) in
    let of_rest : length (drop 16 old) ≡ 14 = length-drop 16 old ∙ ap (λ (n : ℕ). n - 16) o in
    let of_both : length (front ++ drop 16 old) ≡ 30 =
    length-append front (drop 16 old) ∙ ap (λ (n : ℕ). n + length (drop 16 old)) of_front
    ∙ ap (λ (n : ℕ). 16 + n) of_rest in
    ap (λ (n : ℕ). take (n - 16) (front ++ drop 16 old) ++ back) of_both
    ∙ ap (λ (x : List ℕ). x ++ back) (take-append-le 14 front (drop 16 old) (omega arith))
    ∙ ap (λ (x : List ℕ). take 14 x ++ back) f
    ∙ ap (λ (x : List ℕ). x ++ back) (take-take 14 16 piece (omega arith))
    ∙ ap (λ (x : List ℕ). take 14 piece ++ x) (b ∙ ap (λ (n : ℕ). drop (n - 16) piece) l)
    ∙ take-append-drop 14 piece
