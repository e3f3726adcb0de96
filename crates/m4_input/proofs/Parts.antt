-- Parts: a text of two parts, of which the first is kept with its last byte first.
use Rattle.std.proofs.Common.{◌≡◌, ℕ, zero, suc, ◌+◌, ◌-◌, ◌<◌, ◌≤◌, List, [], ◌∷◌, ◌++◌, length, take, drop, refl}
use Rattle.std.proofs.Common.{sym, ap, ◌∙◌, arith, length-append, min}
use Rattle.std.proofs.Math.ListN.{drop_of_length-le}
use Rattle.std.proofs.Math.Seq.{take-add}
use Rattle.m4_input.specs.Pending.{counted, newlines_in}
use Rattle.std.proofs.lemmas.List.Sums.{sum_by-append}
use Rattle.std.specs.Prelude.{cond, ◌==◌, ◌^◌}
use Rattle.m4_input.specs.Ascii.{newline}
use Rattle.m4_input.specs.Text.{HeldText, text_after}

pub drop_parts : (n : ℕ) (x y : List ℕ) → drop n (x ++ y) ≡ drop n x ++ drop (n - length x) y
drop_parts zero x y = let e : 0 ≡ 0 - length x = omega arith in ap (λ m. x ++ drop m y) e
drop_parts (suc n) [] y = let e : suc n ≡ suc n - 0 = omega arith in ap (λ m. drop m y) e
drop_parts (suc n) (b ∷ x) y = let e : n - length x ≡ suc n - suc (length x) = omega arith in drop_parts n x y ∙ ap (λ m. drop n x ++ drop m y) e

pub take_parts : (n : ℕ) (x y : List ℕ) → take n (x ++ y) ≡ take n x ++ take (n - length x) y
take_parts zero x y = let e : 0 ≡ 0 - length x = omega arith in ap (λ m. take m y) e
take_parts (suc n) [] y = let e : suc n ≡ suc n - 0 = omega arith in ap (λ m. take m y) e
take_parts (suc n) (b ∷ x) y = let e : n - length x ≡ suc n - suc (length x) =
    omega arith in ap (λ (z : List ℕ). b ∷ z) (take_parts n x y ∙ ap (λ m. take n x ++ take m y) e)

pub take_long : (n : ℕ) (x : List ℕ) → length x ≤ n → take n x ≡ x
take_long zero [] h = refl
take_long zero (b ∷ x) h = absurd (omega arith)
take_long (suc n) [] h = refl
take_long (suc n) (b ∷ x) h = ap (λ (z : List ℕ). b ∷ z) (take_long n x (omega arith))

pub newlines_append : (x y : List ℕ) → newlines_in (x ++ y) ≡ newlines_in x + newlines_in y
newlines_append x y = sum_by-append (λ b. cond (b == newline) 1 0) x y

-- the newlines up to a place that moves on
pub newlines_further : (x : List ℕ) (at n : ℕ) → newlines_in (take (at + n) x) ≡ newlines_in (take at x) + newlines_in (take n (drop at x))
newlines_further x at n = ap newlines_in (take-add at n x) ∙ newlines_append (take at x) (take n (drop at x))

-- counting in two steps
pub counted_none : (n : ℕ) → counted n 0 ≡ n
counted_none n = omega arith

pub counted_twice : (n a b : ℕ) → counted (counted n a) b ≡ counted n (a + b)
counted_twice n a b = omega arith

pub counted_is : (n a : ℕ) → n < 2 ^ 64 → min (n + a) (2 ^ 64 - 1) ≡ counted n a
counted_is n a h = omega arith

-- text that is stored separately at the start is consumed, and then some of the rest
pub apart_taken : (x : List ℕ) (t : HeldText) (n : ℕ) → length x ≤ n → text_after (n - length x) t ≡ text_after n (record t { pushed = x ++ t.pushed })
apart_taken x t n h =
    let l : length (x ++ t.pushed) ≡ length x + length t.pushed = length-append x t.pushed in
    let m : (n - length x) - length t.pushed ≡ n - length (x ++ t.pushed) = omega arith in
    let p : drop (n - length x) t.pushed ≡ drop n (x ++ t.pushed) =
    sym (drop_parts n x t.pushed ∙ ap (λ (z : List ℕ). z ++ drop (n - length x) t.pushed) (drop_of_length-le x (omega arith))) in
    ap (λ i. let u : HeldText = record {
      pushed = drop (n - length x) t.pushed;
      unread = drop i t.unread;
      newlines = counted t.newlines (newlines_in (take i t.unread));
    } in u) m
    ∙ ap (λ (z : List ℕ). let u : HeldText =
    record {
      pushed = z;
      unread = drop (n - length (x ++ t.pushed)) t.unread;
      newlines = counted t.newlines (newlines_in (take (n - length (x ++ t.pushed)) t.unread));
    } in u) p
