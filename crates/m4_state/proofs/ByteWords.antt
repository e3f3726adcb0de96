-- Names that are compared as numbers: words of eight bytes compare as the bytes do.
use Rattle.std.proofs.Common.{◌≡◌, ℕ, zero, suc, ◌+◌, ◌*◌, ◌<◌, ◌≤◌, List, [], ◌∷◌, ◌++◌, length, get_or, take, drop}
use Rattle.std.proofs.Common.{drop-cons, Ordering, Less, Equal, Greater, refl, sym, ap, subst, ◌∙◌, arith, min}
use Rattle.std.specs.Ordering.{nat_cmp, ordering_then, MatchOrdering}
use Rattle.std.specs.Cmp.{ranks}
use Rattle.std.specs.Cmp.Lexicographic.{slice_cmp}
use Rattle.std.proofs.Math.Nat.{min-le_left, min-le_right, le-min}
use Rattle.std.proofs.Math.Seq.{take-add}
use Rattle.std.proofs.lemmas.List.{length-drop, get_or-drop, take-take}
use Rattle.m4_state.specs.ByteWords.{word, AreBytes, filled, IsRank, BeginsAlike}

-- ---- how two numbers compare
by_rank : (x y : ℕ) (r : Ordering) → MatchOrdering r (x < y) (x ≡ y) (y < x) → (x < y → r ≡ Less) × (x ≡ y → r ≡ Equal) × (y < x → r ≡ Greater)
by_rank x y Less h = let l : x < y = h in (λ _. refl, λ e. absurd (omega arith), λ g. absurd (omega arith))
by_rank x y Equal h = let e : x ≡ y = h in (λ l. absurd (omega arith), λ _. refl, λ g. absurd (omega arith))
by_rank x y Greater h = let g : y < x = h in (λ l. absurd (omega arith), λ e. absurd (omega arith), λ _. refl)

below : {x y : ℕ} → x < y → nat_cmp x y ≡ Less
below {x} {y} = (by_rank x y _ (ranks x y)).0

tied : {x y : ℕ} → x ≡ y → nat_cmp x y ≡ Equal
tied {x} {y} = (by_rank x y _ (ranks x y)).1

pub above : {x y : ℕ} → y < x → nat_cmp x y ≡ Greater
above {x} {y} = (by_rank x y _ (ranks x y)).2

-- ---- bytes as numbers

-- the numbers x and y were read from the first n bytes, and compare as those do
pub record Settles (us vs : List ℕ) (n x y : ℕ) : Type 0 where
  pub apart : (x ≡ y → ⊥) → slice_cmp nat_cmp us vs ≡ nat_cmp x y
  pub alike : x ≡ y → take n us ≡ take n vs

-- a number that is less stays less, whatever follows
rises : (n a b : ℕ) (us vs : List ℕ) → n ≤ length us → n ≤ length vs → AreBytes us → a < b → word a (take n us) < word b (take n vs)
rises zero a b us vs p q h l = l
rises (suc n) a b [] vs p q h l = absurd (omega arith)
rises (suc n) a b (u ∷ us) [] p q h l = absurd (omega arith)
rises (suc n) a b (u ∷ us) (v ∷ vs) p q h l =
    let small : u < 256 = h 0 in
    rises n (a * 256 + u) (b * 256 + v) us vs (omega arith) (omega arith) (λ k. h (suc k)) (omega arith)

spells : (n a : ℕ) (us vs : List ℕ) → n ≤ length us → n ≤ length vs → AreBytes us → AreBytes vs → Settles us vs n (word a (take n us)) (word a (take n vs))
spells zero a us vs p q g h = record { apart = λ f. absurd (f refl); alike = λ _. refl }
spells (suc n) a [] vs p q g h = absurd (omega arith)
spells (suc n) a (u ∷ us) [] p q g h = absurd (omega arith)
spells (suc n) a (u ∷ us) (v ∷ vs) p q g h =
    by (spells n (a * 256 + u) us vs (omega arith) (omega arith) (λ k. g (suc k)) (λ k. h (suc k))) (nat_cmp u v) refl (ranks u v)
  where
    by : Settles us vs n (word (a * 256 + u) (take n us)) (word (a * 256 + u) (take n vs))
        → (r : Ordering) → nat_cmp u v ≡ r → MatchOrdering r (u < v) (u ≡ v) (v < u)
        → Settles (u ∷ us) (v ∷ vs) (suc n) (word (a * 256 + u) (take n us)) (word (a * 256 + v) (take n vs))
    by rest Less e l =
        let under : u < v = l in
        let t = rises n (a * 256 + u) (a * 256 + v) us vs (omega arith) (omega arith) (λ k. g (suc k)) (omega arith) in
        record { apart = λ _. ap (λ r. ordering_then r (slice_cmp nat_cmp us vs)) e ∙ sym (below t); alike = λ s. absurd (omega arith) }
    by rest Greater e l =
        let over : v < u = l in
        let t = rises n (a * 256 + v) (a * 256 + u) vs us (omega arith) (omega arith) (λ k. h (suc k)) (omega arith) in
        record { apart = λ _. ap (λ r. ordering_then r (slice_cmp nat_cmp us vs)) e ∙ sym (above t); alike = λ s. absurd (omega arith) }
    by rest Equal e l =
        let level : u ≡ v = l in
        let t = subst (λ z. Settles us vs n (word (a * 256 + u) (take n us)) (word (a * 256 + z) (take n vs))) level rest in
        record { apart = λ f. ap (λ r. ordering_then r (slice_cmp nat_cmp us vs)) e ∙ t.apart f; alike = λ s j. level j ∷ t.alike s j }

-- equal beginnings decide nothing
past : (i : ℕ) (xs ys : List ℕ) → i ≤ length xs → i ≤ length ys → take i xs ≡ take i ys → slice_cmp nat_cmp xs ys ≡ slice_cmp nat_cmp (drop i xs) (drop i ys)
past zero xs ys a b h = refl
past (suc i) [] ys a b h = absurd (omega arith)
past (suc i) (x ∷ xs) [] a b h = absurd (omega arith)
past (suc i) (x ∷ xs) (y ∷ ys) a b h =
    let head : x ≡ y = cc in
    let rest : take i xs ≡ take i ys = cc in
    ap (λ r. ordering_then r (slice_cmp nat_cmp xs ys)) (tied head) ∙ past i xs ys (omega arith) (omega arith) rest

module _ (xs ys : List ℕ) (bx : AreBytes xs) (by : AreBytes ys) where
  -- the words from i on, where the bytes before are alike
  pub words_at : (i : ℕ) → i + 8 ≤ length xs → i + 8 ≤ length ys → take i xs ≡ take i ys
      → Settles (drop i xs) (drop i ys) 8 (word 0 (take 8 (drop i xs))) (word 0 (take 8 (drop i ys)))
  words_at i p q h =
      spells 8 0 (drop i xs) (drop i ys) (omega (arith, length-drop i xs)) (omega (arith, length-drop i ys))
      (λ k. subst (λ (b : ℕ). b < 256) (sym (get_or-drop i xs k 0)) (bx (i + k))) (λ k. subst (λ (b : ℕ). b < 256) (sym (get_or-drop i ys k 0)) (by (i + k)))

  -- words that differ decide
  pub words_decide : (i x y : ℕ) → i + 8 ≤ length xs → i + 8 ≤ length ys → take i xs ≡ take i ys
      → x ≡ word 0 (take 8 (drop i xs)) → y ≡ word 0 (take 8 (drop i ys)) → (x ≡ y → ⊥) → nat_cmp x y ≡ slice_cmp nat_cmp xs ys
  words_decide i x y p q h ex ey f =
      (λ j. nat_cmp (ex j) (ey j)) ∙ sym (past i xs ys (omega arith) (omega arith) h ∙ (words_at i p q h).apart (λ e. f (ex ∙ e ∙ sym ey)))

-- the n bytes from i + k on, as they are read one by one
abbrev reads : List ℕ → ℕ → ℕ → ℕ → List ℕ
reads xs i k zero = []
reads xs i k (suc n) = get_or xs (i + k) 0 ∷ reads xs i (suc k) n

read_out : (n : ℕ) (xs : List ℕ) (i k : ℕ) → i + k + n ≤ length xs → take n (drop (i + k) xs) ≡ reads xs i k n
read_out zero xs i k le = refl
read_out (suc n) xs i k le =
    let next : suc (i + k) ≡ i + suc k = omega arith in
    ap (take (suc n)) (drop-cons xs (i + k) 0 (omega arith))
    ∙ ap (λ l. get_or xs (i + k) 0 ∷ l) (ap (λ m. take n (drop m xs)) next ∙ read_out n xs i (suc k) (omega arith))

-- eight bytes, as they are read
pub eight_bytes : (xs : List ℕ) (i : ℕ) → i + 8 ≤ length xs
    → get_or xs i 0 * 72057594037927936 + get_or xs (i + 1) 0 * 281474976710656 + get_or xs (i + 2) 0 * 1099511627776 + get_or xs (i + 3) 0 * 4294967296
    + get_or xs (i + 4) 0 * 16777216 + get_or xs (i + 5) 0 * 65536 + get_or xs (i + 6) 0 * 256 + get_or xs (i + 7) 0 ≡ word 0 (take 8 (drop i xs))
eight_bytes xs i le =
    let start : i ≡ i + 0 = omega arith in
    let here : get_or xs (i + 0) 0 ≡ get_or xs i 0 = ap (λ k. get_or xs k 0) (omega arith) in
    omega (arith, here) ∙ sym (ap (word 0) (ap (λ m. take 8 (drop m xs)) start ∙ read_out 8 xs i 0 (omega arith)))

-- ---- names as two numbers

length-filled : (n : ℕ) (xs : List ℕ) → length (filled n xs) ≡ n
length-filled zero xs = refl
length-filled (suc n) [] = ap suc (length-filled n [])
length-filled (suc n) (x ∷ xs) = ap suc (length-filled n xs)

-- names whose first bytes differ, zeros for those that are not there, compare as these do
filled_decide : (n : ℕ) (xs ys : List ℕ) → (filled n xs ≡ filled n ys → ⊥) → slice_cmp nat_cmp (filled n xs) (filled n ys) ≡ slice_cmp nat_cmp xs ys
filled_decide zero xs ys f = absurd (f refl)
filled_decide (suc n) [] [] f = absurd (f refl)
filled_decide (suc n) [] (suc y ∷ ys) f = let l : 0 < suc y = omega arith in ap (λ r. ordering_then r (slice_cmp nat_cmp (filled n []) (filled n ys))) (below l)
filled_decide (suc n) [] (zero ∷ []) f = absurd (f refl)
filled_decide (suc n) [] (zero ∷ y ∷ ys) f = filled_decide n [] (y ∷ ys) (λ e. f (ap (λ l. 0 ∷ l) e))
filled_decide (suc n) (suc x ∷ xs) [] f = let g : 0 < suc x = omega arith in ap (λ r. ordering_then r (slice_cmp nat_cmp (filled n xs) (filled n []))) (above g)
filled_decide (suc n) (zero ∷ []) [] f = absurd (f refl)
filled_decide (suc n) (zero ∷ x ∷ xs) [] f = filled_decide n (x ∷ xs) [] (λ e. f (ap (λ l. 0 ∷ l) e))
filled_decide (suc n) (x ∷ xs) (y ∷ ys) f = by (nat_cmp x y) (ranks x y) (filled_decide n xs ys)
  where
    by : (r : Ordering) → MatchOrdering r (x < y) (x ≡ y) (y < x)
        → ((filled n xs ≡ filled n ys → ⊥) → slice_cmp nat_cmp (filled n xs) (filled n ys) ≡ slice_cmp nat_cmp xs ys)
        → ordering_then r (slice_cmp nat_cmp (filled n xs) (filled n ys)) ≡ ordering_then r (slice_cmp nat_cmp xs ys)
    by Less l rest = refl
    by Greater l rest = refl
    by Equal l rest = let level : x ≡ y = l in rest (λ s. f (λ j. level j ∷ s j))

-- a long name fills all of them
filled_front : (n : ℕ) (xs : List ℕ) → n ≤ length xs → filled n xs ≡ take n xs
filled_front zero xs le = refl
filled_front (suc n) [] le = absurd (omega arith)
filled_front (suc n) (x ∷ xs) le = ap (λ (l : List ℕ). x ∷ l) (filled_front n xs (omega arith))

-- the first of bytes are bytes
few_bytes : (n : ℕ) (xs : List ℕ) → AreBytes xs → AreBytes (take n xs)
few_bytes zero xs h k = omega arith
few_bytes (suc n) [] h k = h k
few_bytes (suc n) (x ∷ xs) h zero = h 0
few_bytes (suc n) (x ∷ xs) h (suc k) = few_bytes n xs (λ i. h (suc i)) k

-- a long name is ranked by its first eight bytes
pub rank_of_long : (xs : List ℕ) (a : ℕ) → 8 ≤ length xs → AreBytes xs → a ≡ word 0 (take 8 xs) → IsRank xs a
rank_of_long xs a le bytes e =
    let full : filled 8 xs ≡ take 8 xs = filled_front 8 xs le in
    record {
      bytes = subst AreBytes (sym full) (few_bytes 8 xs bytes);
      number = e ∙ sym (ap (word 0) (ap (take 8) full ∙ take-take 8 8 xs (omega arith)));
    }

-- names whose first eight bytes spell different numbers compare as these do
pub ranks_decide : (xs ys : List ℕ) (a b : ℕ) → IsRank xs a → IsRank ys b → (a ≡ b → ⊥) → nat_cmp a b ≡ slice_cmp nat_cmp xs ys
ranks_decide xs ys a b rx ry f =
    words_decide (filled 8 xs) (filled 8 ys) rx.bytes ry.bytes 0 a b (omega (arith, length-filled 8 xs))
    (omega (arith, length-filled 8 ys)) refl rx.number ry.number f
    ∙ filled_decide 8 xs ys (λ e. f (rx.number ∙ ap (λ l. word 0 (take 8 l)) e ∙ sym ry.number))

-- after bytes that are the same too
pub ranks_decide_after : (n : ℕ) (first xs ys : List ℕ) (a b : ℕ) → BeginsAlike n first xs → BeginsAlike n first ys
    → IsRank (drop n xs) a → IsRank (drop n ys) b → (a ≡ b → ⊥)
    → nat_cmp a b ≡ slice_cmp nat_cmp xs ys
ranks_decide_after n first xs ys a b p q rx ry f =
    ranks_decide (drop n xs) (drop n ys) a b rx ry f ∙ sym (past n xs ys p.within q.within (p.alike ∙ sym q.alike))

-- ---- names that are compared word by word

-- one of them has no more bytes: the lengths decide
ends : (us vs : List ℕ) (n a b : ℕ) → a ≡ n + length us → b ≡ n + length vs → min a b ≤ n → slice_cmp nat_cmp us vs ≡ nat_cmp a b
ends [] [] n a b p q o = let e : a ≡ b = omega arith in sym (tied e)
ends [] (v ∷ vs) n a b p q o = let l : a < b = omega arith in sym (below l)
ends (u ∷ us) [] n a b p q o = let g : b < a = omega arith in sym (above g)
ends (u ∷ us) (v ∷ vs) n a b p q o = absurd (omega (arith, le-min {k = n + 1} {a = a} {b = b} (omega arith) (omega arith)))

-- all the bytes of one of them are the same in the other
pub lengths_decide : (n : ℕ) (xs ys : List ℕ) → n ≡ min (length xs) (length ys) → take n xs ≡ take n ys
    → nat_cmp (length xs) (length ys) ≡ slice_cmp nat_cmp xs ys
lengths_decide n xs ys e h =
    let p : n ≤ length xs = omega (arith, min-le_left (length xs) (length ys)) in
    let q : n ≤ length ys = omega (arith, min-le_right (length xs) (length ys)) in
    sym (past n xs ys p q h ∙ ends (drop n xs) (drop n ys) n (length xs) (length ys) (omega (arith, length-drop n xs))
    (omega (arith, length-drop n ys)) (omega arith))

-- fewer bytes are the same too
pub fewer_alike : (m n : ℕ) (xs ys : List ℕ) → m ≤ n → take n xs ≡ take n ys → take m xs ≡ take m ys
fewer_alike m n xs ys le h = sym (take-take m n xs le) ∙ ap (take m) h ∙ take-take m n ys le

-- eight bytes more are the same
pub word_alike : (i x y : ℕ) (xs ys : List ℕ) → AreBytes xs → AreBytes ys → i + 8 ≤ length xs → i + 8 ≤ length ys → take i xs ≡ take i ys
    → x ≡ word 0 (take 8 (drop i xs)) → y ≡ word 0 (take 8 (drop i ys)) → x ≡ y → take (i + 8) xs ≡ take (i + 8) ys
word_alike i x y xs ys bx by p q h ex ey e =
    take-add i 8 xs ∙ (λ j. h j ++ (words_at xs ys bx by i p q h).alike (sym ex ∙ e ∙ ey) j) ∙ sym (take-add i 8 ys)
