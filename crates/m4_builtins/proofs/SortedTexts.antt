-- SortedTexts: names that were sorted are the names in byte order, as `in_byte_order` places them.
use Rattle.std.proofs.Common.{◌≡◌, ℕ, suc, ◌+◌, ◌<◌, Bool, true, false, List, [], ◌∷◌, length, get_or, Ordering, Less}
use Rattle.std.proofs.Common.{Equal, Greater, refl, sym, ap, subst, ◌∙◌, arith}
use Rattle.std.specs.Prelude.{if◌then◌else◌}
use Rattle.std.specs.List.{AllByRecursion, sum_by}
use Rattle.std.specs.List.Sorted.{IsPermutation, IsSortedBy}
use Rattle.std.specs.Cmp.{IsStrictWeakOrder}
use Rattle.std.specs.Cmp.Lexicographic.{nat_list_cmp_total}
use Rattle.std.specs.Ordering.{is_lt, is_eq, ordering_reverse}
use Rattle.std.proofs.lemmas.List.Sorted.{ranks_by, sorted_far, sum_by-IsPermutation}
use Rattle.std.proofs.lemmas.List.Sums.{sum_by-cons}
use Rattle.m4_state.specs.Table.{byte_order}
use Rattle.m4_state.proofs.Tables.{byte_order-IsAntisymmetric}
use Rattle.m4_builtins.specs.Printing.{placed, in_byte_order}

abbrev below : List ℕ → List ℕ → Bool
below x y = is_lt (byte_order x y)

weak : IsStrictWeakOrder below
weak = ranks_by nat_list_cmp_total (λ x. x)

-- none of the names is below this one
abbrev NoneBelow : List ℕ → List (List ℕ) → Type 0
NoneBelow x ys = AllByRecursion (λ y. below y x ≡ false) ys

-- no name is below one before it
abbrev IsRising : List (List ℕ) → Type 0
IsRising [] = Unit {0}
IsRising (x ∷ xs) = NoneBelow x xs × IsRising xs

none_below : (x : List ℕ) (ys : List (List ℕ)) → ((j : ℕ) (d : List ℕ) → j < length ys → below (get_or ys j d) x ≡ false) → NoneBelow x ys
none_below x [] h = tt
none_below x (y ∷ ys) h = (h 0 [] (omega arith), none_below x ys (λ j d lt. h (suc j) d (omega arith)))

-- names that were sorted rise
rising : (xs : List (List ℕ)) → IsSortedBy below xs → IsRising xs
rising [] h = tt
rising (x ∷ xs) h = (
  none_below x xs (λ j d lt. sorted_far below weak (x ∷ xs) h 0 (suc j) d (omega arith) (omega arith)),
  rising xs (λ k d le lt.
      let next : suc k + 1 ≡ suc (k + 1) = omega arith in
      subst (λ (n : ℕ). below (get_or (x ∷ xs) n d) (get_or xs k d) ≡ false) next (h (suc k) d (omega arith) (omega arith))),
)

-- how often a name is there
abbrev one_if : Bool → ℕ
one_if true = 1
one_if false = 0

abbrev counted : List ℕ → List ℕ → ℕ
counted x y = one_if (is_eq (byte_order x y))

own_reverse : (r : Ordering) → r ≡ ordering_reverse r → r ≡ Equal
own_reverse Less e = absurd cc
own_reverse Equal e = refl
own_reverse Greater e = absurd cc

counted_itself : (x : List ℕ) → counted x x ≡ 1
counted_itself x = ap (λ (r : Ordering). one_if (is_eq r)) (own_reverse (byte_order x x) (nat_list_cmp_total.antisymm x x))

tied : (r : Ordering) → is_eq r ≡ true → r ≡ Equal
tied Less e = absurd cc
tied Equal e = refl
tied Greater e = absurd cc

-- what holds of all names holds of one that is there
holds : (P : List ℕ → Type 0) (x : List ℕ) (ys : List (List ℕ)) → AllByRecursion P ys → 0 < sum_by (counted x) ys → P x
holds P x [] h lt = absurd (omega arith)
holds P x (y ∷ ys) h lt = by (is_eq (byte_order x y)) refl (subst (λ (n : ℕ). 0 < n) (sum_by-cons (counted x) y ys) lt) (holds P x ys h.1)
  where
    by : (b : Bool) → is_eq (byte_order x y) ≡ b → 0 < one_if b + sum_by (counted x) ys → (0 < sum_by (counted x) ys → P x) → P x
    by true e lt later = subst P (sym (byte_order-IsAntisymmetric x y (tied (byte_order x y) e))) h.0
    by false e lt later = later (omega arith)

not_below_itself : (x : List ℕ) → below x x ≡ false
not_below_itself x = by (below x x) refl
  where
    by : (b : Bool) → below x x ≡ b → below x x ≡ false
    by true e = weak.one_way x x e
    by false e = e

neither : (r : Ordering) → is_lt r ≡ false → is_lt (ordering_reverse r) ≡ false → r ≡ Equal
neither Less a b = absurd cc
neither Equal a b = refl
neither Greater a b = absurd cc

-- lists that rise and have each name as often are one
same_rising : (xs ys : List (List ℕ)) → IsRising xs → IsRising ys → ((x : List ℕ) → sum_by (counted x) xs ≡ sum_by (counted x) ys) → xs ≡ ys
same_rising [] [] h g same = refl
same_rising [] (y ∷ ys) h g same = let none : 0 ≡ counted y y + sum_by (counted y) ys = same y
    ∙ sum_by-cons (counted y) y ys in absurd (omega (arith, counted_itself y))
same_rising (x ∷ xs) [] h g same = let none : counted x x + sum_by (counted x) xs ≡ 0 =
    sym (sum_by-cons (counted x) x xs) ∙ same x in absurd (omega (arith, counted_itself x))
same_rising (x ∷ xs) (y ∷ ys) h g same =
    let same_x : counted x x + sum_by (counted x) xs ≡ sum_by (counted x) (y ∷ ys) = sym (sum_by-cons (counted x) x xs) ∙ same x in
    let same_y : sum_by (counted y) (x ∷ xs) ≡ counted y y + sum_by (counted y) ys = same y ∙ sum_by-cons (counted y) y ys in
    let x_there : 0 < sum_by (counted x) (y ∷ ys) = omega (arith, counted_itself x) in
    let y_there : 0 < sum_by (counted y) (x ∷ xs) = omega (arith, counted_itself y) in
    let not_less : below x y ≡ false = holds (λ z. below z y ≡ false) x (y ∷ ys) (not_below_itself y, g.0) x_there in
    let not_more : below y x ≡ false = holds (λ z. below z x ≡ false) y (x ∷ xs) (not_below_itself x, h.0) y_there in
    let tie : byte_order x y ≡ Equal = neither (byte_order x y) not_less (ap is_lt (sym (nat_list_cmp_total.antisymm y x)) ∙ not_more) in
    let heads : x ≡ y = byte_order-IsAntisymmetric x y tie in
    let tails : xs ≡ ys = same_rising xs ys h.1 g.1 (λ z.
    let all : counted z x + sum_by (counted z) xs ≡ counted z y + sum_by (counted z) ys =
    sym (sum_by-cons (counted z) x xs) ∙ same z ∙ sum_by-cons (counted z) y ys in
    let first : counted z x ≡ counted z y = ap (counted z) heads in
    omega arith) in
    ap (λ (z : List ℕ). z ∷ xs) heads ∙ ap (λ (zs : List (List ℕ)). y ∷ zs) tails

-- a name that is placed is there once more
placed_counts : (z name : List ℕ) (names : List (List ℕ)) → sum_by (counted z) (placed name names) ≡ counted z name + sum_by (counted z) names
placed_counts z name [] = sum_by-cons (counted z) name []
placed_counts z name (other ∷ names) = by (below other name) (placed_counts z name names)
  where
    by : (b : Bool) → sum_by (counted z) (placed name names) ≡ counted z name + sum_by (counted z) names
        → sum_by (counted z) (if b then other ∷ placed name names else name ∷ other ∷ names)
        ≡ counted z name + sum_by (counted z) (other ∷ names)
    by true later =
        let first = sum_by-cons (counted z) other (placed name names) in
        let last = sum_by-cons (counted z) other names in
        omega arith
    by false later = sum_by-cons (counted z) name (other ∷ names)

all_placed : (P : List ℕ → Type 0) (name : List ℕ) (names : List (List ℕ)) → P name → AllByRecursion P names → AllByRecursion P (placed name names)
all_placed P name [] p h = (p, tt)
all_placed P name (other ∷ names) p h = by (below other name) (all_placed P name names p h.1)
  where
    by : (b : Bool) → AllByRecursion P (placed name names) → AllByRecursion P (if b then other ∷ placed name names else name ∷ other ∷ names)
    by true later = (h.0, later)
    by false later = (p, h)

chained : (name other : List ℕ) (names : List (List ℕ)) → below other name ≡ false → NoneBelow other names → NoneBelow name names
chained name other [] e h = tt
chained name other (z ∷ names) e h = (weak.chain z other name h.0 e, chained name other names e h.1)

-- and the names still rise
placed_rises : (name : List ℕ) (names : List (List ℕ)) → IsRising names → IsRising (placed name names)
placed_rises name [] h = (tt, tt)
placed_rises name (other ∷ names) h = by (below other name) refl (placed_rises name names h.1)
  where
    by : (b : Bool) → below other name ≡ b → IsRising (placed name names) → IsRising (if b then other ∷ placed name names else name ∷ other ∷ names)
    by true e later = (all_placed (λ z. below z other ≡ false) name names (weak.one_way other name e) h.0, later)
    by false e later = ((e, chained name other names e h.0), h)

ordered_rises : (names : List (List ℕ)) → IsRising (in_byte_order names)
ordered_rises [] = tt
ordered_rises (name ∷ names) = placed_rises name (in_byte_order names) (ordered_rises names)

ordered_counts : (z : List ℕ) (names : List (List ℕ)) → sum_by (counted z) (in_byte_order names) ≡ sum_by (counted z) names
ordered_counts z [] = refl
ordered_counts z (name ∷ names) = placed_counts z name (in_byte_order names)
    ∙ ap (λ (n : ℕ). counted z name + n) (ordered_counts z names) ∙ sym (sum_by-cons (counted z) name names)

-- names that were sorted are those in byte order
pub sorted_in_byte_order : (names sorted : List (List ℕ)) → IsPermutation names sorted → IsSortedBy below sorted → sorted ≡ in_byte_order names
sorted_in_byte_order names sorted p up =
    same_rising sorted (in_byte_order names) (rising sorted up) (ordered_rises names)
    (λ z. sum_by-IsPermutation (counted z) names sorted p ∙ sym (ordered_counts z names))
