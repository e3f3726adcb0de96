-- NumbersAbove: the numbers of the diversions that hold text are met one by one by `next_after`.
use Rattle.std.proofs.Common.{◌≡◌, ℤ, pos, Bool, true, false, cond, List, [], ◌∷◌, Some, None, refl, ap, subst, Ordering, Less, Equal, Greater}
use Rattle.std.specs.Prelude.{IsTrue, int_lt, FitsSigned}
use Rattle.std.specs.Int.{w32}
use Rattle.std.specs.List.{AllByRecursion}
use Rattle.std.specs.Ordering.{int_cmp, is_lt, is_eq}
use Rattle.std.specs.FinMap.{is_sorted, int_cmp-IsAntisymmetric}
use Rattle.std.specs.Cmp.{int_cmp_total, tied_itself}
use Rattle.std.proofs.lemmas.Option.{same_Some}
use Rattle.std.specs.FinMap.Entries.{below_all}
use Rattle.m4_state.specs.State.{IsDiversion, diverted_text, next_after, NumberedText}
use Rattle.m4_state.specs.NumbersAbove.{above}
use Rattle.m4_state.proofs.Pairs.{both}

-- whether int_cmp says Less is int_lt
int_lt-less : (x y : ℤ) → IsTrue (is_lt (int_cmp x y)) → int_lt x y ≡ true
int_lt-less x y h = by (int_lt x y) (int_lt y x) h
  where
    by : (a b : Bool) → IsTrue (is_lt (cond a Less (cond b Greater Equal))) → a ≡ true
    by true b h = refl
    by false true h = absurd cc
    by false false h = absurd cc

-- and back
less-int_lt : (x y : ℤ) → int_lt x y ≡ true → int_cmp x y ≡ Less
less-int_lt x y e = rw e refl

int_lt-trans : (x y z : ℤ) → int_lt x y ≡ true → int_lt y z ≡ true → int_lt x z ≡ true
int_lt-trans x y z p q = int_lt-less x z (ap is_lt (int_cmp_total.trans x y z (less-int_lt x y p) (less-int_lt y z q)))

-- no number is below itself
int_lt-irrefl : (x : ℤ) → int_lt x x ≡ false
int_lt-irrefl x = by (int_lt x x) refl
  where
    by : (b : Bool) → int_lt x x ≡ b → b ≡ false
    by true e = let less : int_cmp x x ≡ Less = less-int_lt x x e in let tie : int_cmp x x ≡ Equal = tied_itself int_cmp_total x in absurd cc
    by false e = refl

-- ---- the diversions one after the other

-- where the numbers rise from above a number on, all of them lie above it
above-below : (n m : ℤ) (ds : List NumberedText) → int_lt n m ≡ true → IsTrue (below_all int_cmp m ds) → above n ds ≡ ds
above-below n m [] lt h = refl
above-below n m (d ∷ ds) lt h =
    let next : int_lt m d.0 ≡ true = int_lt-less m d.0 (both _ _ h).0 in
    let here : int_lt n d.0 ≡ true = int_lt-trans n m d.0 lt next in
    rw here (ap (λ (xs : List NumberedText). d ∷ xs) (above-below n m ds lt (both _ _ h).1))

-- the same from the number of the first one on
above-first : (n : ℤ) (ds : List NumberedText) → IsTrue (below_all int_cmp n ds) → above n ds ≡ ds
above-first n [] h = refl
above-first n (d ∷ ds) h =
    let here : int_lt n d.0 ≡ true = int_lt-less n d.0 (both _ _ h).0 in
    rw here (ap (λ (xs : List NumberedText). d ∷ xs) (above-first n ds (both _ _ h).1))

-- what isn't above a number isn't above a greater one, nor is it that one
not_below : (n m k : ℤ) → int_lt n k ≡ false → int_lt n m ≡ true → int_lt m k ≡ false
not_below n m k ge lt = by (int_lt m k) refl
  where
    by : (b : Bool) → int_lt m k ≡ b → b ≡ false
    by true e = let bad : int_lt n k ≡ true = int_lt-trans n m k lt e in absurd cc
    by false e = refl

not_tied : (n m k : ℤ) → int_lt n k ≡ false → int_lt n m ≡ true → is_eq (int_cmp m k) ≡ false
not_tied n m k ge lt = by (int_cmp m k) refl
  where
    by : (r : Ordering) → int_cmp m k ≡ r → is_eq r ≡ false
    by Less e = refl
    by Equal e = let bad : int_lt n k ≡ true = subst (λ (z : ℤ). int_lt n z ≡ true) (int_cmp-IsAntisymmetric m k e) lt in absurd cc
    by Greater e = refl

-- the diversions above a number are the next one and those above it
pub record IsNext (n m : ℤ) (ds : List NumberedText) : Type 0 where
  pub above_is : above n ds ≡ (m, diverted_text ds m) ∷ above m ds
  pub later : int_lt n m ≡ true

-- the first one is the next
first : (n m : ℤ) (d : NumberedText) (ds : List NumberedText) → IsTrue (is_sorted int_cmp (d ∷ ds)) → int_lt n d.0 ≡ true → d.0 ≡ m → IsNext n m (d ∷ ds)
first n m d ds sorted lt is = subst (λ (k : ℤ). IsNext n k (d ∷ ds)) is (record {
  above_is =
      let after : above n ds ≡ ds = above-below n d.0 ds lt (both _ _ sorted).0 in
      let own : int_lt d.0 d.0 ≡ false = int_lt-irrefl d.0 in
      let rest : above d.0 ds ≡ ds = above-first d.0 ds (both _ _ sorted).0 in
      rw (lt, after, own, rest) refl;
  later = lt;
})

-- a later one is the next
later : (n m : ℤ) (d : NumberedText) (ds : List NumberedText) → int_lt n d.0 ≡ false → IsNext n m ds → IsNext n m (d ∷ ds)
later n m d ds ge next = record {
  above_is = rw (ge, not_tied n m d.0 ge next.later, not_below n m d.0 ge next.later) next.above_is;
  later = next.later;
}

pub above-next : (n m : ℤ) (ds : List NumberedText) → IsTrue (is_sorted int_cmp ds) → next_after ds n ≡ Some m → IsNext n m ds
above-next n m [] sorted is = absurd cc
above-next n m (d ∷ ds) sorted is = by (int_lt n d.0) refl is (λ next. above-next n m ds (both _ _ sorted).1 next)
  where
    by : (b : Bool) → int_lt n d.0 ≡ b → cond b (Some d.0) (next_after ds n) ≡ Some m → (next_after ds n ≡ Some m → IsNext n m ds) → IsNext n m (d ∷ ds)
    by true lt is rest = first n m d ds sorted lt (same_Some d.0 m is)
    by false ge is rest = later n m d ds ge (rest is)

-- and none where there is no next one
pub above-last : (n : ℤ) (ds : List NumberedText) → next_after ds n ≡ None → above n ds ≡ []
above-last n [] is = refl
above-last n (d ∷ ds) is = by (int_lt n d.0) is (λ none. above-last n ds none)
  where
    by : (b : Bool) → cond b (Some d.0) (next_after ds n) ≡ None → (next_after ds n ≡ None → above n ds ≡ []) → cond b (d ∷ above n ds) (above n ds) ≡ []
    by true is rest = absurd cc
    by false is rest = rest is

-- all of them lie above 0
pub above-all : (ds : List NumberedText) → AllByRecursion IsDiversion ds → above (pos 0) ds ≡ ds
above-all [] h = refl
above-all (d ∷ ds) h =
    let here : int_lt (pos 0) d.0 ≡ true = h.0.positive in
    rw here (ap (λ (xs : List NumberedText). d ∷ xs) (above-all ds h.1))

-- the next number is one of 32 bits
pub next_fits : (n m : ℤ) (ds : List NumberedText) → AllByRecursion IsDiversion ds → next_after ds n ≡ Some m → FitsSigned w32 m
next_fits n m [] h is = absurd cc
next_fits n m (d ∷ ds) h is = by (int_lt n d.0) is (λ next. next_fits n m ds h.1 next)
  where
    by : (b : Bool) → cond b (Some d.0) (next_after ds n) ≡ Some m → (next_after ds n ≡ Some m → FitsSigned w32 m) → FitsSigned w32 m
    by true is rest = subst (FitsSigned w32) (same_Some d.0 m is) h.0.fits
    by false is rest = rest is
