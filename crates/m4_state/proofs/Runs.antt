-- A list that is sorted run by run: the runs before a place are sorted, and none of their elements goes after a later one.
use Rattle.std.proofs.Common.{◌≡◌, ◌≢◌, ℕ, ◌+◌, ◌-◌, ◌<◌, ◌≤◌, Bool, false, List, ◌++◌, map, get_or, take, drop, length}
use Rattle.std.proofs.Common.{inl, inr, ◌⊎◌, sym, ap, subst, ◌∙◌, arith}
use Rattle.std.specs.List.{All, AllWithin, HoldsAt}
use Rattle.std.specs.List.Sorted.{IsPermutation, IsSortedBy, IsSortedByKey, IsSortedWithin}
use Rattle.std.specs.Ordering.{nat_cmp}
use Rattle.std.proofs.lemmas.Bool.{cases_lt}
use Rattle.std.proofs.lemmas.List.{length-map, length-drop, length-take-le, get_or-map, get_or-take, get_or-drop}
use Rattle.std.proofs.lemmas.List.{get_or_append_left, get_or-append_right, map-append, drop-drop}
use Rattle.std.proofs.lemmas.List.Elements.{All-from_get_or, All-map}
use Rattle.std.proofs.lemmas.List.Sorted.{IsPermutation-refl, IsPermutation-trans, IsPermutation-append_left}
use Rattle.std.proofs.lemmas.List.Sorted.{IsPermutation-append_right, All-permutation, length_permutation}
use Rattle.std.proofs.lemmas.List.Sorted.{IsNonDecreasingBy-from_sort}
use Rattle.std.proofs.lemmas.Slice.{drop-put_mid}
use borrow.Rule.Slice.PartMut.{mid_of, put_mid, post_of, put_same}

module _ {X : Type 0} (p : X → ℕ) (lo : ℕ → ℕ → Bool) where
  -- the runs before a place are sorted, of a list that was xs0
  pub record Runs (xs0 xs : List X) (at : ℕ) : Type 0 where
    pub within : at ≤ length xs
    pub long : length xs ≡ length xs0
    pub moves : IsPermutation (map p xs0) (map p xs)
    pub rest : drop at xs ≡ drop at xs0
    pub rises : IsSortedWithin (λ x y. lo (p x) (p y)) xs 0 at
    pub over : (i j : ℕ) (d : X) → i < at → at ≤ j → j < length xs → lo (p (get_or xs j d)) (p (get_or xs i d)) ≡ false

  -- what is after the place is as it was
  pub same_after : (xs0 xs : List X) (at : ℕ) → Runs xs0 xs at → (j : ℕ) (d : X) → at ≤ j → get_or xs j d ≡ get_or xs0 j d
  same_after xs0 xs at h j d le =
      let here : at + (j - at) ≡ j = omega arith in
      ap (λ (i : ℕ). get_or xs i d) (sym here) ∙ sym (get_or-drop at xs (j - at) d) ∙ ap (λ (l : List X). get_or l (j - at) d) h.rest
      ∙ get_or-drop at xs0 (j - at) d ∙ ap (λ (i : ℕ). get_or xs0 i d) here

  module _ (xs0 xs ys : List X) (at end : ℕ) (h : Runs xs0 xs at) (more : at < end) (le : end ≤ length xs)
      (moved : IsPermutation (map p (mid_of at (end - at) xs)) (map p ys)) (up : IsSortedBy (λ x y. lo (p x) (p y)) ys)
      (apart : (i j : ℕ) (d : X) → at ≤ i → i < end → end ≤ j → j < length xs → lo (p (get_or xs j d)) (p (get_or xs i d)) ≡ false) where
    abbrev mid : List X
    mid = mid_of at (end - at) xs

    abbrev zs : List X
    zs = put_mid at (end - at) xs ys

    long_mid : length mid ≡ end - at
    long_mid = length-take-le (end - at) (drop at xs) (omega (arith, length-drop at xs))

    long_ys : length ys ≡ end - at
    long_ys = sym (length-map ys p) ∙ length_permutation (map p mid) (map p ys) moved ∙ length-map mid p ∙ long_mid

    mid_at : (i : ℕ) (d : X) → i < end - at → get_or mid i d ≡ get_or xs (at + i) d
    mid_at i d l = get_or-take (end - at) (drop at xs) i d l ∙ get_or-drop at xs i d

    -- what is true of each element of the run is so after it was sorted
    each : (P : ℕ → Type 0) (d : X) → ((i : ℕ) → at ≤ i → i < end → P (p (get_or xs i d))) → (k : ℕ) → k < end - at → P (p (get_or ys k d))
    each P d f k l =
        let all : All (λ x. P (p x)) mid = All-from_get_or (λ (x : X). P (p x)) mid d (λ i il.
        let short : i < end - at = omega (arith, il, long_mid) in subst (λ (x : X). P (p x)) (sym (mid_at i d short))
        (f (at + i) (omega arith) (omega arith))) in
        let short : k < length ys = omega (arith, l, long_ys) in
        subst P (get_or-map p ys k d (p d) short)
        (All-permutation P (map p mid) (map p ys) moved (All-map P p mid all) k (p d) (omega (arith, short, length-map ys p)))

    front_at : (i : ℕ) (d : X) → i < at → get_or zs i d ≡ get_or xs i d
    front_at i d l =
        let long : length (take at xs) ≡ at = length-take-le at xs (omega arith) in
        get_or_append_left (take at xs) (ys ++ post_of at (end - at) xs) d i (omega (arith, long)) ∙ get_or-take at xs i d l

    run_at : (i : ℕ) (d : X) → at ≤ i → i < end → get_or zs i d ≡ get_or ys (i - at) d
    run_at i d a b =
        get_or-append_right (take at xs) (ys ++ post_of at (end - at) xs) at i d (length-take-le at xs (omega arith)) a
        ∙ get_or_append_left ys (post_of at (end - at) xs) d (i - at) (omega (arith, long_ys))

    rest_at : (j : ℕ) (d : X) → end ≤ j → get_or zs j d ≡ get_or xs j d
    rest_at j d e =
        let here : at + ((end - at) + (j - at - (end - at))) ≡ j = omega arith in
        get_or-append_right (take at xs) (ys ++ post_of at (end - at) xs) at j d (length-take-le at xs (omega arith)) (omega arith)
        ∙ get_or-append_right ys (post_of at (end - at) xs) (end - at) (j - at) d long_ys (omega arith)
        ∙ get_or-drop (end - at) (drop at xs) (j - at - (end - at)) d ∙ get_or-drop at xs _ d ∙ ap (λ (i : ℕ). get_or xs i d) here

    spread : (vs : List X) → map p (take at xs ++ (vs ++ post_of at (end - at) xs)) ≡ map p (take at xs) ++ (map p vs ++ map p (post_of at (end - at) xs))
    spread vs = map-append p (take at xs) _ ∙ ap (λ (l : List ℕ). map p (take at xs) ++ l) (map-append p vs _)

    moves : IsPermutation (map p xs) (map p zs)
    moves =
        subst (λ (l : List ℕ). IsPermutation l (map p zs)) (sym (spread mid) ∙ ap (map p) (put_same at (end - at) xs))
        (subst (λ (l : List ℕ). IsPermutation (map p (take at xs) ++ (map p mid ++ map p (post_of at (end - at) xs))) l) (sym (spread ys))
        (IsPermutation-append_right (map p (take at xs)) _ _ (IsPermutation-append_left (map p (post_of at (end - at) xs)) _ _ moved)))

    long_zs : length zs ≡ length xs
    long_zs = sym (length-map zs p) ∙ length_permutation (map p xs) (map p zs) moves ∙ length-map xs p

    rises : IsSortedWithin (λ x y. lo (p x) (p y)) zs 0 end
    rises k d low lt = by (cases_lt (k + 1) at) (cases_lt k at)
      where
        by : ((k + 1 < at) ⊎ (at ≤ k + 1)) → ((k < at) ⊎ (at ≤ k)) → lo (p (get_or zs (k + 1) d)) (p (get_or zs k d)) ≡ false
        by (inl a) _ = (λ j. lo (p (front_at (k + 1) d a j)) (p (front_at k d (omega arith) j))) ∙ h.rises k d low a
        by (inr a) (inl b) =
            (λ j. lo (p (run_at (k + 1) d a lt j)) (p (front_at k d b j)))
            ∙ each (λ (q : ℕ). lo q (p (get_or xs k d)) ≡ false) d (λ i x y. h.over k i d b x (omega arith)) (k + 1 - at) (omega arith)
        by (inr a) (inr b) =
            let next : k + 1 - at ≡ k - at + 1 = omega arith in
            (λ j. lo (p (run_at (k + 1) d a lt j)) (p (run_at k d b (omega arith) j)))
            ∙ ap (λ (i : ℕ). lo (p (get_or ys i d)) (p (get_or ys (k - at) d))) next ∙ up (k - at) d (omega arith) (omega (arith, long_ys))

    over : (i j : ℕ) (d : X) → i < end → end ≤ j → j < length zs → lo (p (get_or zs j d)) (p (get_or zs i d)) ≡ false
    over i j d l e lj = by (cases_lt i at)
      where
        within : j < length xs
        within = omega (arith, lj, long_zs)

        by : ((i < at) ⊎ (at ≤ i)) → lo (p (get_or zs j d)) (p (get_or zs i d)) ≡ false
        by (inl a) = (λ r. lo (p (rest_at j d e r)) (p (front_at i d a r))) ∙ h.over i j d a (omega arith) within
        by (inr a) =
            (λ r. lo (p (rest_at j d e r)) (p (run_at i d a l r)))
            ∙ each (λ (q : ℕ). lo (p (get_or xs j d)) q ≡ false) d (λ m x y. apart m j d x y e within) (i - at) (omega arith)

    -- one more run is sorted
    pub more_runs : Runs xs0 (put_mid at (end - at) xs ys) end
    more_runs = record {
      within = omega (arith, long_zs);
      long = long_zs ∙ h.long;
      moves = IsPermutation-trans (map p xs0) (map p xs) (map p zs) h.moves moves;
      rest =
          let here : at + (end - at) ≡ end = omega arith in
          drop-put_mid at (end - at) xs ys end (omega arith) (omega arith) long_ys
          ∙ ap (λ (i : ℕ). drop i xs) (sym here) ∙ sym (drop-drop (end - at) at xs) ∙ ap (drop (end - at)) h.rest
          ∙ drop-drop (end - at) at xs0 ∙ ap (λ (i : ℕ). drop i xs0) here;
      rises = rises;
      over = over;
    }

  -- one element is sorted
  pub one_run : (xs0 xs : List X) (at end : ℕ) → Runs xs0 xs at → at < end → end ≤ length xs → end ≤ at + 1
      → ((i j : ℕ) (d : X) → at ≤ i → i < end → end ≤ j → j < length xs → lo (p (get_or xs j d)) (p (get_or xs i d)) ≡ false) → Runs xs0 xs end
  one_run xs0 xs at end h more le one apart =
      let long : length (mid_of at (end - at) xs) ≡ end - at = length-take-le (end - at) (drop at xs) (omega (arith, length-drop at xs)) in
      subst (λ (l : List X). Runs xs0 l end) (put_same at (end - at) xs)
      (more_runs xs0 xs (mid_of at (end - at) xs) at end h more le (IsPermutation-refl _) (λ k d low lt. absurd (omega (arith, long))) apart)

  -- elements of one rank, before those of another one, in a list that is sorted by ranks
  pub apart_by_ranks : (r : X → ℕ) (F : X → Type 0) → ((x y : X) → F x → F y → r y < r x → lo (p x) (p y) ≡ false)
      → (xs0 xs : List X) (at end rank : ℕ) → Runs xs0 xs at → at < end → All F xs0 → IsSortedByKey r nat_cmp xs0
      → HoldsAt (λ x. r x ≡ rank) xs at → AllWithin (λ x. r x ≡ rank) xs (at + 1) end → (end < length xs → HoldsAt (λ x. r x ≢ rank) xs end)
      → (i j : ℕ) (d : X) → at ≤ i → i < end → end ≤ j → j < length xs → lo (p (get_or xs j d)) (p (get_or xs i d)) ≡ false
  apart_by_ranks r F less xs0 xs at end rank h more facts up here same next i j d a b e l =
      let rising = IsNonDecreasingBy-from_sort r xs0 up in
      let was : (k : ℕ) → at ≤ k → get_or xs k d ≡ get_or xs0 k d = λ k le. same_after xs0 xs at h k d le in
      let low : r (get_or xs i d) ≡ rank = by_place (cases_lt at i) in
      let high : r (get_or xs end d) ≢ rank = next (omega arith) d in
      let x0 : r (get_or xs0 i d) ≡ rank = ap r (sym (was i a)) ∙ low in
      let y0 : r (get_or xs0 end d) ≢ rank = λ q. high (ap r (was end (omega arith)) ∙ q) in
      let up1 : r (get_or xs0 i d) ≤ r (get_or xs0 end d) = rising i end d (omega arith) (omega (arith, h.long)) in
      let up2 : r (get_or xs0 end d) ≤ r (get_or xs0 j d) = rising end j d e (omega (arith, h.long)) in
      (λ k. lo (p (was j (omega arith) k)) (p (was i a k)))
      ∙ less (get_or xs0 j d) (get_or xs0 i d) (facts j d (omega (arith, h.long))) (facts i d (omega (arith, h.long))) (omega (arith, x0, y0, up1, up2))
    where
      by_place : ((at < i) ⊎ (i ≤ at)) → r (get_or xs i d) ≡ rank
      by_place (inl q) = same i d (omega arith) b
      by_place (inr q) = let e : i ≡ at = omega arith in ap (λ (k : ℕ). r (get_or xs k d)) e ∙ here d
