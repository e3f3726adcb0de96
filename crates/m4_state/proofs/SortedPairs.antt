-- The pairs of entries, sorted by their names, are the pairs in byte order.
use Rattle.std.proofs.Common.{◌≡◌, ℕ, ◌+◌, ◌<◌, Bool, true, false, cond, ◌&&◌, T, List, [], ◌∷◌, ◌++◌, map, drop}
use Rattle.std.proofs.Common.{get_or, slice_get, length, Some, Ordering, Less, Equal, Greater, nat_eq, refl, sym, ap}
use Rattle.std.proofs.Common.{subst, ◌∙◌, arith}
use Rattle.std.specs.List.{All, AllByRecursion, IsDistinct, range_with_len}
use Rattle.std.specs.List.Sorted.{IsSortedBy, IsPermutation, IsStrictlySortedBy}
use Rattle.std.specs.Ordering.{is_lt, is_eq, ordering_reverse, eq_by_cmp}
use Rattle.std.specs.Cmp.Lexicographic.{pointwise, texts_ties, nat_list_cmp_total, nat_list_eq_equiv}
use Rattle.std.specs.Map.{keys_of, lookup}
use Rattle.std.specs.FinMap.{find, is_sorted}
use Rattle.std.specs.FinMap.Entries.{below_all, same_entries}
use Rattle.std.proofs.lemmas.List.{get_or-map, length-map, drop_more, append_assoc}
use Rattle.std.proofs.lemmas.Option.{get_or_from_slice_get}
use Rattle.std.proofs.lemmas.List.FromFn.{fill_by_all, get_or-range_with_len, length-range_with_len}
use Rattle.std.proofs.lemmas.List.Sorted.{IsPermutation-map, All-permutation}
use Rattle.std.proofs.lemmas.Map.Keys.{sorted_head, sorted_tail, sorted_from_all_adjacent, apart_from_distinct, IsDistinct-IsPermutation}
use Rattle.indexmap.proofs.MapLemmas.{lookup_permutation}
use Rattle.m4_state.specs.Entries.{Entry, pair_of, pair_at, in_order}
use Rattle.m4_state.specs.Table.{Pair, Pairs, byte_order}
use Rattle.m4_state.proofs.Tables.{byte_order-IsAntisymmetric}
use Rattle.m4_state.proofs.RankOrder.{before, All-from_places}
use Rattle.m4_state.proofs.InOrder.{has_bytes, same_key, sorted_in_order, find-in_order}

-- names that differ as keys differ as bytes
pub distinct_names : (es : List Entry) → IsDistinct same_key (keys_of es) → IsDistinct (pointwise nat_eq) (keys_of (map pair_of es))
unfolding IsDistinct
distinct_names [] h = tt
distinct_names (e ∷ es) h = (each es h.0, distinct_names es h.1)
  where
    each : (fs : List Entry) → AllByRecursion (λ y. same_key e.0 y ≡ false) (keys_of fs)
        → AllByRecursion (λ y. pointwise nat_eq e.0 y ≡ false) (keys_of (map pair_of fs))
    each [] h = tt
    each (f ∷ fs) h = (h.0, each fs h.1)

-- neither less nor equal the other way round
rising : (r : Ordering) → is_lt r ≡ false → is_eq r ≡ false → ordering_reverse r ≡ Less
rising Less a b = absurd cc
rising Equal a b = absurd cc
rising Greater a b = refl

-- distinct names in order rise strictly
strictly : (ns : List (List ℕ)) → IsSortedBy (λ x y. is_lt (byte_order x y)) ns → IsDistinct (pointwise nat_eq) ns → IsStrictlySortedBy byte_order ns
strictly ns up apart =
    sorted_from_all_adjacent nat_list_cmp_total ns [] (λ k lt.
    let x = get_or ns k [] in
    let y = get_or ns (k + 1) [] in
    let differ : eq_by_cmp byte_order y x ≡ false = sym (texts_ties y x) ∙ nat_list_eq_equiv.symm y x
    ∙ apart_from_distinct (pointwise nat_eq) ns k (k + 1) [] apart (omega arith) lt in
    nat_list_cmp_total.antisymm x y ∙ rising (byte_order y x) (up k [] (omega arith) lt) differ)

both : (a b : Bool) → T a → T b → T (a && b)
both true b p q = q
both false b p q = absurd p

-- so do pairs whose names do
rising_pairs : (ps : Pairs) → IsStrictlySortedBy byte_order (keys_of ps) → T (is_sorted byte_order ps)
rising_pairs [] h = tt
rising_pairs (p ∷ ps) h = both _ _ (below ps (sorted_head byte_order p.0 (keys_of ps) h)) (rising_pairs ps (sorted_tail byte_order p.0 (keys_of ps) h))
  where
    below : (qs : Pairs) → AllByRecursion (λ y. byte_order p.0 y ≡ Less) (keys_of qs) → T (below_all byte_order p.0 qs)
    below [] h = tt
    below (q ∷ qs) h = both _ _ (subst (λ (r : Ordering). T (is_lt r)) (sym h.0) tt) (below qs h.1)

-- a look-up by order is one by equality
find_is_lookup : (q : List ℕ) (ps : Pairs) → find byte_order q ps ≡ lookup (pointwise nat_eq q) ps
find_is_lookup q [] = refl
find_is_lookup q (p ∷ ps) = λ j. cond (sym (texts_ties q p.0) j) (Some p.1) (find_is_lookup q ps j)

-- and the pairs have what the entries have
lookup_pairs : (q : List ℕ) (es : List Entry) → lookup (pointwise nat_eq q) (map pair_of es) ≡ lookup (has_bytes q) es
lookup_pairs q [] = refl
lookup_pairs q (e ∷ es) = ap (cond (has_bytes q e.0) (Some e.1)) (lookup_pairs q es)

-- pairs in the order of their names have names in order
sorted_names : (ps : Pairs) → IsSortedBy (λ x y. is_lt (byte_order x.0 y.0)) ps → IsSortedBy (λ x y. is_lt (byte_order x y)) (keys_of ps)
sorted_names [] up k d low lt = absurd (omega arith)
sorted_names (p ∷ ps) up k d low lt =
    let name : Pair → List ℕ = λ q. q.0 in
    let count = length-map (p ∷ ps) name in
    let within : k + 1 < length (p ∷ ps) = omega (arith, count) in
    (λ j. is_lt (byte_order (get_or-map name (p ∷ ps) (k + 1) p d within j) (get_or-map name (p ∷ ps) k p d (omega arith) j))) ∙ up k p low within

-- the pairs of the entries, sorted by their names
pub sorted_in_byte_order : (es : List Entry) (given moved : Pairs) → given ≡ map pair_of es
    → IsDistinct (pointwise nat_eq) (keys_of given) → IsPermutation given moved
    → IsSortedBy (λ x y. is_lt (byte_order x.0 y.0)) moved
    → moved ≡ in_order es
sorted_in_byte_order es given moved is apart moves up =
    let apart_moved = IsDistinct-IsPermutation (pointwise nat_eq) nat_list_eq_equiv.symm (keys_of given) (keys_of moved)
    (IsPermutation-map (λ (p : Pair). p.0) given moved moves) apart in
    same_entries byte_order nat_list_cmp_total byte_order-IsAntisymmetric moved (in_order es)
    (rising_pairs moved (strictly (keys_of moved) (sorted_names moved up) apart_moved)) (sorted_in_order es)
    (λ q. find_is_lookup q moved ∙ lookup_permutation nat_list_eq_equiv given moved moves apart_moved (pointwise nat_eq q) (nat_list_eq_equiv.congr q)
    ∙ ap (lookup (pointwise nat_eq q)) is ∙ lookup_pairs q es ∙ sym (find-in_order q es))

-- the pairs at all places are those of the entries
pairs_at : (es : List Entry) → map (pair_at es) (range_with_len 0 (length es)) ≡ map pair_of es
pairs_at es = sym (fill_by_all (pair_at es) (map pair_of es) (length es) ([], []) (length-map es pair_of) (λ k l. get_or-map pair_of es k ([], []) ([], []) l))

module _ {X : Type 0} (p : X → ℕ) (es : List Entry) (xs : List X) (moves : IsPermutation (range_with_len 0 (length es)) (map p xs)) where
  -- each place is within the entries
  pub within_places : All (λ x. p x < length es) xs
  within_places =
      All-from_places p (λ i. i < length es) xs (All-permutation (λ i. i < length es) (range_with_len 0 (length es)) (map p xs) moves (λ k d l.
      let within : 0 + k < length es = omega (arith, l, length-range_with_len 0 (length es)) in
      subst (λ (i : ℕ). i < length es) (sym (get_or-range_with_len 0 (length es) k d (omega (arith, within)))) within))

  -- the pairs at places that are sorted by their names
  pub sorted_by_places : IsDistinct same_key (keys_of es) → IsSortedBy (λ x y. before es (p x) (p y)) xs → map (λ x. pair_at es (p x)) xs ≡ in_order es
  sorted_by_places apart up =
      sorted_in_byte_order es (map (pair_at es) (range_with_len 0 (length es))) (map (λ x. pair_at es (p x)) xs) (pairs_at es)
      (subst (λ (ps : Pairs). IsDistinct (pointwise nat_eq) (keys_of ps)) (sym (pairs_at es)) (distinct_names es apart))
      (subst (IsPermutation (map (pair_at es) (range_with_len 0 (length es)))) (composed xs)
      (IsPermutation-map (pair_at es) (range_with_len 0 (length es)) (map p xs) moves))
      (sorted xs up)
    where
      composed : (ys : List X) → map (pair_at es) (map p ys) ≡ map (λ x. pair_at es (p x)) ys
      composed [] = refl
      composed (y ∷ ys) = ap (λ (ps : Pairs). pair_at es (p y) ∷ ps) (composed ys)

      sorted : (ys : List X) → IsSortedBy (λ x y. before es (p x) (p y)) ys → IsSortedBy (λ x y. is_lt (byte_order x.0 y.0)) (map (λ x. pair_at es (p x)) ys)
      sorted [] rises k d low lt = absurd (omega arith)
      sorted (y ∷ ys) rises k d low lt =
          let pair : X → Pair = λ x. pair_at es (p x) in
          let within : k + 1 < length (y ∷ ys) = omega (arith, lt, length-map (y ∷ ys) pair) in
          (λ j. is_lt (byte_order (get_or-map pair (y ∷ ys) (k + 1) y d within j).0 (get_or-map pair (y ∷ ys) k y d (omega arith) j).0)) ∙ rises k y low within

-- one more pair, of the entry at the place of the next element
pub pair_more : {X : Type 0} (p : X → ℕ) (es : List Entry) (xs : List X) (i : ℕ) (d : X) (done now : Pairs) (e : Entry)
    → i < length xs → slice_get es (p (get_or xs i d)) ≡ Some e
    → now ≡ done ++ (e.0, e.1) ∷ [] → done ++ map (λ x. pair_at es (p x)) (drop i xs) ≡ map (λ x. pair_at es (p x)) xs
    → now ++ map (λ x. pair_at es (p x)) (drop (i + 1) xs) ≡ map (λ x. pair_at es (p x)) xs
pair_more p es xs i d done now e l here is all =
    let pairs = map (λ x. pair_at es (p x)) in
    let first : (e.0, e.1) ≡ pair_at es (p (get_or xs i d)) = ap pair_of (sym (get_or_from_slice_get es (p (get_or xs i d)) e ([], []) here)) in
    ap (λ (ps : Pairs). ps ++ pairs (drop (i + 1) xs)) is ∙ append_assoc done ((e.0, e.1) ∷ []) (pairs (drop (i + 1) xs))
    ∙ ap (λ (q : Pair). done ++ q ∷ pairs (drop (i + 1) xs)) first ∙ ap (λ l. done ++ pairs l) (sym (drop_more xs i d l)) ∙ all
