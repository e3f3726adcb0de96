-- A key above all keys of a list of pairs: it is not found, and `put` has it at the end.
use Rattle.std.proofs.Common.{◌≡◌, List, [], ◌∷◌, ◌++◌, Some, None, Ordering, Less, Greater, refl, ap, ◌∙◌}
use Rattle.std.specs.Prelude.{IsTrue}
use Rattle.std.specs.List.{AllByRecursion}
use Rattle.std.specs.Ordering.{ordering_reverse}
use Rattle.std.specs.Cmp.{IsTotalOrder, tied_itself}
use Rattle.std.specs.FinMap.Entries.{find, put, is_sorted}
use Rattle.m4_state.proofs.Pairs.{both, less}

-- what is below a key has that key above it
above : {K : Type 0} (R : K → K → Ordering) → IsTotalOrder R → (k x : K) → R x k ≡ Less
    → R k x ≡ Greater
above R o k x lt = o.antisymm k x ∙ ap ordering_reverse lt

module _ {K X : Type 0} (R : K → K → Ordering) (o : IsTotalOrder R) where
  -- each key is below this one
  abbrev pub AreBelow : List (K × X) → K → Type 0
  AreBelow es k = AllByRecursion (λ e. R e.0 k ≡ Less) es

  -- each key of the first list is below the first key of the second
  abbrev pub AreBelowFirst : List (K × X) → List (K × X) → Type 0
  AreBelowFirst done [] = Unit {0}
  AreBelowFirst done (e ∷ es) = AreBelow done e.0

  pub find-missing : (k : K) (es : List (K × X)) → AreBelow es k → find R k es ≡ None
  find-missing k [] below = refl
  find-missing k (e ∷ es) below = rw (above R o k e.0 below.0) (find-missing k es below.1)

  pub put-missing : (k : K) (v : X) (es : List (K × X)) → AreBelow es k
      → put R k v es ≡ es ++ (k, v) ∷ []
  put-missing k v [] below = refl
  put-missing k v (e ∷ es) below =
      rw (above R o k e.0 below.0)
      (ap (λ (rest : List (K × X)). e ∷ rest) (put-missing k v es below.1))

  -- once it is there, it is found
  pub find-last : (k : K) (v : X) (es : List (K × X)) → AreBelow es k
      → find R k (es ++ (k, v) ∷ []) ≡ Some v
  find-last k v [] below = rw (tied_itself o k) refl
  find-last k v (e ∷ es) below = rw (above R o k e.0 below.0) (find-last k v es below.1)

  -- and written over
  pub put-last : (k : K) (v w : X) (es : List (K × X)) → AreBelow es k
      → put R k w (es ++ (k, v) ∷ []) ≡ es ++ (k, w) ∷ []
  put-last k v w [] below = rw (tied_itself o k) refl
  put-last k v w (e ∷ es) below =
      rw (above R o k e.0 below.0)
      (ap (λ (rest : List (K × X)). e ∷ rest) (put-last k v w es below.1))

  -- what is below a key is below a greater one
  AreBelow-trans : (k m : K) (es : List (K × X)) → AreBelow es k → R k m ≡ Less → AreBelow es m
  AreBelow-trans k m [] below lt = tt
  AreBelow-trans k m (e ∷ es) below lt =
      (o.trans e.0 k m below.0 lt, AreBelow-trans k m es below.1 lt)

  AreBelow-push : (m : K) (es : List (K × X)) (e : K × X) → AreBelow es m → R e.0 m ≡ Less
      → AreBelow (es ++ e ∷ []) m
  AreBelow-push m [] e below lt = (lt, tt)
  AreBelow-push m (x ∷ es) e below lt = (below.0, AreBelow-push m es e below.1 lt)

  -- where the keys rise, the first pair may go to those before it
  pub AreBelowFirst-next : (done : List (K × X)) (e : K × X) (es : List (K × X))
      → IsTrue (is_sorted R (e ∷ es)) → AreBelow done e.0 → AreBelowFirst (done ++ e ∷ []) es
  AreBelowFirst-next done e [] sorted below = tt
  AreBelowFirst-next done e (x ∷ es) sorted below =
      let lt : R e.0 x.0 ≡ Less = less _ (both _ _ (both _ _ sorted).0).0 in
      AreBelow-push x.0 done e (AreBelow-trans e.0 x.0 done below lt) lt
