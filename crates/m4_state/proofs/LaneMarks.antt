-- LaneMarks: the marks of bytes that are looked at together, and the run that the unmarked ones make.
use Rattle.std.proofs.Common.{◌≡◌, ℕ, zero, suc, ◌+◌, ◌-◌, ◌<◌, ◌≤◌, Bool, true, false, not, cond, List, [], ◌∷◌}
use Rattle.std.proofs.Common.{length, take, drop, length-drop, refl, ap, sym, ◌∙◌, arith}
use Rattle.std.proofs.lemmas.List.{drop-drop}
use Rattle.std.specs.List.{prefix_len}
use Rattle.std.specs.Simd.Lanes.{chunk}

-- bytes that are marked, and those that a run has
module _ (p f : ℕ → Bool) (opposite : (b : ℕ) → f b ≡ not (p b)) where
  abbrev unmarked : List ℕ → ℕ
  unmarked x = prefix_len (λ b. not (p b)) x

  abbrev longer : Bool → List ℕ → ℕ
  longer v x = cond v (1 + prefix_len f x) 0

  -- the run ends before the first n bytes do
  run_in_front : (n : ℕ) (x : List ℕ) → n ≤ length x → unmarked (take n x) < n → prefix_len f x ≡ unmarked (take n x)
  run_in_front zero x l h = absurd (omega (arith, h))
  run_in_front (suc n) [] l h = absurd (omega (arith, l))
  run_in_front (suc n) (b ∷ x) l h = ap (λ v. longer v x) (opposite b) ∙ by (not (p b)) h (run_in_front n x (omega (arith, l)))
    where
      by : (v : Bool) → cond v (1 + unmarked (take n x)) 0 < suc n
          → (unmarked (take n x) < n → prefix_len f x ≡ unmarked (take n x)) → longer v x ≡ cond v (1 + unmarked (take n x)) 0
      by true less rest = let same = rest (omega (arith, less)) in omega (arith, same)
      by false less rest = refl

  -- the first n bytes belong to the run
  run_through : (n : ℕ) (x : List ℕ) → n ≤ length x → unmarked (take n x) ≡ n → prefix_len f x ≡ n + prefix_len f (drop n x)
  run_through zero x l h = omega arith
  run_through (suc n) [] l h = absurd (omega (arith, l))
  run_through (suc n) (b ∷ x) l h = ap (λ v. longer v x) (opposite b) ∙ by (not (p b)) h (run_through n x (omega (arith, l)))
    where
      by : (v : Bool) → cond v (1 + unmarked (take n x)) 0 ≡ suc n
          → (unmarked (take n x) ≡ n → prefix_len f x ≡ n + prefix_len f (drop n x))
          → longer v x ≡ suc n + prefix_len f (drop n x)
      by true all rest = let same = rest (omega (arith, all)) in omega (arith, same)
      by false all rest = absurd (omega (arith, all))

  -- sixteen bytes from a place on, of which the first n are unmarked
  module _ (x : List ℕ) (i n : ℕ) (room : i + 16 ≤ length x) (is : n ≡ unmarked (chunk i 16 x)) where
    left : 16 ≤ length (drop i x)
    left = let len : length (drop i x) ≡ length x - i = length-drop i x in omega arith

    pub run_ends : n < 16 → prefix_len f (drop i x) ≡ n
    run_ends inside = run_in_front 16 (drop i x) left (omega (arith, is, inside)) ∙ sym is

    pub run_passes : n ≡ 16 → prefix_len f (drop i x) ≡ 16 + prefix_len f (drop (i + 16) x)
    run_passes all = run_through 16 (drop i x) left (sym is ∙ all) ∙ ap (λ y. 16 + prefix_len f y) (drop-drop 16 i x)
