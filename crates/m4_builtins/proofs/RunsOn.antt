-- RunsOn: a run of bytes that pass a test, seen from a place in it.
use Rattle.std.proofs.Common.{◌≡◌, ◌≤◌, ◌+◌, suc, Bool, true, false, ℕ, List, [], ◌∷◌, drop, zero, arith}
use Rattle.m4_input.specs.Token.{run_length}

pub run_from : (f : ℕ → Bool) (k : ℕ) (x : List ℕ) → k ≤ run_length f x → k + run_length f (drop k x) ≡ run_length f x
run_from f zero x h = omega arith
run_from f (suc k) [] h = absurd (omega (arith, h))
run_from f (suc k) (b ∷ x) h = by (f b) h (run_from f k x)
  where
    by : (v : Bool) → suc k ≤ elim v [ true ↦ suc (run_length f x) | false ↦ 0 ]
        → (k ≤ run_length f x → k + run_length f (drop k x) ≡ run_length f x)
        → suc k + run_length f (drop k x) ≡ elim v [ true ↦ suc (run_length f x) | false ↦ 0 ]
    by true l rest = let same = rest (omega (arith, l)) in omega (arith, same)
    by false l rest = absurd (omega (arith, l))
