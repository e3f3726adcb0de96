-- Prefixes: a run is the longest prefix whose bytes pass a test.
use Rattle.std.proofs.Common.{◌≡◌, ◌+◌, ℕ, suc, Bool, true, false, cond, List, [], ◌∷◌, refl, arith}
use Rattle.std.specs.List.{prefix_len}
use Rattle.m4_input.specs.Token.{run_length}

pub run_is_prefix : (f : ℕ → Bool) (x : List ℕ) → run_length f x ≡ prefix_len f x
run_is_prefix f [] = refl
run_is_prefix f (b ∷ x) = by (f b) (run_is_prefix f x)
  where
    by : (v : Bool) → run_length f x ≡ prefix_len f x → elim v [ true ↦ suc (run_length f x) | false ↦ 0 ] ≡ cond v (1 + prefix_len f x) 0
    by true same = omega (arith, same)
    by false same = refl
