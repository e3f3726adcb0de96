-- ByteTables: a test holds of all bytes if it does of each, by computing.
use Rattle.std.proofs.Common.{◌≡◌, ◌<◌, ℕ, zero, suc, Bool, true, false, ◌&&◌, refl, arith, inl, inr}
use Rattle.std.specs.Bool.{beq}
use Rattle.std.proofs.lemmas.Bool.{cases_eq, and_parts}

-- the test holds below n
unfoldable pub all_below : (ℕ → Bool) → ℕ → Bool
all_below f zero = true
all_below f (suc n) = f n && all_below f n

pub at_each : (f : ℕ → Bool) (n : ℕ) → all_below f n ≡ true → (b : ℕ) → b < n → f b ≡ true
unfolding all_below
at_each f zero h b lt = absurd (omega arith)
at_each f (suc n) h b lt =
    let both = and_parts (f n) (all_below f n) h in
    elim (cases_eq b n) [ inl same ↦ rw same both.0 | inr other ↦ at_each f n both.1 b (omega arith) ]

-- two tests that agree
pub same : (x y : Bool) → beq x y ≡ true → x ≡ y
same true true h = refl
same true false h = cc
same false true h = cc
same false false h = refl
