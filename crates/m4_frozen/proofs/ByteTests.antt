-- What tests on bytes and numbers say.
use Rattle.std.proofs.Common.{◌≡◌, ℕ, ◌<◌, ◌≤◌, Bool, true, false, cond, ◌&&◌, ltb, eqb, refl, arith, inl, inr, ◌⊎◌}
use Rattle.std.proofs.lemmas.Bool.Decides.{nat_tests}

-- what holds on both sides of a test
pub by_test : {A : Type 0} (P : A → Type 0) (b : Bool) (x y : A) → (b ≡ true → P x)
    → (b ≡ false → P y) → P (cond b x y)
by_test P true x y f g = f refl
by_test P false x y f g = g refl

-- both sides of a conjunction hold
pub both_true : (a b : Bool) → a && b ≡ true → (a ≡ true) × (b ≡ true)
both_true true b e = (refl, e)
both_true false b e = absurd cc

-- a test comes out one way or the other
pub test : (b : Bool) → (b ≡ true) ⊎ (b ≡ false)
test true = inl refl
test false = inr refl

-- what the test for equality says
pub eq_of : (a b : ℕ) → eqb a b ≡ true → a ≡ b
eq_of a b e = grind (arith, nat_tests)

-- what the test for `<` says
pub lt_of : (a b : ℕ) → ltb a b ≡ true → a < b
lt_of a b e = grind (arith, nat_tests)

-- what it says where it fails
pub ge_of : (a b : ℕ) → ltb a b ≡ false → b ≤ a
ge_of a b e = grind (arith, nat_tests)
