-- Measures: a number that falls where fewer bytes are left, and where as many are left and more of them were looked at.
use Rattle.std.proofs.Common.{◌≡◌, ℕ, zero, suc, ◌+◌, ◌-◌, ◌<◌, ◌≤◌, ◌⊎◌, inl, inr, ap, arith}

-- more than n numbers for each n, so that each n has some for the bytes looked at
pub steps : ℕ → ℕ
steps zero = 0
steps (suc n) = suc (suc n) + steps n

steps_grow : (n d : ℕ) → steps n ≤ steps (n + d)
unfolding steps
steps_grow n zero =
    let same : steps (n + 0) ≡ steps n = let e : n + 0 ≡ n = omega arith in ap steps e in
    omega (arith, same)
steps_grow n (suc d) =
    let rest : steps n ≤ steps (n + d) = steps_grow n d in
    let more : steps (n + suc d) ≡ suc (suc (n + d)) + steps (n + d) = let e : n + suc d ≡ suc (n + d) = omega arith in ap steps e in
    omega (arith, rest, more)

-- a step less is so much less
steps_less : (n m : ℕ) → n < m → steps n + m < steps m
unfolding steps
steps_less n m h =
    let d : ℕ = m - suc n in
    let grow : steps n ≤ steps (n + d) = steps_grow n d in
    let e : m ≡ suc (n + d) = omega (arith, h) in
    let more : steps m ≡ suc (suc (n + d)) + steps (n + d) = ap steps e in
    omega (arith, grow, more, e)

-- of n bytes k were looked at
pub measure : ℕ → ℕ → ℕ
measure n k = steps n - k

many : (n : ℕ) → n ≤ steps n
unfolding steps
many zero = omega arith
many (suc n) = omega arith

pub measure_falls : (n m k l : ℕ) → k ≤ m → l ≤ n → (n < m) ⊎ ((n ≡ m) × (k < l)) → measure n l < measure m k
unfolding measure
measure_falls n m k l f g (inl h) =
    let less : steps n + m < steps m = steps_less n m h in
    omega (arith, less, f)
measure_falls n m k l f g (inr h) =
    let same : steps n ≡ steps m = ap steps h.0 in
    let some : m ≤ steps m = many m in
    let more : k < l = h.1 in
    let e : n ≡ m = h.0 in
    omega (arith, same, some, more, g, e)
