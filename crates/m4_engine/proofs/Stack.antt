-- Stack: the open calls are the first ones of a stack, the innermost last.
use Rattle.std.proofs.Common.{◌≡◌, ℕ, zero, suc, ◌<◌, ◌≤◌, ◌+◌, ◌-◌, List, [], ◌∷◌, length, take, sym, ap, ◌∙◌, subst, arith}
use Rattle.std.specs.Prelude.{reverse, slice_set, slice_index_or}
use Rattle.std.proofs.lemmas.Grind.{common_steps}
use Rattle.std.proofs.lemmas.List.{take_more, take-set, reverse-append}
use Rattle.m4_engine.specs.Expansion.{Call}
use Rattle.m4_engine.specs.MachineView.{open_of}

-- the call above them is written
pub above_set : (xs : List Call) (k : ℕ) (c : Call) → open_of k (slice_set xs k c) ≡ open_of k xs
above_set xs k c = ap reverse (take-set xs k c)

-- some are open
pub some_open : (xs : List Call) (n : ℕ) (c : Call) (cs : List Call) → open_of n xs ≡ c ∷ cs → 0 < n
some_open xs zero c cs e = cc
some_open xs (suc n) c cs e = omega arith

pub same_first : (c d : Call) (cs ds : List Call) → c ∷ cs ≡ d ∷ ds → c ≡ d
same_first c d cs ds e = cc

pub same_rest : (c d : Call) (cs ds : List Call) → c ∷ cs ≡ d ∷ ds → cs ≡ ds
same_rest c d cs ds e = cc

-- the innermost is read
pub innermost_is : (xs : List Call) (n : ℕ) (c : Call) → 0 < n → n ≤ length xs → c ≡ slice_index_or xs (n - 1) c
    → open_of n xs ≡ c ∷ open_of (n - 1) xs
innermost_is xs n c z l h =
    let e : n - 1 + 1 ≡ n = omega (arith, z) in
    subst (λ (m : ℕ). open_of m xs ≡ c ∷ open_of (n - 1) xs) e
    (ap reverse (take_more xs (n - 1) c (omega (arith, z, l))) ∙ reverse-append (take (n - 1) xs) (slice_index_or xs (n - 1) c ∷ [])
    ∙ ap (λ (d : Call). d ∷ open_of (n - 1) xs) (sym h))

-- the innermost is written
pub innermost_set : (xs : List Call) (n : ℕ) (c : Call) → 0 < n → n ≤ length xs
    → open_of n (slice_set xs (n - 1) c) ≡ c ∷ open_of (n - 1) xs
innermost_set xs n c z l =
    innermost_is (slice_set xs (n - 1) c) n c z (grind (arith, common_steps)) (grind (arith, common_steps))
    ∙ ap (λ (cs : List Call). c ∷ cs) (above_set xs (n - 1) c)
