-- Replaced: a run of bytes from its front.
use Rattle.std.proofs.Common.{◌≡◌, ℕ, zero, suc, ◌+◌, ◌-◌, ◌<◌, ◌≤◌, List, [], ◌∷◌, ◌++◌, true, false, refl, sym, ap, ◌∙◌, arith, append_assoc}
use Rattle.std.specs.Prelude.{nat_lt}
use Rattle.std.proofs.lemmas.Bool.Decides.{nat_tests}
use Rattle.m4_builtins.specs.Translit.{bytes_between}

below : (a b : ℕ) → a < b → nat_lt a b ≡ true
below a b h = grind (arith, nat_tests)

not_below : (a b : ℕ) → b ≤ a → nat_lt a b ≡ false
not_below a b h = grind (arith, nat_tests)

-- the first byte of a run that rises, of one that falls, and none of one to where it is
pub between-rises : (byte to : ℕ) → byte < to → bytes_between byte to ≡ (byte + 1) ∷ bytes_between (byte + 1) to
between-rises byte to lt = by (to - (byte + 1)) refl
  where
    by : (d : ℕ) → to - (byte + 1) ≡ d → bytes_between byte to ≡ (byte + 1) ∷ bytes_between (byte + 1) to
    by zero e =
        let one : to - byte ≡ suc zero = omega arith in
        let none : byte + 1 - to ≡ 0 = omega arith in
        rw (below byte to lt, not_below (byte + 1) to (omega arith), one, none) refl
    by (suc d) e =
        let more : to - byte ≡ suc (to - (byte + 1)) = omega arith in
        rw (below byte to lt, below (byte + 1) to (omega arith), more) refl

pub between-falls : (byte to : ℕ) → to < byte → bytes_between byte to ≡ (byte - 1) ∷ bytes_between (byte - 1) to
between-falls byte to lt =
    let more : byte - to ≡ suc (byte - 1 - to) = omega arith in
    rw (not_below byte to (omega arith), not_below (byte - 1) to (omega arith), more) refl

pub between-none : (byte to : ℕ) → byte ≡ to → bytes_between byte to ≡ []
between-none byte to is =
    let none : byte - to ≡ 0 = omega arith in
    rw (not_below byte to (omega arith), none) refl

-- the first byte of a run was added
pub between-next : (out new all : List ℕ) (byte next to : ℕ) → bytes_between byte to ≡ next ∷ bytes_between next to → new ≡ out ++ next ∷ []
    → out ++ bytes_between byte to ≡ all → new ++ bytes_between next to ≡ all
between-next out new all byte next to first pushed inv =
    ap (λ (x : List ℕ). x ++ bytes_between next to) pushed
    ∙ append_assoc out (next ∷ []) (bytes_between next to)
    ∙ ap (λ (x : List ℕ). out ++ x) (sym first)
    ∙ inv
