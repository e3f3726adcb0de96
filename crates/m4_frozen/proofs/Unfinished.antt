-- Bytes that begin with the mark of a file that was not finished.
use Rattle.std.proofs.Common.{◌≡◌, ◌-◌, ℕ, true, List, [], ◌∷◌, length, inl, inr, refl, subst, sym, arith}
use Rattle.std.specs.Prelude.{◌⊎◌}
use Rattle.m4_frozen.specs.declared.fault.FrozenKind.TheVariants as kinds
use Rattle.m4_frozen.specs.FaultAt.{FaultAt}
use Rattle.m4_frozen.specs.Laws.{IsOnlyRead, IsOnlyRefused, IsRefusedAtOnce}
use Rattle.m4_frozen.specs.Unfinished.{is_marked}
use Rattle.m4_frozen.specs.ReaderSteps.{file_at, length_at, version_at, string_at, directive_at, directives_at}
use Rattle.std.proofs.lemmas.Bool.{eqb-true}
use Rattle.m4_frozen.proofs.Answered.{refusal_is_fault, one_answer}
use Rattle.m4_frozen.proofs.Examples.{empty_file}

minus_self : (n : ℕ) → n - n ≡ 0
minus_self n = omega arith

zero_fault : (bs : List ℕ) → FaultAt (0 ∷ bs) (record { kind = kinds.NoVersion; offset = 0 })
unfolding file_at length_at version_at string_at directive_at directives_at
zero_fault bs =
    subst (λ (n : ℕ). FaultAt (0 ∷ bs) (record { kind = kinds.NoVersion; offset = n })) (minus_self (length (0 ∷ bs)))
    (refusal_is_fault (record { kind = kinds.NoVersion; bytes_left = length (0 ∷ bs) }) (0 ∷ bs) refl)

marked_fault : (bytes : List ℕ) → is_marked bytes ≡ true → FaultAt bytes (record { kind = kinds.NoVersion; offset = 0 })
marked_fault [] m = empty_file
marked_fault (b ∷ bs) m =
    subst (λ (x : ℕ). FaultAt (x ∷ bs) (record { kind = kinds.NoVersion; offset = 0 })) (sym (eqb-true b 0 m)) (zero_fault bs)

refused_at_once : (bytes : List ℕ) → FaultAt bytes (record { kind = kinds.NoVersion; offset = 0 })
    → IsOnlyRead bytes ⊎ IsOnlyRefused bytes → IsRefusedAtOnce bytes
refused_at_once bytes f (inl r) = absurd (r.no_fault _ f)
refused_at_once bytes f (inr r) = record { refused = r; at_once = sym (r.only _ f) }

pub unfinished_refused : (bytes : List ℕ) → is_marked bytes ≡ true → IsRefusedAtOnce bytes
unfinished_refused bytes m = refused_at_once bytes (marked_fault bytes m) (one_answer bytes)
