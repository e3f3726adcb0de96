-- Names: the bytes of a name are no newlines.
use Rattle.std.proofs.Common.{◌≡◌, ◌+◌, ℕ, zero, suc, Bool, true, false, cond, List, [], ◌∷◌, take, drop, refl, sym}
use Rattle.std.proofs.Common.{ap, ◌∙◌, subst, arith}
use Rattle.std.specs.Prelude.{◌==◌}
use Rattle.std.proofs.lemmas.Bool.{eqb-true}
use Rattle.std.proofs.lemmas.List.Sums.{sum_by-cons}
use Rattle.m4_state.specs.declared.delimiters.Delimiters.{Delimiters}
use Rattle.m4_input.specs.declared.front.Scan.TheVariants.{Found}
use Rattle.m4_input.specs.declared.token.Token.TheVariants.{Name}
use Rattle.m4_input.specs.Ascii.{newline, is_name_byte}
use Rattle.m4_input.specs.Pending.{newlines_in}
use Rattle.m4_input.specs.Token.{run_length, scan}
use Rattle.m4_input.proofs.Scanned.{name_run}

not_newline : (b : ℕ) → is_name_byte b ≡ true → (b == newline) ≡ false
not_newline b h = by (b == newline) refl
  where
    by : (v : Bool) → (b == newline) ≡ v → v ≡ false
    by true e = sym (subst (λ (a : ℕ). is_name_byte a ≡ true) (eqb-true b newline e) h)
    by false e = refl

abbrev one_if : Bool → ℕ
one_if v = cond v 1 0

one_more : (b : ℕ) (x : List ℕ) → newlines_in (b ∷ x) ≡ one_if (b == newline) + newlines_in x
one_more b x = sum_by-cons (λ (a : ℕ). one_if (a == newline)) b x

run_has_none : (x : List ℕ) → newlines_in (take (run_length is_name_byte x) x) ≡ 0
run_has_none [] = refl
run_has_none (b ∷ x) = by (is_name_byte b) refl (run_has_none x)
  where
    by : (v : Bool) → is_name_byte b ≡ v → newlines_in (take (run_length is_name_byte x) x) ≡ 0
        → newlines_in (take (elim v [ true ↦ suc (run_length is_name_byte x) | false ↦ 0 ]) (b ∷ x)) ≡ 0
    by true e rest = one_more b (take (run_length is_name_byte x) x)
        ∙ ap (λ (v : Bool). one_if v + newlines_in (take (run_length is_name_byte x) x)) (not_newline b e) ∙ omega (arith, rest)
    by false e rest = refl

pub name_has_none : (q c : Delimiters) (m : Bool) (x t : List ℕ) (n : ℕ) → scan q c m x ≡ Found (Name t) n → newlines_in (take n x) ≡ 0
name_has_none q c m x t n h = ap (λ (k : ℕ). newlines_in (take k x)) (name_run q c m x t n h) ∙ run_has_none x

-- nor has a part of a text that has none
pub part_has_none : (a : ℕ) (x : List ℕ) → newlines_in x ≡ 0 → newlines_in (drop a x) ≡ 0
part_has_none zero x h = h
part_has_none (suc a) [] h = refl
part_has_none (suc a) (b ∷ x) h = let all : one_if (b == newline) + newlines_in x ≡ 0 = sym (one_more b x) ∙ h in part_has_none a x (omega (arith, all))
