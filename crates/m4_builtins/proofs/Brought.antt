-- Brought: one diversion more is brought back, of a list of numbers or of an argument.
use Rattle.std.proofs.Common.{◌≡◌, ℕ, ◌+◌, ◌<◌, suc, ℤ, pos, List, [], ◌∷◌, ◌++◌, length, drop, drop-cons, add-one}
use Rattle.std.proofs.Common.{get_or, Option, Some, None, refl, sym, ap, ◌∙◌, append_assoc, append-nil}
use Rattle.std.specs.Prelude.{Vec, option_map, option_to_list}
use Rattle.std.specs.List.{cons_option}
use Rattle.std.proofs.lemmas.Option.{same_Some}
use Rattle.std.specs.declared.alloc.Global.{Global}
use Rattle.m4_state.specs.State.{State, undiverted, issued_from, unless_empty}
use Rattle.m4_builtins.specs.Diverting.{brought_back, issued_by_all}

-- a text that was handed out, or none
abbrev pub handed_out : Option (Vec ℕ Global) → List ℕ
handed_out None = []
handed_out (Some text) = text.items

-- what is handed out is what the definition issues
pub handed_out-is : (r : Option (Vec ℕ Global)) (x : List ℕ) → option_map (λ t. t.items) r ≡ unless_empty x → handed_out r ≡ x
handed_out-is None [] h = refl
handed_out-is None (b ∷ x) h = absurd cc
handed_out-is (Some text) [] h = absurd cc
handed_out-is (Some text) (b ∷ x) h = same_Some text.items (b ∷ x) h

module _ (numbers : List ℤ) (i : ℕ) (n : ℤ) (s t : State) (here : i < length numbers) (is : get_or numbers i (pos 0) ≡ n) (step : t ≡ undiverted s n) where
  left : drop i numbers ≡ n ∷ drop (i + 1) numbers
  left = drop-cons numbers i (pos 0) here ∙ ap (λ (m : ℤ). m ∷ drop (suc i) numbers) is ∙ ap (λ (j : ℕ). n ∷ drop j numbers) (sym (add-one i))

  -- the rest leads to the same state
  pub state-next : (all : State) → brought_back (drop i numbers) s ≡ all → brought_back (drop (i + 1) numbers) t ≡ all
  state-next all h =
      ap (brought_back (drop (i + 1) numbers)) step ∙ sym (ap (λ (ns : List ℤ). brought_back ns s) left) ∙ h

  -- and to the same output
  pub output-next : (r : Option (Vec ℕ Global)) (out new all : List ℕ)
      → option_map (λ t. t.items) r ≡ unless_empty (issued_from s n) → new ≡ out ++ handed_out r
      → out ++ issued_by_all (drop i numbers) s ≡ all → new ++ issued_by_all (drop (i + 1) numbers) t ≡ all
  output-next r out new all given written h =
      ap (λ (x : List ℕ). x ++ issued_by_all (drop (i + 1) numbers) t) (written ∙ ap (λ (x : List ℕ). out ++ x) (handed_out-is r (issued_from s n) given))
      ∙ ap (λ (u : State). (out ++ issued_from s n) ++ issued_by_all (drop (i + 1) numbers) u) step
      ∙ append_assoc out (issued_from s n) (issued_by_all (drop (i + 1) numbers) (undiverted s n))
      ∙ sym (ap (λ (ns : List ℤ). out ++ issued_by_all ns s) left)
      ∙ h

-- an argument's diversion, or none, is brought back: the others lead to the same state, and to the same output
pub each-next : (o : Option ℤ) (others : List ℤ) (s t : State) (out new : List ℕ)
    → t ≡ brought_back (option_to_list o) s → new ≡ out ++ issued_by_all (option_to_list o) s
    → (brought_back others t ≡ brought_back (cons_option o others) s) × (new ++ issued_by_all others t ≡ out ++ issued_by_all (cons_option o others) s)
each-next None others s t out new step written = (
  ap (brought_back others) step,
  ap (λ (x : List ℕ). x ++ issued_by_all others t) (written ∙ append-nil out) ∙ ap (λ (u : State). out ++ issued_by_all others u) step,
)
each-next (Some n) others s t out new step written = (
  ap (brought_back others) step,
  ap (λ (x : List ℕ). x ++ issued_by_all others t) (written ∙ ap (λ (x : List ℕ). out ++ x) (append-nil (issued_from s n)))
      ∙ append_assoc out (issued_from s n) (issued_by_all others t)
      ∙ ap (λ (u : State). out ++ (issued_from s n ++ issued_by_all others u)) step,
)
