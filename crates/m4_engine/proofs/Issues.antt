-- Issues: the diversions issued one by one are their texts joined.
use Rattle.std.proofs.Common.{◌≡◌, ℕ, ℤ, List, ◌∷◌, ◌++◌, Option, sym, ap, ◌∙◌, append_assoc}
use Rattle.m4_state.proofs.CallerLaws.{with_bytes-append}
use Rattle.m4_state.specs.Device.{with_bytes, HasBegun}
use Rattle.m4_state.specs.State.{State}
use Rattle.m4_engine.specs.Wraps.{close}
use Rattle.m4_engine.proofs.Begins.{begun_after}

-- so much was issued, and the rest is left
pub record Issuing (s0 s : State) (out0 out : Option (List ℕ)) : Type 0 where
  pub front : List ℕ
  pub output : out ≡ with_bytes out0 front
  pub rest : front ++ close s ≡ close s0

-- the first diversion was taken out
close_is : (s s' : State) (n : ℤ) (text : List ℕ) → s ≡ record s' { diversions = (n, text) ∷ s'.diversions } → close s ≡ text ++ close s'
close_is s s' n text e = ap close e

pub issued_one : (s0 s s' : State) (n : ℤ) (text : List ℕ) (out0 out out' : Option (List ℕ)) → Issuing s0 s out0 out
    → s ≡ record s' { diversions = (n, text) ∷ s'.diversions } → out' ≡ with_bytes out text → Issuing s0 s' out0 out'
issued_one s0 s s' n text out0 out out' i e f = record {
  front = i.front ++ text;
  output = f ∙ ap (λ x. with_bytes x text) i.output ∙ with_bytes-append out0 i.front text;
  rest = append_assoc i.front text (close s') ∙ ap (λ x. i.front ++ x) (sym (close_is s s' n text e)) ∙ i.rest;
}

pub issue_breaks : (s0 s s' : State) (n : ℤ) (text : List ℕ) (out0 out out' : Option (List ℕ)) → Issuing s0 s out0 out
    → s ≡ record s' { diversions = (n, text) ∷ s'.diversions } → HasBegun out out' text → HasBegun out0 out' (close s0)
issue_breaks s0 s s' n text out0 out out' i e h =
    begun_after out0 out out' i.front text (close s') (close s0) i.output h
    (sym i.rest ∙ ap (λ x. i.front ++ x) (close_is s s' n text e) ∙ sym (append_assoc i.front text (close s')))
