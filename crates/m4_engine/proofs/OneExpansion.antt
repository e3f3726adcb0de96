-- OneExpansion: only one function gives for each expansion the result of its turns.
use Rattle.std.proofs.Common.{◌≡◌, ap, ◌∙◌}
use Rattle.m4_engine.specs.Nesting.{Outcome, then_on, after}
use Rattle.m4_engine.specs.Expansion.{Expansion, Kept, Ended}
use Rattle.m4_engine.specs.Expand.{turn, join, out_of_bound_at, size_of, calls_left, expand}
use Rattle.m4_engine.specs.Laws.{FollowsTurns}
use Rattle.m4_engine.proofs.ByRules.{Rules, holds}
use Rattle.m4_engine.proofs.CallsFall.{falls}

module _ (f : Expansion → Outcome Expansion Ended) (follows : FollowsTurns f) where
  rules : Rules Expansion Kept Ended turn join (λ s o. f s ≡ o)
  rules = record {
    halt = λ s d e. follows s ∙ ap (after Expansion Kept Ended join f f) e;
    close = λ s t e. follows s ∙ ap (after Expansion Kept Ended join f f) e;
    go_on = λ s t o e p. follows s ∙ ap (after Expansion Kept Ended join f f) e ∙ p;
    bare = λ s t o e p. follows s ∙ ap (after Expansion Kept Ended join f f) e ∙ p;
    list_halts = λ s t kept d e p.
        follows s ∙ ap (after Expansion Kept Ended join f f) e ∙ ap (λ o. then_on (then_on o (join kept)) f) p;
    call_halts = λ s t u kept d e p j.
        follows s ∙ ap (after Expansion Kept Ended join f f) e ∙ ap (λ o. then_on (then_on o (join kept)) f) p
        ∙ ap (λ o. then_on o f) j;
    joins = λ s t u w kept o e p j q.
        follows s ∙ ap (after Expansion Kept Ended join f f) e ∙ ap (λ o. then_on (then_on o (join kept)) f) p
        ∙ ap (λ o. then_on o f) j ∙ q;
  }

  -- each other one gives what `expand` gives
  pub is_expand : (s : Expansion) → f s ≡ expand s
  is_expand = holds Expansion Kept Ended turn join out_of_bound_at size_of calls_left falls (λ s o. f s ≡ o) rules
