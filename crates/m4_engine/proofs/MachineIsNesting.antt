-- MachineIsNesting: a stack of open calls comes to the same as the nested expansion.
use Rattle.std.proofs.Common.{◌≡◌, ℕ, List, [], ◌∷◌, refl, sym, ap, ◌∙◌}
use Rattle.m4_engine.specs.Nesting.{Turn, Halt, Close, GoOn, Bare, Opens, Outcome, Halted, Closed, then_on, after}
use Rattle.m4_engine.specs.Nesting.{expansion, Falls}
use Rattle.m4_engine.specs.OpenCalls.{Stacked, pop, close, take_turn, move, resume, meaning, moved_meaning}
use Rattle.m4_engine.proofs.Bounds.{expansion_is}

module _ (S F D : Type 0) (turn : S → Turn S F D) (join : F → S → Outcome S D) where
  pub resume-halted : (whole : S → Outcome S D) (fs : List F) (d : D) → resume S F D turn join whole fs (Halted d) ≡ Halted d
  resume-halted whole [] d = refl
  resume-halted whole (s ∷ ss) d = resume-halted whole ss d

module _ (S F D : Type 0) (turn : S → Turn S F D) (join : F → S → Outcome S D) (spent : S → D) (size left : S → ℕ)
    (falls : Falls S F D turn join size left) where
  abbrev all_of : S → Outcome S D
  all_of = expansion S F D turn join spent size left

  pub popped : (ss : List F) (o : Outcome S D)
      → moved_meaning S F D turn join all_of (pop S F D turn join ss o) ≡ resume S F D turn join all_of ss (then_on o all_of)
  popped ss (Halted d) = sym (resume-halted S F D turn join all_of ss d)
  popped ss (Closed s) = refl

  closed : (ss : List F) (t : S) → moved_meaning S F D turn join all_of (close S F D turn join ss t) ≡ resume S F D turn join all_of ss (Closed t)
  closed [] t = refl
  closed (s ∷ ss) t = popped ss (join s t)

  turned : (ss : List F) (v : Turn S F D)
      → moved_meaning S F D turn join all_of (take_turn S F D turn join ss v)
      ≡ resume S F D turn join all_of ss (after S F D join all_of all_of v)
  turned ss (Halt d) = sym (resume-halted S F D turn join all_of ss d)
  turned ss (Close t) = closed ss t
  turned ss (GoOn t) = refl
  turned ss (Bare t) = refl
  turned ss (Opens f t) = refl

  -- a turn of the machine changes nothing of what it comes to
  pub move_keeps : (c : Stacked S F) → moved_meaning S F D turn join all_of (move S F D turn join c) ≡ meaning S F D turn join all_of c
  move_keeps c = turned c.outer (turn c.here) ∙ ap (resume S F D turn join all_of c.outer) (sym (expansion_is S F D turn join spent size left falls c.here))
