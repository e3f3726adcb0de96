-- OpenCalls: an expansion as a machine that keeps its open calls on a stack.
-- Believed. Its law: `MomentsLead` (a turn of it changes nothing of what it comes to, which is the nested expansion).
-- Manual: "Macro invocation", "Macro arguments".
-- Words: Stacked, Move, move, resume, meaning.
use Rattle.std.specs.Prelude.{List, [], ◌∷◌}
use Rattle.m4_engine.specs.Nesting.{Turn, Halt, Close, GoOn, Bare, Opens, Outcome, Halted, Closed, then_on}

-- the parts that are kept of the outer levels, the innermost first, and the state of the current level
pub record Stacked (S F : Type 0) : Type 0 where
  pub outer : List F
  pub here : S

-- the outcome of one turn of the machine
pub data Move (S F D : Type 0) : Type 0 where
  Stops : Outcome S D → Move S F D
  Goes : Stacked S F → Move S F D

module _ (S F D : Type 0) (turn : S → Turn S F D) (join : F → S → Outcome S D) where
  -- the innermost list is closed and its call is made
  abbrev pub pop : List F → Outcome S D → Move S F D
  pop fs (Halted d) = Stops (Halted d)
  pop fs (Closed s) = Goes (record { outer = fs; here = s })

  -- the level is closed: the call that collects it is made, if there is one
  abbrev pub close : List F → S → Move S F D
  close [] t = Stops (Closed t)
  close (f ∷ fs) t = pop fs (join f t)

  -- a turn's effect on the stack
  abbrev pub take_turn : List F → Turn S F D → Move S F D
  take_turn fs (Halt d) = Stops (Halted d)
  take_turn fs (Close t) = close fs t
  take_turn fs (GoOn t) = Goes (record { outer = fs; here = t })
  take_turn fs (Bare t) = Goes (record { outer = fs; here = t })
  take_turn fs (Opens f t) = Goes (record { outer = f ∷ fs; here = t })

  -- one turn of the machine
  abbrev pub move : Stacked S F → Move S F D
  move c = take_turn c.outer (turn c.here)

  -- the rest of an expansion in which these levels are open, after the innermost level's outcome
  abbrev pub resume : (S → Outcome S D) → List F → Outcome S D → Outcome S D
  resume whole [] o = o
  resume whole (f ∷ fs) o = resume whole fs (then_on (then_on o (join f)) whole)

  -- the outcome of the machine
  abbrev pub meaning : (S → Outcome S D) → Stacked S F → Outcome S D
  meaning whole c = resume whole c.outer (whole c.here)

  -- the outcome of the machine after a move
  abbrev pub moved_meaning : (S → Outcome S D) → Move S F D → Outcome S D
  moved_meaning whole (Stops o) = o
  moved_meaning whole (Goes c) = meaning whole c
