-- Moments: the places that an expansion comes to, one turn after another, and what it has made by then.
-- Believed. Its law: `MomentsLead` (each of them leads to the end of the whole expansion).
-- Manual: "Macro invocation", "How m4 copies input to output".
-- Words: Moment, Next, moved, so_far_in, made_by, Comes, first_moment, IsTurnOf.
use Rattle.std.specs.Prelude.{◌≡◌, List, [], ◌∷◌}
use Rattle.m4_engine.specs.Nesting.{Outcome, Halted, Closed}
use Rattle.m4_engine.specs.OpenCalls.{Stacked, Move, Stops, Goes, move}
use Rattle.m4_engine.specs.Expansion.{RunSoFar, Expansion, Kept, Ended}
use Rattle.m4_engine.specs.Expand.{turn, join}

-- a moment: the state of the innermost level, and what is kept of the levels around it
abbrev pub Moment : Type 0
Moment = Stacked Expansion Kept

-- what a turn leads to: the next moment, or the end
abbrev pub Next : Type 0
Next = Move Expansion Kept Ended

-- one turn
abbrev pub moved : Moment → Next
moved c = move Expansion Kept Ended turn join c

-- what an outcome has made
abbrev pub so_far_in : Outcome Expansion Ended → RunSoFar
so_far_in (Halted d) = d.so_far
so_far_in (Closed s) = s.so_far

-- what was made when a turn is over
abbrev pub made_by : Next → RunSoFar
made_by (Stops o) = so_far_in o
made_by (Goes c) = (c.here).so_far

-- turn by turn, through these moments, the one leads to the other
abbrev pub Comes : List Moment → Next → Next → Type 0
Comes [] m n = n ≡ m
Comes (c ∷ cs) m n = (m ≡ Goes c) × Comes cs (moved c) n

-- an expansion before its first turn
abbrev pub first_moment : Expansion → Moment
first_moment s = record { outer = []; here = s }

-- one of the turns of an expansion: what was made before it, and what was made when it is over
pub record IsTurnOf (start : Expansion) (before later : RunSoFar) : Type 0 where
  pub way : List Moment
  pub at : Moment
  pub comes : Comes way (Goes (first_moment start)) (Goes at)
  pub made : before ≡ (at.here).so_far
  pub makes : later ≡ made_by (moved at)
