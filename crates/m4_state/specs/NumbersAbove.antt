-- The diversions above a number, which `next_diversion` meets one by one.
-- Not believed: it only connects the code's loops with the list of diversions.
use Rattle.std.specs.Prelude.{ℤ, int_lt, List, map}
use Rattle.std.specs.List.{filter}
use Rattle.m4_state.specs.State.{NumberedText}

-- the diversions above a number
abbrev pub above : ℤ → List NumberedText → List NumberedText
above number diversions = filter (λ d. int_lt number d.0) diversions

-- their numbers
abbrev pub numbers_above : ℤ → List NumberedText → List ℤ
numbers_above number diversions = map (λ d. d.0) (above number diversions)
