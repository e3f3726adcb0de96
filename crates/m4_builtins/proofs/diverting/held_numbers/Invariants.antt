use Rattle.std.proofs.Common.{◌≡◌, ◌++◌, length}
use Rattle.m4_state.specs.State.{AreDiversions}
use Rattle.m4_builtins.specs.Diverting.{held_numbers}
use Rattle.m4_state.specs.NumbersAbove.{above, numbers_above}
use Rattle.m4_builtins.proofs.diverting.held_numbers.Given as goal

-- of a state that is valid, the numbers so far and those above the last one are all
abbrev pub invariant-loop-number : goal.invariant-loop-number
invariant-loop-number l = AreDiversions l.state.diversions → l.numbers.items ++ numbers_above l.last l.state.diversions ≡ held_numbers l.state

abbrev pub decreases-loop-number : goal.decreases-loop-number
decreases-loop-number l = length (above l.last l.state.diversions)
