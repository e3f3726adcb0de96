use Rattle.std.proofs.Common.{true, ◌-◌, ◌∷◌, [], length}
use Rattle.m4_input.specs.OpenToken.{HasPassed}
use Rattle.m4_input.proofs.strings.follow_quoted.Given as goal

-- the string as far as it was followed
abbrev pub invariant-quotes : goal.invariant-quotes
invariant-quotes l =
    HasPassed (record { begin = l.begin ∷ []; end = l.end ∷ [] }) true l.fn.depth l.text l.nested l.k

abbrev pub decreases-quotes : goal.decreases-quotes
decreases-quotes l = length l.text - l.k
