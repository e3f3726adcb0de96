use Rattle.std.proofs.Common.{length}
use Rattle.m4_input.specs.Pending.{text_of}
use Rattle.m4_input.proofs.Lines.{IsLeft}
use Rattle.m4_input.proofs.input.Input.skip_in_hand.Given as goal

-- the rest of the line is the same from what is left
abbrev pub invariant-fronts : goal.invariant-fronts
invariant-fronts l = IsLeft l.initial.self l.self

abbrev pub decreases-fronts : goal.decreases-fronts
decreases-fronts l = length (text_of (l.self).pending)
