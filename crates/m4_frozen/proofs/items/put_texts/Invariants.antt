use Rattle.std.proofs.Common.{◌≡◌, length, pos}
use Rattle.m4_state.specs.Device.{HasPut}
use Rattle.m4_state.specs.State.{AreDiversions}
use Rattle.m4_frozen.specs.Freeze.{last_number}
use Rattle.std.specs.List.{flat_map}
use Rattle.m4_state.specs.NumbersAbove.{above}
use Rattle.m4_frozen.proofs.items.put_texts.Given as goal

-- of a state that is valid, the diversions above the last number are the rest of the text
abbrev pub invariant-loop-number : goal.invariant-loop-number
invariant-loop-number g l =
    (AreDiversions l.state.diversions
    → HasPut (g.W.ByteSink.contents l.initial.writer) (g.W.ByteSink.contents l.writer) (flat_map g.F.Form.diversion_text l.state.diversions)
    (flat_map g.F.Form.diversion_text (above l.last l.state.diversions))
    × (last_number l.last (above l.last l.state.diversions) ≡ last_number (pos 0) l.state.diversions))
    × (g.W.ByteSink.failures l.writer ≡ g.W.ByteSink.failures l.initial.writer)

abbrev pub decreases-loop-number : goal.decreases-loop-number
decreases-loop-number g l = length (above l.last l.state.diversions)
