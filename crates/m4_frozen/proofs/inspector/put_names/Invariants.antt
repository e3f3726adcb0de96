use Rattle.std.proofs.Common.{◌≡◌, drop}
use Rattle.m4_state.specs.Device.{HasPut}
use Rattle.m4_frozen.specs.InspectorSteps.{names_lines}
use Rattle.m4_frozen.proofs.inspector.put_names.Given as goal

-- the names that are left are the rest of the text
abbrev pub invariant-loop-pair : goal.invariant-loop-pair
invariant-loop-pair g l =
    HasPut (g.W.ByteSink.contents l.initial.writer) (g.W.ByteSink.contents l.writer) (names_lines l.pairs) (names_lines (drop l.pair-index l.pairs))
    × (g.W.ByteSink.failures l.writer ≡ g.W.ByteSink.failures l.initial.writer)
