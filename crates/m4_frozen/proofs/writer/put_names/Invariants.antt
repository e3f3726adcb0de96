use Rattle.std.proofs.Common.{◌≡◌, drop}
use Rattle.m4_state.specs.Device.{HasPut}
use Rattle.m4_frozen.specs.WriterSteps.{names_text}
use Rattle.m4_frozen.proofs.writer.put_names.Given as goal

-- the names that are left are the rest of the text
abbrev pub invariant-loop-i : goal.invariant-loop-i
invariant-loop-i g l =
    HasPut (g.W.ByteSink.contents l.initial.writer) (g.W.ByteSink.contents l.writer) (names_text l.pairs) (names_text (drop l.i l.pairs))
    × (g.W.ByteSink.failures l.writer ≡ g.W.ByteSink.failures l.initial.writer)
