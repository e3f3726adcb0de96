use Rattle.std.proofs.Common.{◌≡◌, length}
use Rattle.m4_state.specs.Device.{HasPut}
use Rattle.m4_state.proofs.transfer.write_all.Given as goal

abbrev pub invariant-loop-rest : goal.invariant-loop-rest
invariant-loop-rest g l = HasPut (g.W.ByteSink.contents l.initial.writer) (g.W.ByteSink.contents l.writer) l.bytes
    l.rest × (g.W.ByteSink.failures l.writer ≡ g.W.ByteSink.failures l.initial.writer)

abbrev pub decreases-loop-rest : goal.decreases-loop-rest
decreases-loop-rest g l = length l.rest
