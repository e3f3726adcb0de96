use Rattle.std.proofs.Common.{◌≡◌, ◌<◌, [], length}
use Rattle.m4_engine.proofs.LoopKeeps.{turns_of}
use Rattle.m4_engine.proofs.Running.{Running}
use Rattle.m4_engine.proofs.machine.Machine.expand_in_hand.Given as goal

-- the bytes that were flushed, and the machine's state; no message waits, and less than a block of output; no writer failed
abbrev pub invariant-turns : goal.invariant-turns
invariant-turns g l = record {
  runs : Running l.fn.wanted l.fn.self l.fn.input.pending (g.O.ByteSink.contents l.fn.out)
      (g.M.ByteSink.contents l.fn.messages) l.self l.input (g.O.ByteSink.contents l.out) (g.M.ByteSink.contents l.messages);
  quiet : (l.self).messages ≡ [];
  few : length (l.self).output < 65536;
  out : g.O.ByteSink.failures l.out ≡ g.O.ByteSink.failures l.fn.out;
  reported : g.M.ByteSink.failures l.messages ≡ g.M.ByteSink.failures l.fn.messages;
}

abbrev pub decreases-turns : goal.decreases-turns
decreases-turns g l = turns_of l.self l.input.pending
