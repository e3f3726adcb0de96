use Rattle.std.proofs.Common.{◌≡◌}
use Rattle.m4_input.proofs.Blocks.{blocks_left}
use Rattle.m4_engine.proofs.Blockwise.{Taking}
use Rattle.m4_engine.proofs.machine.Machine.expand.Given as goal

-- what the reader gave, and where the expansion is; no device failed
abbrev pub invariant-blocks-2 : goal.invariant-blocks-2
invariant-blocks-2 g l = record {
  takes : Taking l.fn.self l.fn.input.pending (g.R.ByteSource.script l.fn.reader) (g.R.ByteSource.script l.reader)
      (g.O.ByteSink.contents l.fn.out) (g.M.ByteSink.contents l.fn.messages) l.wanted l.self l.input
      (g.O.ByteSink.contents l.out) (g.M.ByteSink.contents l.messages);
  read : g.R.ByteSource.failures l.reader ≡ g.R.ByteSource.failures l.fn.reader;
  out : g.O.ByteSink.failures l.out ≡ g.O.ByteSink.failures l.fn.out;
  reported : g.M.ByteSink.failures l.messages ≡ g.M.ByteSink.failures l.fn.messages;
}

abbrev pub decreases-blocks-2 : goal.decreases-blocks-2
decreases-blocks-2 g l = blocks_left (l.input.pending).may_follow (g.R.ByteSource.takes_left l.reader)
