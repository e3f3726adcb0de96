use Rattle.std.proofs.Common.{◌≡◌, drop}
use Rattle.m4_state.specs.Device.{HasPut, joined}
use Rattle.m4_state.proofs.transfer.write_pieces.Given as goal

-- the pieces that are left are the rest of the text
abbrev pub invariant-loop-piece : goal.invariant-loop-piece
invariant-loop-piece g l =
    HasPut (g.W.ByteSink.contents l.initial.writer) (g.W.ByteSink.contents l.writer) (joined l.pieces) (joined (drop l.piece-index l.pieces))
    × (g.W.ByteSink.failures l.writer ≡ g.W.ByteSink.failures l.initial.writer)
