use Rattle.std.proofs.Common.{rules}
use Rattle.m4_state.proofs.Appends.{halves_written}
use Rattle.m4_state.proofs.bytes.copy_piece.Goals as goal

pub returns : goal.returns
returns c =
    halves_written c.args.piece.now c.args.bytes.now c.in-Some.front.now c.in-Some-last_chunk.back.now (search rules)
    (search rules) c.in-Some.ensures.cases.same (c.in-Some-last_chunk.ensures.cases.1).same
