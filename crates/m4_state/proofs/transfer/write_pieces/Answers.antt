use Rattle.std.proofs.Common.{List, [], ℕ, ◌∙◌}
use Rattle.std.specs.Borrow.{Bor}
use Rattle.m4_state.proofs.CallerLaws.{HasPut-put, HasPut-cut, Puts-refused, flat_map-drop}
use Rattle.m4_state.proofs.transfer.write_pieces.Goals as goal

-- what a read past the last piece would give
no_piece : Bor (List ℕ)
no_piece = record { ref_ptr = (0, 0); now = [] }

-- a piece failed
pub returns-in_err-write_all-clause-puts : goal.returns-in_err-write_all-clause-puts
unfolding no_piece
returns-in_err-write_all-clause-puts g c =
    let left = rw (flat_map-drop (λ (p : Bor (List ℕ)). p.now) c.args.pieces.now c.loop-piece.piece-index no_piece
    c.loop-piece-test.true) at c.loop-piece.invariant.0 in
    Puts-refused c.from_residual.result _ _ _ c.from_residual.ensures.0
    (HasPut-cut _ _ _ left c.in_err-write_all.ensures.puts.0 c.in_err-write_all.ensures.puts.1)

-- a piece was put
pub loop-piece-preserved : goal.loop-piece-preserved
unfolding no_piece
loop-piece-preserved g c =
    let left = rw (flat_map-drop (λ (p : Bor (List ℕ)). p.now) c.args.pieces.now c.loop-piece.piece-index no_piece
    c.loop-piece-test.true) at c.loop-piece.invariant.0 in
    (HasPut-put _ _ _ left c.in_ok-write_all.ensures.puts, c.in_ok-write_all.ensures.counted ∙ c.loop-piece.invariant.1)
