use Rattle.std.proofs.Common.{List, ℕ, ◌++◌, ◌∙◌, ap, sym, rules}
use Rattle.std.specs.Prelude.{length, take}
use Rattle.std.proofs.lemmas.List.{length-take-le}
use Rattle.m4_state.proofs.Appends.{piece_written}
use Rattle.m4_state.proofs.text_buffer.write_piece.Goals as goal

pub returns-clause-written : goal.returns-clause-written
returns-clause-written c t =
    let p = c.in-Some.ensures.cases in
    piece_written c.split_at_mut-rest.result.0.now c.in-Some.piece.now _ c.args.at 16 (search rules)
    (sym (ap length p.same ∙ length-take-le 16 c.args.text.now p.enough))
    ∙ ap (λ (x : List ℕ). x ++ c.in-Some.piece.now) c.split_at_mut-rest.ensures.front
    ∙ ap (λ (x : List ℕ). take c.args.at c.args.room.now ++ x) p.same
