use Rattle.std.proofs.Common.{List, ℕ, take, ap, ◌∙◌, arith, rules}
use Rattle.std.proofs.lemmas.List.{take-take}
use Rattle.m4_state.proofs.bytes.Bytes.set_front.Goals as goal
use Rattle.m4_state.proofs.bytes.Bytes.set_front.Goals.{in-Some, in-None}

-- the first bytes of the piece are those of the bytes
pub returns : goal.returns
returns c = elim c.match-first_chunk.branch [
  | in-Some w ↦
      let piece = w.set_piece.ensures
      ∙ ap (λ (bs : List ℕ). take c.args.len bs) w.in-Some.ensures.cases.same
      ∙ take-take c.args.len 30 c.args.bytes.now (omega arith) in
      search (rules, piece, w.self-inside-is)
  | in-None w ↦ search (rules, w.set_few.ensures, w.split_at.ensures.front, w.self-inside-is)
]
