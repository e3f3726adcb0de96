use Rattle.std.proofs.Common.{List, ℕ, ◌+◌, ◌++◌, ◌∙◌, ap, refl, rules}
use Rattle.std.specs.Prelude.{take}
use Rattle.std.proofs.lemmas.List.{with_items_is}
use Rattle.m4_state.proofs.Appends.{front_written}
use Rattle.m4_state.proofs.text_buffer.TextBuffer.append_front.Goals as goal

pub returns-then-write_piece-clause-ok : goal.returns-then-write_piece-clause-ok
returns-then-write_piece-clause-ok c =
    let room = c.self.inside.room in
    let new = c.write_piece.new.room in
    ap (take (c.self.inside.len + c.args.len)) (with_items_is room new (c.write_piece.ensures.len ∙ c.deref_mut.ensures.len))
    ∙ front_written room.items new c.args.text.now c.self.inside.len c.args.len (search rules) (search rules)
    (search (rules, c.if-write_piece.ensures.written refl))
    ∙ ap (λ (x : List ℕ). x ++ take c.args.len c.args.text.now) c.self.view_is
