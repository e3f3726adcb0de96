use Rattle.m4_frozen.proofs.TextAt.{text_found, line_within}
use Rattle.m4_frozen.proofs.head.text_at.Goals as goal

pub overflow_sub-after : goal.overflow_sub-after
overflow_sub-after c =
    line_within c.args.bytes.now c.in_ok-first_chunk.field-0.now _ _ c.in_ok-middle.after
    c.in_ok-first_chunk.ensures.cases.same c.in_ok-first_chunk.ensures.cases.enough c.in_ok-middle.ensures

pub returns-then-strings-both-eq10 : goal.returns-then-strings-both-eq10
returns-then-strings-both-eq10 c =
    text_found c.args.bytes.now c.in_ok-first_chunk.field-0.now c.split_at.result.1.now c.in_ok-middle.middle c.in_ok-middle.len c.in_ok-middle.after
    c.in_ok-first_chunk.ensures.cases.same c.in_ok-first_chunk.ensures.cases.enough c.in_ok-middle.ensures
    c.split_at.ensures.back c.if-both-strings.true c.if-strings-both-eq10.true
