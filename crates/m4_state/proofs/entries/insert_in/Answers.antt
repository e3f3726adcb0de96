use Rattle.std.proofs.Common.{◌∙◌}
use Rattle.std.specs.FinMap.{put}
use Rattle.m4_state.specs.Entries.{in_order}
use Rattle.m4_state.specs.Table.{byte_order}
use Rattle.m4_state.proofs.InOrder.{put_in_order}
use Rattle.m4_state.proofs.entries.insert_in.Goals as goal

-- the new entry has the name's bytes and the one definition
pub returns-clause-ok : goal.returns-clause-ok
returns-clause-ok c =
    let old = c.make_room.new.entries.entries in
    let key = c.in_ok-from_slice.field-0 in
    put_in_order key old c.insert.new.self.entries c.of.result c.in_ok-insert.ensures.updates.3 c.in_ok-insert.ensures.updates.1
    ∙ (λ j. put byte_order (c.in_ok-from_slice.ensures j) (c.of.ensures j) (in_order (c.make_room.ensures j)))
