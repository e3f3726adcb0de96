use Rattle.std.proofs.Common.{sym, ap, ◌∙◌}
use Rattle.m4_state.specs.Table.{Pairs, stack_at}
use Rattle.m4_state.proofs.InOrder.{stack_at_place, stack_at_no_place}
use Rattle.m4_state.proofs.table.Table.stack.Goals as goal

-- the stack at the name's place is the name's
pub returns-in-Some : goal.returns-in-Some
returns-in-Some c =
    c.as_slice.ensures
    ∙ sym (stack_at_place c.self.inside.entries c.args.name.now c.in-Some.i c.index.result.now (sym c.in-Some.ensures.index) c.index.ensures)
    ∙ ap (λ (t : Pairs). stack_at t c.args.name.now) c.self.view_is

-- a name with no place has no definitions
pub returns-in-None : goal.returns-in-None
returns-in-None c =
    sym (stack_at_no_place c.self.inside.entries c.args.name.now (sym c.in-None.ensures.index))
    ∙ ap (λ (t : Pairs). stack_at t c.args.name.now) c.self.view_is
