use Rattle.std.proofs.Common.{◌≡◌, subst, sym, ap, ◌∙◌}
use Rattle.m4_state.specs.Table.{Pairs, without}
use Rattle.m4_state.specs.Entries.{in_order}
use Rattle.m4_state.specs.Marks.{IsKept}
use Rattle.m4_state.proofs.InOrder.{without_in_order}
use Rattle.m4_state.proofs.Marked.{without_kept}
use Rattle.m4_state.proofs.table.Table.undefine.Goals as goal

-- what the name's removal leaves
pub returns-clause-value : goal.returns-clause-value
returns-clause-value c =
    without_in_order c.args.name.now c.self.inside.entries.entries
    c.swap_remove-taken.new.self.entries c.swap_remove-taken.ensures.updates.3 c.swap_remove-taken.ensures.updates.1
    ∙ ap (λ (t : Pairs). without t c.args.name.now) c.self.view_is

pub invariant_of-self : goal.invariant_of-self
invariant_of-self c =
    let old : Pairs = in_order c.self.inside.entries.entries in
    let left : in_order c.swap_remove-taken.new.self.entries ≡ without old c.args.name.now =
    without_in_order c.args.name.now c.self.inside.entries.entries
    c.swap_remove-taken.new.self.entries c.swap_remove-taken.ensures.updates.3 c.swap_remove-taken.ensures.updates.1 in
    subst (IsKept c.self.inside.marks) (sym left) (without_kept c.self.inside.marks old c.args.name.now c.self.invariant)

pub returns-clause-table : goal.returns-clause-table
returns-clause-table c = (invariant_of-self c).table

pub returns-clause-sized : goal.returns-clause-sized
returns-clause-sized c = (invariant_of-self c).sized
