use Rattle.std.proofs.Common.{ℕ, ap, sym, ◌∙◌}
use Rattle.std.specs.Prelude.{nat_lt}
use Rattle.m4_state.specs.Table.{stack_at}
use Rattle.m4_state.specs.Entries.{in_order}
use Rattle.m4_state.proofs.Marked.{unmarked_absent}
use Rattle.m4_state.proofs.table.Table.hint.Goals as goal

-- a name whose mark is 0 is not in the table
pub returns : goal.returns
returns c none =
    ap (λ t. stack_at t c.args.name.now) (sym c.self.view_is)
    ∙ unmarked_absent c.self.inside.marks (in_order c.self.inside.entries.entries) c.args.name.now c.self.invariant.marked
    (sym c.hint.ensures ∙ ap (λ (n : ℕ). nat_lt 0 n) none)
