use Rattle.std.proofs.Common.{rules}
use Rattle.std.specs.Option.{option_copied}
use Rattle.m4_state.specs.StateView.{view_of}
use Rattle.m4_state.proofs.StaysInOrder.{top_valid}
use Rattle.m4_state.proofs.state.State.top_in_table.Goals as goal

-- every state is valid
pub returns-clause-valid : goal.returns-clause-valid
returns-clause-valid c = top_valid (view_of c.self.inside) c.args.name.now (option_copied c.last.result) (c.self.invariant).0 (search rules)
