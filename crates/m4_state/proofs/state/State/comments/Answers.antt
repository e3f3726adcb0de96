use Rattle.std.proofs.Common.{rules}
use Rattle.m4_state.proofs.state.State.comments.Goals as goal

pub returns-clause-begin : goal.returns-clause-begin
returns-clause-begin c = search rules

pub returns-clause-end : goal.returns-clause-end
returns-clause-end c = search rules
