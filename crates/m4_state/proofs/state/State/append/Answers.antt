use Rattle.std.proofs.Common.{rules}
use Rattle.m4_state.proofs.state.State.append.Goals as goal

pub returns-in_ok-append-clause-ok : goal.returns-in_ok-append-clause-ok
returns-in_ok-append-clause-ok c = search rules
