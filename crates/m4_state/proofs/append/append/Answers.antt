use Rattle.std.proofs.Common.{rules}
use Rattle.m4_state.proofs.append.append.Goals as goal

pub returns-in_default-clause-ok : goal.returns-in_default-clause-ok
returns-in_default-clause-ok c = search rules
