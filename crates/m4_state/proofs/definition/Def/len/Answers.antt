use Rattle.std.proofs.Common.{rules}
use Rattle.m4_state.proofs.definition.Def.len.Goals as goal

pub returns-in-Placeholder-clause-len : goal.returns-in-Placeholder-clause-len
returns-in-Placeholder-clause-len c = search rules
