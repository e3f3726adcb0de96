use Rattle.std.proofs.Common.{rules}
use Rattle.m4_state.proofs.standard.StdSourceByteSource.take.Goals as goal

pub returns-in-Ok-clause-counted : goal.returns-in-Ok-clause-counted
returns-in-Ok-clause-counted g c = search rules
