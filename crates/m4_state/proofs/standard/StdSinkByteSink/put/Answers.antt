use Rattle.std.proofs.Common.{rules}
use Rattle.m4_state.proofs.standard.StdSinkByteSink.put.Goals as goal

pub returns-in-Ok-clause-some : goal.returns-in-Ok-clause-some
returns-in-Ok-clause-some g c = search rules
