use Rattle.std.proofs.Common.{rules}
use Rattle.m4_state.proofs.memory.MemSinkByteSink.put.Goals as goal

pub returns-clause-takes : goal.returns-clause-takes
returns-clause-takes c = search rules
