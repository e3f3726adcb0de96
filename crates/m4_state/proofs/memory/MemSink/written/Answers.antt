use Rattle.std.proofs.Common.{rules}
use Rattle.m4_state.proofs.memory.MemSink.written.Goals as goal

pub returns : goal.returns
returns c = search rules
