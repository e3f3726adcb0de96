use Rattle.std.proofs.Common.{rules}
use Rattle.m4_state.proofs.memory.MemSink.new.Goals as goal

pub invariant_of-result : goal.invariant_of-result
invariant_of-result c = search rules
