use Rattle.std.proofs.Common.{rules}
use Rattle.m4_state.proofs.memory.MemSource.new.Goals as goal

pub returns-clause-script : goal.returns-clause-script
returns-clause-script c = search rules

pub returns-clause-reader : goal.returns-clause-reader
returns-clause-reader c = search rules
