use Rattle.std.proofs.Common.{rules}
use Rattle.m4_engine.proofs.machine.Machine.come_to_rest.Goals as goal

pub returns : goal.returns
returns c = search rules
