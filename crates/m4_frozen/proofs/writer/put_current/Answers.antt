use Rattle.std.proofs.Common.{rules}
use Rattle.m4_frozen.proofs.writer.put_current.Goals as goal

pub returns-clause-puts : goal.returns-clause-puts
returns-clause-puts g c = search rules
