use Rattle.std.proofs.Common.{rules}
use Rattle.m4_frozen.proofs.writer.FrozenForm.put_definition.Goals as goal

pub returns-in-Placeholder-clause-puts : goal.returns-in-Placeholder-clause-puts
returns-in-Placeholder-clause-puts g c = search rules

pub returns-in-Text-clause-puts : goal.returns-in-Text-clause-puts
returns-in-Text-clause-puts g c = search rules
