use Rattle.std.proofs.Common.{rules}
use Rattle.m4_input.proofs.input.Input.take_definition.Goals as goal

pub returns-clause-taken : goal.returns-clause-taken
returns-clause-taken c = search rules

pub returns-clause-rest : goal.returns-clause-rest
returns-clause-rest c = search rules
