use Rattle.std.proofs.Common.{rules}
use Rattle.m4_input.proofs.delims.Delims.of.Goals as goal

pub returns-clause-quotes : goal.returns-clause-quotes
returns-clause-quotes c = search rules
