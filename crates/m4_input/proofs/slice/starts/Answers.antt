use Rattle.std.proofs.Common.{◌∙◌}
use Rattle.m4_input.proofs.Scans.{starts_begins}
use Rattle.m4_input.proofs.slice.starts.Goals as goal

pub returns-clause-value : goal.returns-clause-value
returns-clause-value c = c.starts_with.ensures.value ∙ starts_begins c.args.delimiter.now c.args.text.now
