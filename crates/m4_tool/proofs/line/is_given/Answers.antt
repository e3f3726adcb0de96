use Rattle.std.proofs.Common.{◌∙◌}
use Rattle.clap.specs.Words.{found_of}
use Rattle.m4_tool.proofs.RowLemmas.{found_described}
use Rattle.m4_tool.proofs.line.is_given.Goals as goal

pub returns : goal.returns
returns c = c.contains_id.ensures ∙ found_described (found_of c.args.matches.now) c.args.name.now
