-- What clap has found is what is among its rows.
use Rattle.std.proofs.Common.{◌∙◌, ap}
use Rattle.clap.proofs.WalkLemmas.{first_value-rows}
use Rattle.clap.specs.Words.{found_of}
use Rattle.m4_tool.specs.CommandLine.{is_asked}
use Rattle.m4_tool.proofs.line.asks.Goals as goal

pub returns-in-Some : goal.returns-in-Some
returns-in-Some c =
    c.eq.ensures ∙ ap is_asked (c.in-Some.ensures ∙ first_value-rows (found_of c.args.matches.now) c.args.name.now)

pub returns-in-None : goal.returns-in-None
returns-in-None c = ap is_asked (c.in-None.ensures ∙ first_value-rows (found_of c.args.matches.now) c.args.name.now)
