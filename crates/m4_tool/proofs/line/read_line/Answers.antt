-- What the matches hold is what the words say.
use Rattle.clap.specs.Walk.{texts}
use Rattle.clap.specs.Words.{found_of, rows_of}
use Rattle.m4_tool.proofs.FoundLemmas.{found_alone, found_company, found_says}
use Rattle.m4_tool.proofs.RowLemmas.{made_alone}
use Rattle.m4_tool.proofs.line.read_line.Goals as goal

pub returns-clause-says : goal.returns-clause-says
returns-clause-says c =
    found_says (texts c.args.words.now) c.in_ok-matches.matches c.line_of_matches.result
    c.in_ok-matches.ensures.found c.line_of_matches.ensures.says

pub returns-clause-alone : goal.returns-clause-alone
returns-clause-alone c =
    made_alone (rows_of (found_of c.in_ok-matches.matches)) c.line_of_matches.result
    c.line_of_matches.ensures.says c.line_of_matches.ensures.alone

pub returns-clause-no_others : goal.returns-clause-no_others
returns-clause-no_others c =
    found_alone (texts c.args.words.now) c.in_ok-matches.matches c.line_of_matches.result
    c.in_ok-matches.ensures.found c.line_of_matches.ensures.alone

pub returns-clause-not_alone : goal.returns-clause-not_alone
returns-clause-not_alone c same =
    found_company (texts c.args.words.now) c.in_ok-matches.matches c.in_ok-matches.ensures.found
    (c.line_of_matches.ensures.not_alone same)
