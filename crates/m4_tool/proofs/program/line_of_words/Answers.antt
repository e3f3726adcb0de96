-- The words that were borrowed are the words that were passed.
use Rattle.std.proofs.Common.{◌∙◌, List, ap, subst}
use Rattle.clap.specs.Walk.{texts}
use Rattle.clap.specs.Words.{Text}
use Rattle.m4_tool.specs.CommandLine.{IsModeNotAlone}
use Rattle.m4_tool.proofs.program.line_of_words.Goals as goal

pub returns-clause-not_alone : goal.returns-clause-not_alone
returns-clause-not_alone c same =
    subst (λ (words : List Text). IsModeNotAlone words) (ap texts c.as_slice.ensures.value ∙ c.in_ok-texts.ensures)
    (c.read_line.ensures.not_alone same)
