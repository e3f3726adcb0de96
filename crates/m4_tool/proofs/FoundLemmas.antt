-- What the matches of a line hold is what its words say.
use Rattle.std.proofs.Common.{◌≡◌, ◌∙◌, List, Result, Ok, Err, IfOk, ap, subst, sym, true, false}
use Rattle.clap.specs.Words.{Row, Text, found_of, rows_of}
use Rattle.clap.specs.declared.parser.matches.ArgMatches.{ArgMatches}
use Rattle.m4_tool.specs.CommandLine.{HoldsFound, IsModeNotAlone, Says, mode_has_others, rows_by}
use Rattle.m4_tool.specs.LineSteps.{HasRowsOf}
use Rattle.m4_tool.specs.declared.line.Line.{Line}
use Rattle.m4_tool.specs.declared.line.LineFault.{LineFault}

-- a line made of the matches holds what the words say
pub found_says : (words : List Text) (matches : ArgMatches) (r : Result Line LineFault)
    → HasRowsOf words matches → IfOk r (HoldsFound (rows_of (found_of matches))) → IfOk r (Says words)
found_says words matches (Ok line) found holds = record {
  is_taken = found.is_taken;
  found = subst (λ (rows : List Row). HoldsFound rows line) found.rows holds;
}
found_says words matches (Err fault) found holds = tt

-- matches with a mode in company come of words with a mode in company
pub found_company : (words : List Text) (matches : ArgMatches) → HasRowsOf words matches
    → mode_has_others (rows_of (found_of matches)) ≡ true → IsModeNotAlone words
found_company words matches found company = record {
  is_taken = found.is_taken;
  company = ap mode_has_others (sym found.rows) ∙ company;
}

-- a line made of matches without a mode in company is made of words without one
pub found_alone : (words : List Text) (matches : ArgMatches) (r : Result Line LineFault) → HasRowsOf words matches
    → IfOk r (λ _. mode_has_others (rows_of (found_of matches)) ≡ false)
    → IfOk r (λ _. mode_has_others (rows_by words) ≡ false)
found_alone words matches (Ok line) found alone = ap mode_has_others (sym found.rows) ∙ alone
found_alone words matches (Err fault) found alone = tt
