-- LineSteps: the results that the steps of reading a line pass to one another.
-- Not believed: `read_line` is stated with the words of CommandLine only, and proved through these.
-- Manual: "Invoking m4". Words: HasRowsOf, ClassifiesError, IsNoRefusal.
use Rattle.std.specs.Prelude.{◌≡◌, ◌≢◌, List, []}
use Rattle.clap.specs.Words.{Text, found_of, rows_of}
use Rattle.clap.specs.Values.{kind_of}
use Rattle.clap.specs.declared.error.Error.{Error}
use Rattle.clap.specs.declared.error.kind.ErrorKind.TheVariants as kind
use Rattle.clap.specs.declared.parser.matches.ArgMatches.{ArgMatches}
use Rattle.m4_tool.specs.CommandLine.{refusals_of, rows_by}
use Rattle.m4_tool.specs.declared.line.LineFault.{LineFault}
use Rattle.m4_tool.specs.declared.line.LineFault.TheVariants.{ModeNotAlone, Parse, OutOfMemory}

-- an error of clap as a fault of the line: running out of memory is not a refusal
abbrev pub ClassifiesError : Error → LineFault → Type 0
ClassifiesError error ModeNotAlone = ⊥
ClassifiesError error (Parse refusal) = (refusal ≡ error) × (kind_of error ≢ kind.OutOfMemory)
ClassifiesError error OutOfMemory = kind_of error ≡ kind.OutOfMemory

-- clap accepts the words, and has found their values
pub record HasRowsOf (words : List Text) (matches : ArgMatches) : Type 0 where
  pub is_taken : refusals_of words ≡ []
  pub rows : rows_of (found_of matches) ≡ rows_by words

-- a fault that is not a refusal by clap
abbrev pub IsNoRefusal : LineFault → Type 0
IsNoRefusal ModeNotAlone = Unit {0}
IsNoRefusal (Parse refusal) = ⊥
IsNoRefusal OutOfMemory = Unit {0}
