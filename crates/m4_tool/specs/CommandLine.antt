-- CommandLine: the words that m4r knows, and the meaning of a list of words, as clap reads them.
-- Believed: `known_words` is what the program passes to clap; how clap reads words is clap's own
-- `matches_of` and `fault_of`, which proofs/Examples.antt computes for example lines.
-- Manual: "Invoking m4", "Limits control", "Frozen state". Words: known_words, rows_by,
-- refusals_of, files_in, IsLimit, asks, HoldsFound, Says, AreInRange, HasNoFiles, ModeIsAlone,
-- has_options, has_files, mode_has_others, IsModeNotAlone, IsRefusal.
-- own: a mode is given alone; `--help` has no short form; `--expansions`; each option is given once.
use Rattle.std.specs.Prelude.{◌≡◌, ◌≤◌, ◌&&◌, ◌||◌, ℕ, Bool, List, [], Option, Some, None, IsSome, true, false, codes}
use Rattle.std.specs.Prelude.{is_some, map, option_map, string_bytes, unwrap_or}
use Rattle.std.specs.Str.{bytes_eq}
use Rattle.std.specs.Str.Parse.{digits_value, without_leading_plus}
use Rattle.clap.specs.Words.{App, IsAmong, Kinds, Row, Rule, Text, all_of, fault_of, first_of, matches_of}
use Rattle.clap.specs.Words.{IsUnsignedIn, new_app, new_rule, one_of, with_rule}
use Rattle.clap.specs.Simple.{on_top}
use Rattle.clap.specs.Values.{kind_of}
use Rattle.clap.specs.declared.builder.action.ArgAction.TheVariants.{Append, Help, Set, SetTrue}
use Rattle.clap.specs.declared.builder.value_parser.ValueParser.TheVariants.{Unsigned}
use Rattle.m4_tool.specs.declared.line.Line.{Line}
use Rattle.m4_tool.specs.declared.line.LineFault.{LineFault}
use Rattle.m4_tool.specs.declared.line.LineFault.TheVariants.{ModeNotAlone, Parse, OutOfMemory}

-- an option with a file: a long name, and one value called FILE in the help
abbrev pub path_word : Text → Rule
path_word name = record (new_rule name) {
  long = Some name;
  action = Some Set;
  value_names = 1;
}

-- the file to which a run freezes, with the short name `-F` (70)
abbrev pub freeze_word : Rule
freeze_word = record (path_word (codes "freeze-state")) { short = Some 70 }

-- the file that is reloaded, with the short name `-R` (82)
abbrev pub reload_word : Rule
reload_word = record (path_word (codes "reload-state")) { short = Some 82 }

-- the option of a limit: a long name, and one number from `least` to 4294967295
abbrev pub limit_word : Text → ℕ → Rule
limit_word name least = record (new_rule name) {
  long = Some name;
  action = Some Set;
  value_names = 1;
  parser = Some (Unsigned least 4294967295);
}

-- the limit of open calls, with the short name `-L` (76)
abbrev pub nesting_word : Rule
nesting_word = record (limit_word (codes "nesting-limit") 0) { short = Some 76 }

-- the option for prefixes, with the short name `-P` (80)
abbrev pub prefix_word : Rule
prefix_word = record (new_rule (codes "prefix-builtins")) {
  short = Some 80;
  long = Some (codes "prefix-builtins");
  action = Some SetTrue;
}

-- the files: all words that are not options
abbrev pub file_word : Rule
file_word = record (new_rule (codes "files")) { action = Some Append; value_names = 1 }

-- `--help`
abbrev pub help_word : Rule
help_word = record (new_rule (codes "help")) {
  long = Some (codes "help");
  action = Some Help;
}

-- a command with no help option but its own
abbrev pub without_short_help : App → App
without_short_help = on_top (λ s. record s { disable_help_flag = true })

-- the modes
abbrev pub with_modes : App → App
with_modes a = with_rule (with_rule a (path_word (codes "canon"))) (path_word (codes "inspect"))

-- the frozen files
abbrev pub with_frozen : App → App
with_frozen a = with_rule (with_rule a freeze_word) reload_word

-- the limits
abbrev pub with_limits : App → App
with_limits a = with_rule (with_rule a nesting_word) (limit_word (codes "expansions") 1)

-- the prefixes
abbrev pub with_prefix : App → App
with_prefix a = with_rule a prefix_word

-- the words that the program knows; the first word of a line is the program's name
abbrev pub known_words : App
known_words = with_rule (with_rule (with_prefix (with_limits (with_frozen (with_modes
    (without_short_help (new_app (codes "m4r"))))))) file_word) help_word

-- what clap finds in the words, by the names of the rules
abbrev pub rows_by : List Text → List Row
rows_by words = matches_of known_words words

-- the kinds of refusal that clap has for the words; none if it accepts them
abbrev pub refusals_of : List Text → Kinds
refusals_of words = fault_of known_words words

-- the files to read
abbrev pub files_in : List Row → List Text
files_in rows = unwrap_or (all_of (codes "files") rows) []

-- a limit is the usual one if no text gives it, otherwise the number in the text; clap refuses a text
-- without a number from `least` to 4294967295
abbrev pub IsLimit : ℕ → ℕ → Option Text → ℕ → Type 0
IsLimit least usual None n = n ≡ usual
IsLimit least usual (Some text) n =
    IsUnsignedIn least 4294967295 text → n ≡ digits_value 10 (without_leading_plus text)

-- whether the text that clap found for an option without a value means that it is given
abbrev pub is_asked : Option Text → Bool
is_asked None = false
is_asked (Some text) = bytes_eq text (codes "true")

-- whether an option without a value is given
abbrev pub asks : Text → List Row → Bool
asks name rows = is_asked (first_of name rows)

-- the line contains what clap found: the files of the modes, the frozen files, the limits, the prefixes,
-- and the files to read; it is for a freezing run exactly if it has a file to freeze to
pub record HoldsFound (rows : List Row) (line : Line) : Type 0 where
  pub canon : option_map string_bytes line.canon ≡ first_of (codes "canon") rows
  pub inspect : option_map string_bytes line.inspect ≡ first_of (codes "inspect") rows
  pub freeze : option_map string_bytes line.freeze ≡ first_of (codes "freeze-state") rows
  pub reload : option_map string_bytes line.reload ≡ first_of (codes "reload-state") rows
  pub nesting : IsLimit 0 1024 (one_of (codes "nesting-limit") rows) line.options.nesting
  pub calls : IsLimit 1 4294967295 (one_of (codes "expansions") rows) line.options.calls
  pub files : map string_bytes line.files.items ≡ files_in rows
  pub freezes : line.options.freeze ≡ is_some line.freeze
  pub prefix : line.options.prefix ≡ asks (codes "prefix-builtins") rows

-- clap accepts the words, and the line contains what clap finds in them
pub record Says (words : List Text) (line : Line) : Type 0 where
  pub is_taken : refusals_of words ≡ []
  pub found : HoldsFound (rows_by words) line

-- the limits are in their ranges
pub record AreInRange (line : Line) : Type 0 where
  pub nesting : line.options.nesting ≤ 4294967295
  pub some_calls : 1 ≤ line.options.calls
  pub calls : line.options.calls ≤ 4294967295

-- no file is to be read, frozen to or reloaded
pub record HasNoFiles (line : Line) : Type 0 where
  pub freeze : line.freeze ≡ None
  pub reload : line.reload ≡ None
  pub files : line.files.items ≡ []

-- with a mode there is no other mode and no file
pub record ModeIsAlone (line : Line) : Type 0 where
  pub canon : IsSome line.canon → (line.inspect ≡ None) × HasNoFiles line
  pub inspect : IsSome line.inspect → (line.canon ≡ None) × HasNoFiles line

-- a word of this name is given
abbrev pub is_given : Text → List Row → Bool
is_given name rows = is_some (all_of name rows)

-- a limit or the option for prefixes is given
abbrev pub has_options : List Row → Bool
has_options rows = is_given (codes "nesting-limit") rows || (is_given (codes "expansions") rows
    || asks (codes "prefix-builtins") rows)

-- a frozen file or a file to read is given
abbrev pub has_files : List Row → Bool
has_files rows = is_given (codes "freeze-state") rows || (is_given (codes "reload-state") rows
    || is_given (codes "files") rows)

-- a mode is given together with another mode, a limit, a prefix or a file
abbrev pub mode_has_others : List Row → Bool
mode_has_others rows = (is_given (codes "canon") rows && is_given (codes "inspect") rows)
    || ((is_given (codes "canon") rows || is_given (codes "inspect") rows)
    && (has_options rows || has_files rows))

-- clap accepts the words, and a mode is not alone
pub record IsModeNotAlone (words : List Text) : Type 0 where
  pub is_taken : refusals_of words ≡ []
  pub company : mode_has_others (rows_by words) ≡ true

-- for a refusal by clap: it is one of those that clap has for the words
abbrev pub IsRefusal : List Text → LineFault → Type 0
IsRefusal words ModeNotAlone = Unit {0}
IsRefusal words (Parse error) = IsAmong (kind_of error) (refusals_of words)
IsRefusal words OutOfMemory = Unit {0}
