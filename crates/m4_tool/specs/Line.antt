-- Line: what a run over the files of a line gives in a world of files. Its point is `line_result`.
-- Believed: public contracts cite it. Manual: "Invoking m4", "Command line files", "Fast loading of frozen state".
-- Words: Request, request_of, source_name, sources_in, words_of, all_of, Thawed, thaw_in, LineResult,
-- line_result.
-- own: a frozen file that can't be opened is the only work of its line; standard input is read once.
use Rattle.std.specs.Prelude.{ℕ, Bool, false, List, [], ◌∷◌, map, Option, Some, None}
use Rattle.std.specs.Prelude.{option_map, unwrap_or, codes, string_bytes, if◌then◌else◌}
use Rattle.std.specs.Str.{bytes_eq}
use Rattle.m4_state.specs.Device.{Script}
use Rattle.m4_engine.specs.declared.options.Options.{Options}
use Rattle.m4_engine.specs.declared.ending.Cause.{Cause}
use Rattle.m4_engine.specs.declared.ending.Cause.TheVariants as causes
use Rattle.m4_engine.specs.Expansion.{EndReason, Ends}
use Rattle.m4_engine.specs.File.{Source, Opened, Unopened, cannot_open}
use Rattle.m4_engine.specs.Run.{RunResult, run}
use Rattle.m4_tool.specs.declared.line.Line.{Line}
use Rattle.m4_tool.specs.ModeFault.{frozen_line}
use Rattle.m4_tool.specs.World.{Files}

-- what a line asks for if it has no mode: the files to be read, and the names to reload from and to freeze to
pub record Request : Type 0 where
  pub options : Options
  pub names : List (List ℕ)
  pub reload : Option (List ℕ)
  pub freeze : Option (List ℕ)

abbrev pub request_of : Line → Request
request_of asked = record {
  options = asked.options;
  names = map string_bytes asked.files.items;
  reload = option_map string_bytes asked.reload;
  freeze = option_map string_bytes asked.freeze;
}

-- the names to which it freezes, and from which it reloads; they are empty if there are none
abbrev pub freeze_name : Request → List ℕ
freeze_name q = unwrap_or q.freeze []

abbrev pub reload_name : Request → List ℕ
reload_name q = unwrap_or q.reload []

abbrev pub is_input : List ℕ → Bool
is_input name = bytes_eq name (codes "-")

-- `-` is standard input
abbrev pub source_name : List ℕ → List ℕ
source_name file = if bytes_eq file (codes "-") then codes "stdin" else file

-- the source for a file of this name; none if its reader fails
abbrev pub file_source : List ℕ → Option Script → Option Source
file_source name None = Some (Unopened name)
file_source name (Some script) = if script.fails then None else Some (Opened name script.bytes)

-- the bytes of a word of the line: those of standard input, or of its file
abbrev pub script_at : Files → Script → List ℕ → Option Script
script_at files input name = if is_input name then Some input else files name

-- the source for a word of the line
abbrev pub source_at : Files → Script → List ℕ → Option Source
source_at files input name = file_source (source_name name) (script_at files input name)

-- the rest of standard input after a word of the line
abbrev pub input_after : Script → List ℕ → Script
input_after input name = if is_input name then record { bytes = []; fails = false } else input

-- the sources for the words, in order
abbrev pub sources_in : Files → Script → List (List ℕ) → List (Option Source)
sources_in files input [] = []
sources_in files input (name ∷ names) =
    source_at files input name ∷ sources_in files (input_after input name) names

-- the words; that of standard input if there is none
abbrev pub words_of : List (List ℕ) → List (List ℕ)
words_of [] = codes "-" ∷ []
words_of (name ∷ names) = name ∷ names

-- all of the sources, if none is missing
abbrev pub all_of : List (Option Source) → Option (List Source)
all_of [] = Some []
all_of (o ∷ os) = elim o [ None ↦ None | Some s ↦ option_map (λ ss. s ∷ ss) (all_of os) ]

-- what a run starts from: a frozen file or none, or the name of one that can't be opened
pub data Thawed : Type 0 where
  Starts : (file : Option Script) → Thawed
  Missing : (name : List ℕ) → Thawed

abbrev pub thaw_in : Files → Option (List ℕ) → Thawed
thaw_in files None = Starts None
thaw_in files (Some name) = elim (files name) [ None ↦ Missing name | Some script ↦ Starts (Some script) ]

-- the output and the messages of a run, the lines that the program adds, the status, and the frozen text,
-- which is empty if nothing is frozen
pub record LineResult : Type 0 where
  pub output : List ℕ
  pub messages : List ℕ
  pub lines : List (List ℕ)
  pub status : ℕ
  pub frozen : List ℕ

-- the line for a frozen file that was refused
abbrev pub refusals : List ℕ → Cause → List (List ℕ)
refusals file (causes.Frozen fault) = frozen_line file fault ∷ []
refusals file cause = []

abbrev pub refusals_by : List ℕ → EndReason → List (List ℕ)
refusals_by file (Ends cause) = refusals file cause
refusals_by file reason = []

-- a frozen file that can't be opened is reported, and nothing else is done
abbrev pub unreloaded : List ℕ → LineResult
unreloaded name = record { output = []; messages = cannot_open name; lines = []; status = 1; frozen = [] }

abbrev pub result_of_run : List ℕ → RunResult → LineResult
result_of_run file r = record {
  output = r.output;
  messages = r.messages;
  lines = refusals_by file r.reason;
  status = r.status;
  frozen = unwrap_or r.frozen [];
}

abbrev pub result_by : Thawed → Options → List ℕ → Option (List Source) → Option LineResult
result_by (Missing name) o file sources = Some (unreloaded name)
result_by (Starts frozen) o file None = None
result_by (Starts frozen) o file (Some ss) = Some (result_of_run file (run o frozen ss))

-- the result of a line; none if a source's reader fails
abbrev pub line_result : Request → Files → Script → Option LineResult
line_result q files input =
    result_by (thaw_in files q.reload) q.options (unwrap_or q.reload [])
    (all_of (sources_in files input (words_of q.names)))
