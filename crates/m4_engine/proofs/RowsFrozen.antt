-- RowsFrozen: worked runs that freeze and reload, and what beginnings settle, computed.
use Rattle.std.proofs.Common.{Option, Some, None, ◌≡◌, ◌++◌, ℕ, List, [], ◌∷◌, false, refl}
use Rattle.std.specs.Prelude.{codes}
use Rattle.std.specs.Fmt.{digits}
use Rattle.std.specs.Int.{int_wrap}
use Rattle.m4_state.specs.Device.{Script}
use Rattle.m4_frozen.specs.Blocks.{as_offset}
use Rattle.m4_frozen.specs.ReaderSteps as steps
use Rattle.m4_frozen.specs.declared.fault.FrozenKind.TheVariants as kinds
use Rattle.m4_engine.specs.declared.ending.Cause.TheVariants as causes
use Rattle.m4_engine.specs.Expansion.{Ends, NeedsInput}
use Rattle.m4_engine.specs.File.{Opened}
use Rattle.m4_engine.specs.Start.{frozen_file, start_of}
use Rattle.m4_engine.specs.Run.{run}
use Rattle.m4_engine.specs.Settled.{SettledSoFar, settled}
use Rattle.m4_engine.proofs.Rows.{usual, freezing, over_a, done}

-- a frozen file of these bytes
abbrev from : List ℕ → Option Script
from bytes = Some (frozen_file bytes)

-- what the beginning of a file settles in a run from the fresh state
abbrev settled_by_a : List ℕ → SettledSoFar
settled_by_a w = settled usual (start_of false None) [] (codes "a.m4") w

-- so much is written, and more is wanted
abbrev wanting : List ℕ → SettledSoFar
wanting output = record { output = output; messages = []; reason = NeedsInput }

-- a name may go on
cut_name : settled_by_a (codes "ab") ≡ wanting []
cut_name = refl

ended_name : settled_by_a (codes "ab ") ≡ wanting (codes "ab ")
ended_name = refl

-- a comment may go on
cut_comment : settled_by_a (codes "x#c") ≡ wanting (codes "x")
cut_comment = refl

-- a byte may turn out to begin a quote
cut_quote : settled_by_a (codes "changequote(<<,>>)a<") ≡ wanting (codes "a")
cut_quote = refl

-- a call whose list is cut
cut_list : settled_by_a (codes "x define(`a") ≡ wanting (codes "x ")
cut_list = refl

-- a line that is cut after `dnl`
cut_line : settled_by_a (codes "x dnl a") ≡ wanting (codes "x ")
cut_line = refl

-- a refused call decides how the run ends, whatever follows
decided : settled (record usual { calls = 0 }) (start_of false None) [] (codes "a.m4") (codes "x dnl ") ≡ record {
  output = codes "x ";
  messages = codes "m4:a.m4:1: ERROR: more than 0 calls\n";
  reason = Ends causes.ExpansionLimit;
}
unfolding digits
decided = refl

-- the frozen text of a run that changes the delimiters
delimiters_text : List ℕ
delimiters_text =
    codes
    "# m4 frozen state\nV1\nQ1,1\n[]\nC0,0\n\nF8,8\n__file____file__\nT7,0\n__gnu__\nF8,8\n__line____line__\nT8,0\n"
    ++ codes
    "__unix__\nF7,7\nbuiltinbuiltin\nF9,9\nchangecomchangecom\nF11,11\nchangequotechangequote\nF4,4\ndecrdecr\nF6,6\n"
    ++ codes
    "definedefine\nF4,4\ndefndefn\nF6,6\ndivertdivert\nF6,6\ndivnumdivnum\nF3,3\ndnldnl\nF7,7\ndumpdefdumpdef\nF8,8\n"
    ++ codes
    "errprinterrprint\nF4,4\nevaleval\nF5,5\nifdefifdef\nF6,6\nifelseifelse\nF4,4\nincrincr\nF5,5\nindexindex\nF5,5\n"
    ++ codes
    "indirindir\nF3,3\nlenlen\nF6,6\nm4exitm4exit\nF6,6\nm4wrapm4wrap\nF6,6\npopdefpopdef\nF7,7\npushdefpushdef\n"
    ++ codes
    "F5,5\nshiftshift\nF6,6\nsubstrsubstr\nF8,8\ntranslittranslit\nF8,8\nundefineundefine\nF8,8\nundivertundivert\n"
    ++ codes "# End of frozen state file\n"

delimiters_frozen : (over_a freezing (codes "changequote([,])changecom(,)dnl\n")).frozen ≡ Some delimiters_text
unfolding digits delimiters_text
delimiters_frozen = refl

-- the run that goes on from it
delimiters_reloaded : run usual (from delimiters_text) (Opened (codes "b.m4") (codes "# [define]\n") ∷ []) ≡ done (codes "# define\n") [] 0
unfolding digits delimiters_text steps.file_at steps.version_at steps.directives_at steps.directive_at steps.length_at steps.string_at
delimiters_reloaded = refl

-- a frozen file without builtins: `define` is a plain word
only_what_is_frozen : run usual (from (codes "V1\n")) (Opened (codes "a.m4") (codes "define(`a',`b')a\n") ∷ []) ≡ done (codes "define(a,b)a\n") [] 0
unfolding steps.file_at steps.version_at steps.directives_at steps.directive_at steps.length_at steps.string_at
only_what_is_frozen = refl

-- text that a frozen file issues
issued_text : run usual (from (codes "V1\nD0,3\nhi\n\n")) (Opened (codes "a.m4") [] ∷ []) ≡ done (codes "hi\n") [] 0
unfolding steps.file_at steps.version_at steps.directives_at steps.directive_at steps.length_at steps.string_at
issued_text = refl

-- a frozen file of a newer version: nothing is read
newer_file : run usual (from (codes "# c\n\nV2\n")) (Opened (codes "a.m4") (codes "x") ∷ [])
    ≡ record (done [] [] 0) { reason = Ends (causes.Frozen (record { kind = kinds.Newer; offset = 6 })); status = 63 }
unfolding steps.file_at steps.version_at steps.directives_at steps.directive_at steps.length_at steps.string_at
newer_file = refl

-- a builtin of another m4
placeholder : run freezing (from (codes "V1\nF6,6\nregexpregexp\n")) (Opened (codes "b.m4") (codes "regexp(`a',`b')!\n") ∷ [])
    ≡ record (done (codes "!\n") (codes
    "m4:b.m4:1: Warning: builtin `regexp' requested by frozen file is not supported\n") 1)
    { frozen = Some (codes "# m4 frozen state\nV1\nF6,6\nregexpregexp\n# End of frozen state file\n") }
unfolding digits steps.file_at steps.version_at steps.directives_at steps.directive_at steps.length_at steps.string_at
placeholder = refl

-- without a list it is called too
placeholder_alone : run freezing (from (codes "V1\nF6,6\nregexpregexp\n")) (Opened (codes "b.m4") (codes "regexp!\n") ∷ [])
    ≡ record (done (codes "!\n") (codes
    "m4:b.m4:1: Warning: builtin `regexp' requested by frozen file is not supported\n") 1)
    { frozen = Some (codes "# m4 frozen state\nV1\nF6,6\nregexpregexp\n# End of frozen state file\n") }
unfolding digits steps.file_at steps.version_at steps.directives_at steps.directive_at steps.length_at steps.string_at
placeholder_alone = refl

-- an older file that names a builtin which m4r has gained
older_file : run freezing (from (codes "V1\nF4,4\nevaleval\n")) (Opened (codes "b.m4") (codes "eval(`1+1')\n") ∷ [])
    ≡ record (done (codes "2\n") [] 1)
    { frozen = Some (codes "# m4 frozen state\nV1\nF4,4\nevaleval\n# End of frozen state file\n") }
unfolding digits int_wrap steps.file_at steps.version_at steps.directives_at steps.directive_at steps.length_at steps.string_at
older_file = refl

-- without parameters its name is text
older_name : run freezing (from (codes "V1\nF4,4\nevaleval\n")) (Opened (codes "b.m4") (codes "eval\n") ∷ [])
    ≡ record (done (codes "eval\n") [] 0)
    { frozen = Some (codes "# m4 frozen state\nV1\nF4,4\nevaleval\n# End of frozen state file\n") }
unfolding digits int_wrap steps.file_at steps.version_at steps.directives_at steps.directive_at steps.length_at steps.string_at
older_name = refl

-- what was reloaded is frozen again, with what was defined since
frozen_again : run freezing (from (codes "V1\nF6,6\ndefinedefine\nT1,1\nab\n"))
    (Opened (codes "b.m4") (codes "a define(`c',`d$1')a\n") ∷ [])
    ≡ record (done (codes "b b\n") [] 3)
    { frozen = Some (codes "# m4 frozen state\nV1\nT1,1\nab\nT1,3\ncd$1\nF6,6\ndefinedefine\n# End of frozen state file\n") }
unfolding digits steps.file_at steps.version_at steps.directives_at steps.directive_at steps.length_at steps.string_at
frozen_again = refl

-- text goes to the diversion that a frozen file left current, and is issued at the end
into_a_diversion : run usual (from (codes "V1\nD2,4\ntwo\n\n")) (Opened (codes "b.m4") (codes "more\n") ∷ []) ≡ done (codes "two\nmore\n") [] 0
unfolding steps.file_at steps.version_at steps.directives_at steps.directive_at steps.length_at steps.string_at
into_a_diversion = refl

-- a negative number discards it
discarded : run usual (from (codes "V1\nD-1,0\n\n")) (Opened (codes "b.m4") (codes "x\n") ∷ []) ≡ done [] [] 0
unfolding steps.file_at steps.version_at steps.directives_at steps.directive_at steps.length_at steps.string_at
discarded = refl

-- the frozen text of a run that defines a greeting and puts nothing out
greeting_text : List ℕ
greeting_text =
    codes
    "# m4 frozen state\nV1\nF8,8\n__file____file__\nT7,0\n__gnu__\nF8,8\n__line____line__\nT8,0\n__unix__\nF7,7\n"
    ++ codes
    "builtinbuiltin\nF9,9\nchangecomchangecom\nF11,11\nchangequotechangequote\nF4,4\ndecrdecr\nF6,6\ndefinedefine\nF4,4\n"
    ++ codes
    "defndefn\nF6,6\ndivertdivert\nF6,6\ndivnumdivnum\nF3,3\ndnldnl\nF7,7\ndumpdefdumpdef\nF8,8\nerrprinterrprint\n"
    ++ codes
    "F4,4\nevaleval\nT2,9\nhiHello $1.\nF5,5\nifdefifdef\nF6,6\nifelseifelse\nF4,4\nincrincr\nF5,5\nindexindex\nF5,5\n"
    ++ codes
    "indirindir\nF3,3\nlenlen\nF6,6\nm4exitm4exit\nF6,6\nm4wrapm4wrap\nF6,6\npopdefpopdef\nF7,7\npushdefpushdef\n"
    ++ codes
    "F5,5\nshiftshift\nF6,6\nsubstrsubstr\nF8,8\ntranslittranslit\nF8,8\nundefineundefine\nF8,8\nundivertundivert\n"
    ++ codes "# End of frozen state file\n"

greeting_frozen : over_a freezing (codes "define(`hi',`Hello $1.')dnl\n") ≡ record (done [] [] 2) { frozen = Some greeting_text }
unfolding digits greeting_text
greeting_frozen = refl

-- the run that goes on from it makes the greeting
greeting_reloaded : run usual (from greeting_text) (Opened (codes "b.m4") (codes "hi(`you')\n") ∷ []) ≡ done (codes "Hello you.\n") [] 1
unfolding digits greeting_text steps.file_at steps.version_at steps.directives_at steps.directive_at steps.length_at steps.string_at
greeting_reloaded = refl

-- a run that freezes keeps its diversions
diversions_are_frozen : run freezing (from (codes "V1\nD2,4\ntwo\n\n")) (Opened (codes "b.m4") (codes "more\n") ∷ [])
    ≡ record (done [] [] 0) { frozen = Some (codes "# m4 frozen state\nV1\nD2,9\ntwo\nmore\n\n# End of frozen state file\n") }
unfolding digits steps.file_at steps.version_at steps.directives_at steps.directive_at steps.length_at steps.string_at
diversions_are_frozen = refl

-- an offset of more than 32 bits is exact, and the greatest one has 64
offset_of_33_bits : as_offset 4294967297 ≡ 4294967297
offset_of_33_bits = refl

greatest_offset : as_offset 18446744073709551616 ≡ 18446744073709551615
greatest_offset = refl
