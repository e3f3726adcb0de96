-- Lines that are written out, computed from the definitions.
use Rattle.std.proofs.Common.{◌≡◌, refl, codes, List, [], ◌∷◌, Option, Some, None, true, false}
use Rattle.clap.proofs.OnLiterals.{clap_on_literals}
use Rattle.clap.specs.Words.{Text, first_of, one_of}
use Rattle.clap.specs.declared.error.kind.ErrorKind.TheVariants as kind
use Rattle.m4_tool.specs.CommandLine.{asks, files_in, mode_has_others, refusals_of, rows_by}

-- a command line of the program with these words after its name
abbrev line : List Text → List Text
line words = codes "m4r" ∷ words

-- the file that they give a mode
abbrev file_of : Text → List Text → Option Text
file_of mode words = first_of mode (rows_by words)

canon_alone : file_of (codes "canon") (line (codes "--canon=a" ∷ [])) ≡ Some (codes "a")
unfolding clap_on_literals
canon_alone = refl

freeze_short : file_of (codes "freeze-state") (line (codes "-F" ∷ codes "s" ∷ codes "a" ∷ [])) ≡ Some (codes "s")
unfolding clap_on_literals
freeze_short = refl

freeze_in_one_word : file_of (codes "freeze-state") (line (codes "-Fs" ∷ [])) ≡ Some (codes "s")
unfolding clap_on_literals
freeze_in_one_word = refl

freeze_long : file_of (codes "freeze-state") (line (codes "--freeze-state=s" ∷ [])) ≡ Some (codes "s")
unfolding clap_on_literals
freeze_long = refl

reload_short : file_of (codes "reload-state") (line (codes "-R" ∷ codes "-" ∷ [])) ≡ Some (codes "-")
unfolding clap_on_literals
reload_short = refl

reload_long : file_of (codes "reload-state") (line (codes "--reload-state" ∷ codes "s" ∷ [])) ≡ Some (codes "s")
unfolding clap_on_literals
reload_long = refl

prefix_short : asks (codes "prefix-builtins") (rows_by (line (codes "-P" ∷ codes "a" ∷ []))) ≡ true
unfolding clap_on_literals
prefix_short = refl

prefix_long : asks (codes "prefix-builtins") (rows_by (line (codes "a" ∷ codes "--prefix-builtins" ∷ []))) ≡ true
unfolding clap_on_literals
prefix_long = refl

no_prefix : asks (codes "prefix-builtins") (rows_by (line (codes "a" ∷ []))) ≡ false
unfolding clap_on_literals
no_prefix = refl

prefix_twice : refusals_of (line (codes "-P" ∷ codes "-P" ∷ [])) ≡ kind.ArgumentConflict ∷ []
unfolding clap_on_literals
prefix_twice = refl

mode_with_prefix : mode_has_others (rows_by (line (codes "-P" ∷ codes "--canon=a" ∷ []))) ≡ true
unfolding clap_on_literals
mode_with_prefix = refl

both_frozen : refusals_of (line (codes "-R" ∷ codes "s" ∷ codes "-F" ∷ codes "s" ∷ [])) ≡ []
unfolding clap_on_literals
both_frozen = refl

freeze_twice : refusals_of (line (codes "-F" ∷ codes "s" ∷ codes "--freeze-state=s" ∷ [])) ≡ kind.ArgumentConflict ∷ []
unfolding clap_on_literals
freeze_twice = refl

reload_no_value : refusals_of (line (codes "-R" ∷ [])) ≡ kind.InvalidValue ∷ []
unfolding clap_on_literals
reload_no_value = refl

mode_with_frozen : mode_has_others (rows_by (line (codes "-R" ∷ codes "s" ∷ codes "--inspect=a" ∷ []))) ≡ true
unfolding clap_on_literals
mode_with_frozen = refl

frozen_alone : mode_has_others (rows_by (line (codes "-R" ∷ codes "s" ∷ codes "-F" ∷ codes "t" ∷ codes "a" ∷ []))) ≡ false
unfolding clap_on_literals
frozen_alone = refl

no_inspect : file_of (codes "inspect") (line (codes "--canon=a" ∷ [])) ≡ None
unfolding clap_on_literals
no_inspect = refl

value_after : file_of (codes "inspect") (line (codes "--inspect" ∷ codes "a" ∷ [])) ≡ Some (codes "a")
unfolding clap_on_literals
value_after = refl

dash : file_of (codes "canon") (line (codes "--canon=-" ∷ [])) ≡ Some (codes "-")
unfolding clap_on_literals
dash = refl

no_word : refusals_of (line []) ≡ []
unfolding clap_on_literals
no_word = refl

two_modes : refusals_of (line (codes "--inspect=b" ∷ codes "--canon=a" ∷ [])) ≡ []
unfolding clap_on_literals
two_modes = refl

unknown : refusals_of (line (codes "--nope" ∷ [])) ≡ kind.UnknownArgument ∷ []
unfolding clap_on_literals
unknown = refl

short_help : refusals_of (line (codes "-h" ∷ [])) ≡ kind.UnknownArgument ∷ []
unfolding clap_on_literals
short_help = refl

operand : refusals_of (line (codes "a.m4" ∷ [])) ≡ []
unfolding clap_on_literals
operand = refl

operands : files_in (rows_by (line (codes "b.m4" ∷ codes "-L2" ∷ codes "-" ∷ []))) ≡ codes "b.m4" ∷ codes "-" ∷ []
unfolding clap_on_literals
operands = refl

nesting : one_of (codes "nesting-limit") (rows_by (line (codes "-L" ∷ codes "0" ∷ []))) ≡ Some (codes "0")
unfolding clap_on_literals
nesting = refl

no_nesting : one_of (codes "nesting-limit") (rows_by (line [])) ≡ None
unfolding clap_on_literals
no_nesting = refl

nesting_taken : refusals_of (line (codes "-L4294967295" ∷ [])) ≡ []
unfolding clap_on_literals
nesting_taken = refl

nesting_too_large : refusals_of (line (codes "-L4294967296" ∷ [])) ≡ kind.ValueValidation ∷ []
unfolding clap_on_literals
nesting_too_large = refl

calls_taken : refusals_of (line (codes "--expansions=1" ∷ [])) ≡ []
unfolding clap_on_literals
calls_taken = refl

no_calls : refusals_of (line (codes "--expansions=0" ∷ [])) ≡ kind.ValueValidation ∷ []
unfolding clap_on_literals
no_calls = refl

no_number : refusals_of (line (codes "--expansions=x" ∷ [])) ≡ kind.ValueValidation ∷ []
unfolding clap_on_literals
no_number = refl

nesting_twice : refusals_of (line (codes "-L1" ∷ codes "--nesting-limit=1" ∷ [])) ≡ kind.ArgumentConflict ∷ []
unfolding clap_on_literals
nesting_twice = refl

mode_alone : mode_has_others (rows_by (line (codes "--canon=a" ∷ []))) ≡ false
unfolding clap_on_literals
mode_alone = refl

mode_with_file : mode_has_others (rows_by (line (codes "--canon=a" ∷ codes "b" ∷ []))) ≡ true
unfolding clap_on_literals
mode_with_file = refl

twice : refusals_of (line (codes "--canon=a" ∷ codes "--canon=a" ∷ [])) ≡ kind.ArgumentConflict ∷ []
unfolding clap_on_literals
twice = refl

no_value : refusals_of (line (codes "--canon" ∷ [])) ≡ kind.InvalidValue ∷ []
unfolding clap_on_literals
no_value = refl

help : refusals_of (line (codes "--canon=a" ∷ codes "--help" ∷ [])) ≡ kind.DisplayHelp ∷ []
unfolding clap_on_literals
help = refl
