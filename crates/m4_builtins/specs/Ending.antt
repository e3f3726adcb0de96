-- Ending: the builtins that save text for the end of the input, or end the run.
-- Believed. Manual: "Saving text until end of input", "Exiting from m4".
-- Words: m4wrap, exits, exits_reading, m4exit.
-- own: a code outside 0 to 255 is 1, with a warning; so is an argument that is no number.
use Rattle.std.specs.Prelude.{ℕ, pos, negsuc, nat_le, List, [], ◌∷◌, Some, if◌then◌else◌}
use Rattle.m4_state.specs.declared.builtin.Builtin.TheVariants.{M4exit}
use Rattle.m4_builtins.specs.declared.args.Arg.{Arg}
use Rattle.m4_builtins.specs.declared.effect.Effect.{Effect}
use Rattle.m4_builtins.specs.declared.number.Reading.{Reading}
use Rattle.m4_builtins.specs.declared.number.Reading.TheVariants.{Number, Empty, NotNumeric}
use Rattle.m4_builtins.specs.declared.place.Place.{Place}
use Rattle.m4_builtins.specs.Args.{text_of_arg, texts_of, with_spaces}
use Rattle.m4_builtins.specs.Acted.{nothing, warning_first}
use Rattle.m4_builtins.specs.Messages.{empty_number, not_numeric, bad_status}
use Rattle.m4_builtins.specs.Numeric.{reading_of}

-- `m4wrap`: the arguments joined by spaces are saved; an empty text is saved too
abbrev pub m4wrap : List Arg → Effect
m4wrap list = record nothing { wrap = Some (with_spaces (texts_of list)) }

-- the run ends with a code
abbrev pub exits : ℕ → Effect
exits code = record nothing { exit = Some code }

-- by the number that was read, which may be no valid code
abbrev pub exits_reading : Reading → Place → Effect
exits_reading (Number (pos n)) p = if nat_le n 255 then exits n else warning_first (bad_status p) (exits 1)
exits_reading (Number (negsuc n)) p = warning_first (bad_status p) (exits 1)
exits_reading Empty p = warning_first (empty_number p M4exit) (exits 0)
exits_reading NotNumeric p = warning_first (not_numeric p M4exit) (exits 1)

-- `m4exit`: the code is 0 if there is no argument
abbrev pub m4exit : List Arg → Place → Effect
m4exit [] p = exits 0
m4exit (a ∷ rest) p = exits_reading (reading_of (text_of_arg a)) p
