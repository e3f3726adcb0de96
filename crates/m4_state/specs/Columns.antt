-- Columns: the columns of the table of builtins that the code asks for.
-- Not believed: each word only names a field of `row_of`. Words: needs_args, takes_tokens, least_of, most_of.
use Rattle.std.specs.Prelude.{ℕ, Bool, Option}
use Rattle.m4_state.specs.declared.builtin.Builtin.{Builtin}
use Rattle.m4_state.specs.Builtin.{row_of}

abbrev pub needs_args : Builtin → Bool
needs_args b = (row_of b).needs_args

abbrev pub takes_tokens : Builtin → Bool
takes_tokens b = (row_of b).takes_tokens

abbrev pub least_of : Builtin → ℕ
least_of b = (row_of b).least

abbrev pub most_of : Builtin → Option ℕ
most_of b = (row_of b).most
