-- RowsArguments: worked runs in which arguments are collected, computed from the definitions.
use Rattle.std.proofs.Common.{◌≡◌, [], ◌∷◌, refl}
use Rattle.std.specs.Prelude.{codes, ◌++◌}
use Rattle.std.specs.Fmt.{digits}
use Rattle.m4_engine.proofs.Rows.{usual, over_a, done}

-- each kind of white space is dropped before an argument: newline, tab, carriage return, space, vertical tab,
-- form feed
blanks_of_each_kind : over_a usual (codes "define(`f',`<$1|$2|$3>')f(\n\ta," ++ 13 ∷ codes " b," ++ 11 ∷ 12 ∷ codes "c)\n") ≡ done (codes "<a|b|c>\n") [] 2
blanks_of_each_kind = refl

-- white space after a call stays, also where the call left nothing
blank_after_a_call : over_a usual (codes "define(`g',`')define(`f',`<$1>')f(g() y)f(g y)\n") ≡ done (codes "< y>< y>\n") [] 6
blank_after_a_call = refl

-- and it stays after an opening parenthesis, and after an empty string
blank_after_a_parenthesis : over_a usual (codes "define(`f',`<$1>')f(( a))f(`' x)\n") ≡ done (codes "<( a)>< x>\n") [] 3
blank_after_a_parenthesis = refl

-- commas and parentheses in quotes are text
quoted_commas : over_a usual (codes "define(`f',`$#')f(`a,b',c)f(`(',`)')\n") ≡ done (codes "22\n") [] 3
unfolding digits
quoted_commas = refl

-- of two definitions in an argument none is left
two_definitions_dropped : over_a usual (codes "define(`x',defn(`len')defn(`incr'))x|x(`abc')\n")
    ≡ done (codes "|\n") (codes "m4:a.m4:1: Warning: builtin dropped from text\n") 5
unfolding digits
two_definitions_dropped = refl

-- a `$` at the end of a text is itself
dollar_at_the_end : over_a usual (codes "define(`f',`a$')f()\n") ≡ done (codes "a$\n") [] 2
dollar_at_the_end = refl
