-- Rows: worked runs, computed from the definitions. Each says the whole result, or the parts named.
use Rattle.std.proofs.Common.{None, ◌≡◌, ℕ, List, [], ◌∷◌, false, true, refl}
use Rattle.std.specs.Prelude.{codes}
use Rattle.std.specs.Fmt.{digits}
use Rattle.m4_engine.specs.declared.options.Options.{Options}
use Rattle.m4_engine.specs.declared.ending.Cause.TheVariants as causes
use Rattle.m4_engine.specs.Expansion.{Ends}
use Rattle.m4_engine.specs.File.{Opened, Unopened}
use Rattle.m4_engine.specs.Run.{RunResult, run}

-- the default limits, but for these
abbrev pub limited : ℕ → ℕ → Options
limited calls nesting = record { calls = calls; nesting = nesting; freeze = false; prefix = false }

abbrev pub usual : Options
usual = limited 4294967295 1024

abbrev pub freezing : Options
freezing = record usual { freeze = true }

-- a run over one file
abbrev pub over_a : Options → List ℕ → RunResult
over_a o a = run o None (Opened (codes "a.m4") a ∷ [])

-- a run over two files
abbrev pub over_both : List ℕ → List ℕ → RunResult
over_both a b = run usual None (Opened (codes "a.m4") a ∷ Opened (codes "b.m4") b ∷ [])

-- a run that ends by itself, with this output, these messages and so many calls
abbrev pub done : List ℕ → List ℕ → ℕ → RunResult
done output messages calls = record {
  output = output;
  messages = messages;
  reason = Ends causes.Done;
  status = 0;
  frozen = None;
  calls = calls;
  saved = [];
}

-- a greeting that is defined in one file and made in the other
greeting : over_both (codes "define(`hi',`Hello $1.')dnl\n") (codes "hi(`you')\n") ≡ done (codes "Hello you.\n") [] 3
greeting = refl

-- the second file doesn't join the first one's name
files_are_apart : over_both (codes "define(`f',`<$#>')dnl\nf") (codes "(1)\n") ≡ done (codes "<0>(1)\n") [] 3
unfolding digits
files_are_apart = refl

-- the definition is the one before the arguments
definition_before_arguments : over_a usual (codes "define(`f',`first')f(define(`f',`second')) f\n") ≡ done (codes "first second\n") [] 4
definition_before_arguments = refl

-- three nested calls within a limit of two, and of three
too_deep : over_a (limited 4294967295 2) (codes "define(`f',`$1')f(f(f(`x')))\n") ≡ record {
  output = [];
  messages = codes "m4:a.m4:1: ERROR: more than 2 nested calls\n";
  reason = Ends causes.NestingLimit;
  status = 1;
  frozen = None;
  calls = 4;
  saved = [];
}
unfolding digits
too_deep = refl

deep_enough : over_a (limited 4294967295 3) (codes "define(`f',`$1')f(f(f(`x')))\n") ≡ done (codes "x\n") [] 4
deep_enough = refl

-- a call that calls itself, within a limit of a hundred
too_many : over_a (limited 100 1024) (codes "define(`l',`l')l\n") ≡ record {
  output = [];
  messages = codes "m4:a.m4:1: ERROR: more than 100 calls\n";
  reason = Ends causes.ExpansionLimit;
  status = 1;
  frozen = None;
  calls = 100;
  saved = [];
}
unfolding digits
too_many = refl

-- the count, all arguments, an argument's number of two digits, and a `$` that means itself
dollars : over_a usual (codes "define(`g',`[$#|$*|$2$11|$x]')g(a,`b',)\n") ≡ done (codes "[3|a,b,|b|$x]\n") [] 2
unfolding digits
dollars = refl

-- a source that can't be opened
unopened : run usual None (Unopened (codes "nofile") ∷ Opened (codes "b.m4") (codes "z\n") ∷ [])
    ≡ record (done (codes "z\n") (codes "m4: cannot open `nofile'\n") 0) { status = 1 }
unopened = refl

-- a string without its end, in a run that freezes
string_without_end : over_a freezing (codes "`abc") ≡ record {
  output = [];
  messages = codes "m4:a.m4:1: ERROR: end of input in string\n";
  reason = Ends causes.EndInString;
  status = 1;
  frozen = None;
  calls = 0;
  saved = [];
}
unfolding digits
string_without_end = refl

-- white space before an argument is dropped, after it kept
blanks : over_a usual (codes "define(`f',`$1$1')f( a , b)\n") ≡ done (codes "a a \n") [] 2
blanks = refl

-- parentheses keep a comma within an argument
parentheses : over_a usual (codes "define(`f',`$#:$1')f((a,b),c)\n") ≡ done (codes "2:(a,b)\n") [] 2
unfolding digits
parentheses = refl

-- nothing in a comment ends an argument
comment_in_argument : over_a usual (codes "define(`f',`<$1>')f(a#,)\n)\n") ≡ done (codes "<a#,)\n>\n") [] 2
comment_in_argument = refl

-- a result is read again, and joins what follows; a string that is quoted apart does not
joined_names : over_a usual (codes "define(`a',`x')define(`xy',`Z')a`'y a()y\n") ≡ done (codes "xy Z\n") [] 5
joined_names = refl

-- the rest of a line is dropped
rest_of_line : over_a usual (codes "a dnl b\nc\n") ≡ done (codes "a c\n") [] 1
rest_of_line = refl

-- one argument too many
excess_arguments : over_a usual (codes "define(`a',`b',`c')a\n")
    ≡ done (codes "b\n") (codes "m4:a.m4:1: Warning: excess arguments to builtin `define' ignored\n") 2
unfolding digits
excess_arguments = refl

-- an argument list without its end: the line is that of the call
list_without_end : over_a usual (codes "define(`f',`$1')\nf(a\n") ≡ record {
  output = codes "\n";
  messages = codes "m4:a.m4:2: ERROR: end of input in argument list\n";
  reason = Ends causes.EndInArguments;
  status = 1;
  frozen = None;
  calls = 2;
  saved = [];
}
unfolding digits
list_without_end = refl

-- a quoted string loses one level of quotes, and nothing in it is expanded
quotes_nest : over_a usual (codes "define(`f',`x')`f' ``f''\n") ≡ done (codes "f `f'\n") [] 1
quotes_nest = refl

-- a comment is copied, with its delimiters
comments_are_copied : over_a usual (codes "define(`f',`x')# `f' f\nf\n") ≡ done (codes "# `f' f\nx\n") [] 2
comments_are_copied = refl

-- a builtin that needs parameters is text without them
without_parameters : over_a usual (codes "define dnl\n`a'\n") ≡ done (codes "define a\n") [] 1
without_parameters = refl

-- bytes that belong to no other token: a digit before a name, an end-quote outside of a string
bytes_are_copied : over_a usual (codes "define(`a',`x')1a+'(,)\n") ≡ done (codes "1x+'(,)\n") [] 2
bytes_are_copied = refl

-- a name's own text, with no arguments and with one that is empty
own_name : over_a usual (codes "define(`f',``$0':$#')f f()\n") ≡ done (codes "f:0 f:1\n") [] 3
unfolding digits
own_name = refl

-- all arguments as they are, and each in quotes
quoted_arguments : over_a usual (codes "define(`b',`x')define(`g',`[$*] [$@]')g(a,``b'')\n") ≡ done (codes "[a,b] [a,`b']\n") [] 3
quoted_arguments = refl

-- of nesting 0 is no limit
no_nesting_limit : over_a (limited 4294967295 0) (codes "define(`f',`$1')f(f(f(`x')))\n") ≡ done (codes "x\n") [] 4
no_nesting_limit = refl

-- where both quotes are alike, the second ends the string
end_quote_first : over_a usual (codes "changequote(|,|)|a|b|c|\n") ≡ done (codes "abc\n") [] 1
end_quote_first = refl

-- a begin-quote alone has the usual end-quote
begin_quote_alone : over_a usual (codes "changequote(<)<a'\n") ≡ done (codes "a\n") [] 1
begin_quote_alone = refl

-- without parameters the usual quotes come back
quotes_come_back : over_a usual (codes "changequote([,])[a]changequote `b'\n") ≡ done (codes "a b\n") [] 2
quotes_come_back = refl

-- empty quotes quote nothing
quotes_disabled : over_a usual (codes "changequote(,)`a' [b]\n") ≡ done (codes "`a' [b]\n") [] 1
quotes_disabled = refl

-- without parameters there are no comments
comments_disabled : over_a usual (codes "define(`f',`x')changecom# f\n") ≡ done (codes "# x\n") [] 3
comments_disabled = refl

-- the newest definition counts, and a name without one is text
undefined_name : over_a usual (codes "define(`f',`x')define(`f',`y')f undefine(`f')f\n") ≡ done (codes "y f\n") [] 4
undefined_name = refl

-- text is kept by the number of its diversion, and brought back where it is asked for
brought_back : over_a usual (codes "divert(1)a\ndivert(2)b\nundivert(1)divert(0)undivert(2)divnum\n") ≡ done (codes "b\na\n0\n") [] 6
unfolding digits
brought_back = refl

-- what is no number selects no diversion
not_a_number : over_a usual (codes "divert(`x')y\n") ≡ done (codes "y\n") (codes "m4:a.m4:1: Warning: non-numeric argument to builtin `divert'\n") 1
unfolding digits
not_a_number = refl

-- a run that ends issues what is left, by rising number
issued_at_the_end : over_a usual (codes "divert(2)two\ndivert(1)one\ndivert(2)dnl\n") ≡ done (codes "one\ntwo\n") [] 4
unfolding digits
issued_at_the_end = refl

-- a definition on top of another, that is taken away again
a_stack_is_unwound : over_a usual (codes "define(`t',`1')pushdef(`t',`2')ifdef(`t',`y',`n') t popdef(`t')t\n") ≡ done (codes "y 2 1\n") [] 6
unfolding digits
a_stack_is_unwound = refl

-- comparisons with more than one pair, and with one argument too many
pairs_are_compared : over_a usual (codes "ifelse(a,b,`1',c,c,`2',`3') ifelse(a,b,`1',`2') ifelse(a,b,c,d,e)\n")
    ≡ done (codes "2 2 d\n") (codes "m4:a.m4:1: Warning: excess arguments to builtin `ifelse' ignored\n") 3
unfolding digits
pairs_are_compared = refl

-- calls by names that are arguments
calls_by_name : over_a usual
    (codes "indir(`define',`a b',`<$0:$1>')indir(`a b',`x') builtin(`shift',`p',`q') indir(`no')\n")
    ≡ done (codes "<a b:x> q \n") (codes "m4:a.m4:1: Warning: undefined macro `no'\n") 4
unfolding digits
calls_by_name = refl

-- the definitions of several names
definitions_are_joined : over_a usual (codes "define(`x',`1')define(`y',defn(`x',`dnl',`x'))y\n")
    ≡ done (codes "11\n") (codes "m4:a.m4:1: Warning: builtin dropped from text\n") 4
unfolding digits
definitions_are_joined = refl

-- a recursion that turns a list round
a_list_is_reversed : over_a usual (codes "define(`rev',`ifelse($#,1,``$1'',`rev(shift($@)),`$1'')')rev(a,b,c)\n") ≡ done (codes "c,b,a\n") [] 9
unfolding digits
a_list_is_reversed = refl

-- definitions are shown by the order of their names
definitions_are_shown : over_a usual (codes "define(`b',`2')define(`a',`1')dumpdef(`b',`a',`dnl',`z')\n")
    ≡ done (codes "\n") (codes "m4:a.m4:1: Warning: undefined macro `z'\na:\t`1'\nb:\t`2'\ndnl:\t<dnl>\n") 3
unfolding digits
definitions_are_shown = refl

-- a definition outside of an argument
a_definition_alone_is_nothing : over_a usual (codes "[defn(`dnl')]\n") ≡ done (codes "[]\n") [] 1
a_definition_alone_is_nothing = refl

-- a definition that is an argument by itself
a_definition_is_an_argument : over_a usual (codes "define(`d',defn(`dnl'))a d b\nc\n") ≡ done (codes "a c\n") [] 3
unfolding digits
a_definition_is_an_argument = refl

-- a builtin with too few arguments only warns
too_few_arguments : over_a usual (codes "ifdef(`define')|\n") ≡ done (codes "|\n") (codes "m4:a.m4:1: Warning: too few arguments to builtin `ifdef'\n") 1
unfolding digits
too_few_arguments = refl
