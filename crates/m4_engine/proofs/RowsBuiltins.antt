-- RowsBuiltins: worked runs of the builtins that measure and change texts, count, compute, give a place,
-- save text for the end or end the run, computed from the definitions.
use Rattle.std.proofs.Common.{Some, true, ◌≡◌, ◌++◌, [], ◌∷◌, refl}
use Rattle.std.specs.Prelude.{codes}
use Rattle.std.specs.Fmt.{digits}
use Rattle.std.specs.Int.{int_wrap}
use Rattle.m4_engine.specs.declared.ending.Cause.TheVariants as causes
use Rattle.m4_engine.specs.declared.options.Options.{Options}
use Rattle.m4_engine.specs.Expansion.{Ends}
use Rattle.m4_engine.proofs.Rows.{usual, freezing, over_a, over_both, done}

-- a freezing run reads what was saved, and freezes without it
saved_and_frozen : over_a freezing (codes "m4wrap(`bye')x\n")
    ≡ record (done (codes "x\nbye") [] 1) {
      frozen =
          Some
          (codes
          "# m4 frozen state\nV1\nF8,8\n__file____file__\nT7,0\n__gnu__\nF8,8\n__line____line__\nT8,0\n__unix__\nF7,7\n"
          ++ codes
          "builtinbuiltin\nF9,9\nchangecomchangecom\nF11,11\nchangequotechangequote\nF4,4\ndecrdecr\nF6,6\ndefinedefine\nF4,4\n"
          ++ codes
          "defndefn\nF6,6\ndivertdivert\nF6,6\ndivnumdivnum\nF3,3\ndnldnl\nF7,7\ndumpdefdumpdef\nF8,8\nerrprinterrprint\nF4,4\n"
          ++ codes
          "evaleval\nF5,5\nifdefifdef\nF6,6\nifelseifelse\nF4,4\nincrincr\nF5,5\nindexindex\nF5,5\nindirindir\nF3,3\nlenlen\n"
          ++ codes
          "F6,6\nm4exitm4exit\nF6,6\nm4wrapm4wrap\nF6,6\npopdefpopdef\nF7,7\npushdefpushdef\nF5,5\nshiftshift\nF6,6\n"
          ++ codes
          "substrsubstr\nF8,8\ntranslittranslit\nF8,8\nundefineundefine\nF8,8\nundivertundivert\n# End of frozen state file\n");
      saved = codes "bye" ∷ [];
    }
unfolding digits
saved_and_frozen = refl

-- what was saved is read after all files
saved_for_the_end : over_both (codes "m4wrap(`bye')x\n") (codes "z\n") ≡ record (done (codes "x\nz\nbye") [] 1) { saved = codes "bye" ∷ [] }
unfolding digits
saved_for_the_end = refl

-- ranges that begin where others end
ranges_that_meet : over_a usual (codes "translit(`+,-12345', `+--1-5', `<;>a-c-a')\n") ≡ done (codes "<;>abcba\n") [] 1
unfolding digits
ranges_that_meet = refl

-- texts that were saved are read with the newest first
newest_first : over_a usual (codes "m4wrap(`a ')m4wrap(`b ')x\n") ≡ record (done (codes "x\nb a ") [] 2) { saved = codes "a " ∷ codes "b " ∷ [] }
unfolding digits
newest_first = refl

-- a run that ends by `m4exit` doesn't freeze
exit_with_a_code : over_a freezing (codes "x m4exit(`3')y\n") ≡ record (done (codes "x ") [] 1) { reason = Ends (causes.Exited 3); status = 3 }
unfolding digits
exit_with_a_code = refl

-- a definition is dropped from a text
definition_dropped : over_a usual (codes "define(`x',a`'defn(`len'))x\n") ≡ done (codes "a\n") (codes "m4:a.m4:1: Warning: builtin dropped from text\n") 3
unfolding digits
definition_dropped = refl

-- texts are measured, searched and cut; numbers are counted
texts_and_numbers : over_a usual (codes
    "len(`abc') index(`abcabc',`ca') index(`a',`z') substr(`abcdef',`2',`3') substr(`abc',`3') incr(2147483647) decr(`-7')\n")
    ≡ done (codes "3 2 -1 cde  -2147483648 -8\n") [] 7
unfolding digits
texts_and_numbers = refl

-- bytes are replaced and deleted
replaced_and_deleted : over_a usual (codes "translit(`abcba',`a-c',`C-A') translit(`hello',`l')\n") ≡ done (codes "CBABC heo\n") [] 2
unfolding digits
replaced_and_deleted = refl

-- messages, and the place of a call
messages_and_place : over_a usual (codes "errprint(`a',`b')\n__line__ __file__\n") ≡ done (codes "\n2 a.m4\n") (codes "a b") 3
unfolding digits
messages_and_place = refl

-- saved text saves more
saved_again : over_a usual (codes "m4wrap(`m4wrap(`c')b')a\n") ≡ record (done (codes "a\nbc") [] 2) { saved = codes "m4wrap(`c')b" ∷ [] }
unfolding digits
saved_again = refl

-- a code that is out of range
exit_out_of_range : over_a usual (codes "m4exit(`300')x")
    ≡ record (done [] (codes "m4:a.m4:1: Warning: exit status out of range\n") 1) { reason = Ends (causes.Exited 1); status = 1 }
unfolding digits
exit_out_of_range = refl

-- an empty number
empty_number : over_a usual (codes "incr(`')\n") ≡ done (codes "1\n") (codes "m4:a.m4:1: Warning: empty string treated as 0 in builtin `incr'\n") 1
unfolding digits
empty_number = refl

-- two definitions are dropped from a text
definitions_dropped : over_a usual (codes "define(`x',a`'defn(`len')defn(`len'))x\n")
    ≡ done (codes "a\n") (codes "m4:a.m4:1: Warning: builtin dropped from text\n") 4
unfolding digits
definitions_dropped = refl

-- a definition counts as an empty text
definition_as_text : over_a usual (codes "incr(defn(`len'))len(defn(`len'))\n")
    ≡ done (codes "10\n") (codes "m4:a.m4:1: Warning: empty string treated as 0 in builtin `incr'\n") 4
unfolding digits
definition_as_text = refl

-- a builtin's name is pushed and popped
name_pushed_and_popped : over_a usual (codes "pushdef(`len',`[$1]')len(ab)popdef(`len')len(ab)popdef(`len')len(ab)\n") ≡ done (codes "[ab]2len(ab)\n") [] 5
unfolding digits
name_pushed_and_popped = refl

-- diversions are brought back after what was saved
saved_before_diversions : over_a usual (codes "divert(1)d\ndivert(0)m4wrap(`w divert(2)e ')x\n")
    ≡ record (done (codes "x\nw d\ne ") [] 4) { saved = codes "w divert(2)e " ∷ [] }
unfolding digits
saved_before_diversions = refl

-- saved text has no place
saved_without_place : over_a usual (codes "m4wrap(`__line__ __file__ incr(x)')x\n")
    ≡ record (done (codes "x\n0  ") (codes "m4: Warning: non-numeric argument to builtin `incr'\n") 4)
    { saved = codes "__line__ __file__ incr(x)" ∷ [] }
unfolding digits
saved_without_place = refl

-- saved text ends the run
saved_exit : over_a usual (codes "m4wrap(`m4exit(`4')z')x\n")
    ≡ record (done (codes "x\n") [] 2) { reason = Ends (causes.Exited 4); status = 4; saved = codes "m4exit(`4')z" ∷ [] }
unfolding digits
saved_exit = refl

-- a run that ends by `m4exit` brings nothing back
exit_without_diversions : over_a usual (codes "divert(1)a\ndivert(0)b m4exit\n") ≡ record (done (codes "b ") [] 3) { reason = Ends (causes.Exited 0) }
unfolding digits
exit_without_diversions = refl

-- lines are counted in arguments and strings
lines_counted : over_a usual (codes "__line__\n__line__ indir(`nope'\n,x)\n`a\nb'__line__\n")
    ≡ done (codes "1\n2 \na\nb5\n") (codes "m4:a.m4:2: Warning: undefined macro `nope\n'\n") 4
unfolding digits
lines_counted = refl

-- and only those of the file: the line within a definition's text is that of its call
lines_of_the_file : over_a usual (codes "define(`where',\n`__line__\n__line__')where\n\nwhere\n") ≡ done (codes "3\n3\n\n5\n5\n") [] 7
unfolding digits
lines_of_the_file = refl

-- expressions, with their precedence, in a radix and a width
expressions : over_a usual (codes "eval(`-666',`6',`10') eval(`2+3*4') eval(`1||1/0')\n") ≡ done (codes "-0000003030 14 1\n") [] 3
unfolding digits int_wrap
expressions = refl

-- quotients, shifts, literals and a zero divisor
computed : over_a usual
    (codes "eval(`7/-2') eval(`-2147483648/-1') eval(`1<<33') eval(`0x1F') eval(`255',16,4) eval(`1/0')x\n")
    ≡ done (codes "-3 -2147483648 2 31 00ff x\n") (codes "m4:a.m4:1: Warning: divide by zero in eval\n") 6
unfolding digits int_wrap
computed = refl

-- a radix of 36, signs, and an empty expression
signs_and_levels : over_a usual (codes "eval(`0r36:z') eval(`!0+~0') eval(`2==2&1') eval(`')\n")
    ≡ done (codes "35 0 1 0\n") (codes "m4:a.m4:1: Warning: empty string treated as 0 in builtin `eval'\n") 4
unfolding digits int_wrap
signs_and_levels = refl

-- a radix out of range, and what is no expression
wrong_expressions : over_a usual (codes "eval(`1',`1')eval(`2**3')eval(`1||2+')x\n")
    ≡ done (codes "x\n")
    (codes
    "m4:a.m4:1: Warning: radix or width out of range in eval\nm4:a.m4:1: Warning: bad expression in eval\nm4:a.m4:1: Warning: bad expression in eval\n") 3
unfolding digits int_wrap
wrong_expressions = refl

-- the options of a run whose builtins have prefixes
abbrev prefixed : Options
prefixed = record usual { prefix = true }

-- builtins with prefixes
names_with_prefixes : over_a prefixed (codes "m4_define(`a',`b')a define(`a',`c')\n") ≡ done (codes "b define(a,c)\n") [] 2
names_with_prefixes = refl

-- a builtin is called and reported by its own name
own_names_with_prefixes : over_a prefixed (codes "m4_builtin(`incr',`x')m4_builtin(`m4_incr',`4')\n")
    ≡ done (codes "\n")
    (codes "m4:a.m4:1: Warning: non-numeric argument to builtin `incr'\nm4:a.m4:1: Warning: undefined builtin `m4_incr'\n") 2
unfolding digits
own_names_with_prefixes = refl

-- the platform's names have no prefix, and the names of the place have one
platform_without_prefix : over_a prefixed (codes "m4_ifdef(`__unix__',`y',`n') m4_ifdef(`m4___unix__',`y',`n') m4___line__\n") ≡ done (codes "y n 1\n") [] 3
unfolding digits
platform_without_prefix = refl
