-- RowsEndings: worked runs that end in a string, a comment or a line without an end, by `m4exit`, or by a frozen
-- file, with their statuses, computed from the definitions.
use Rattle.std.proofs.Common.{◌≡◌, Some, None, ℕ, List, [], ◌∷◌, refl}
use Rattle.std.specs.Prelude.{codes}
use Rattle.std.specs.Fmt.{digits}
use Rattle.m4_frozen.specs.ReaderSteps as steps
use Rattle.m4_frozen.specs.declared.fault.FrozenKind.TheVariants as kinds
use Rattle.m4_input.proofs.Cases.{line_after}
use Rattle.m4_engine.specs.declared.ending.Cause.TheVariants as causes
use Rattle.m4_engine.specs.Expansion.{Ends}
use Rattle.m4_engine.specs.File.{Opened, Unopened}
use Rattle.m4_engine.specs.Start.{frozen_file}
use Rattle.m4_engine.specs.Run.{RunResult, run}
use Rattle.m4_engine.proofs.Rows.{usual, over_a, done}

-- a source that can't be opened, and then a file
abbrev missing_then : List ℕ → RunResult
missing_then text = run usual None (Unopened (codes "nofile") ∷ Opened (codes "b.m4") text ∷ [])

-- a code of 0 after it is status 1
exit_after_missing : missing_then (codes "x m4exit(`0')y\n")
    ≡ record (done (codes "x ") (codes "m4: cannot open `nofile'\n") 1) { reason = Ends (causes.Exited 0); status = 1 }
unfolding digits
exit_after_missing = refl

-- another code is the status
exit_with_code_after_missing : missing_then (codes "m4exit(`3')")
    ≡ record (done [] (codes "m4: cannot open `nofile'\n") 1) { reason = Ends (causes.Exited 3); status = 3 }
unfolding digits
exit_with_code_after_missing = refl

-- a comment without its end: the line is where it begins
comment_without_end : over_a usual (codes "x\n# a `b'")
    ≡ record (done (codes "x\n") (codes "m4:a.m4:2: ERROR: end of input in comment\n") 0)
    { reason = Ends causes.EndInComment; status = 1 }
unfolding digits
comment_without_end = refl

-- and that of a string
string_over_lines : over_a usual (codes "x\n\n`ab\nc")
    ≡ record (done (codes "x\n\n") (codes "m4:a.m4:3: ERROR: end of input in string\n") 0)
    { reason = Ends causes.EndInString; status = 1 }
unfolding digits
string_over_lines = refl

-- the last line is dropped, also without its newline
last_line_dropped : over_a usual (codes "a dnl ") ≡ done (codes "a ") [] 1
last_line_dropped = refl

-- text that was saved or diverted is discarded, and counts as none
saved_before_an_exit : over_a usual (codes "divert(1)d\ndivert(0)m4wrap(`w')x m4exit(`4')y\n")
    ≡ record (done (codes "x ") [] 4) { reason = Ends (causes.Exited 4); status = 4 }
unfolding digits
saved_before_an_exit = refl

-- a frozen file that is refused: the status is 1, nothing is read, and its text is not issued
refused_file : run usual (Some (frozen_file (codes "V1\nD0,3\nhi\n\nX\n"))) (Opened (codes "a.m4") (codes "x") ∷ [])
    ≡ record (done [] [] 0) { reason = Ends (causes.Frozen (record { kind = kinds.UnknownDirective; offset = 12 })); status = 1 }
unfolding steps.file_at steps.version_at steps.directives_at steps.directive_at steps.length_at steps.string_at
refused_file = refl

-- a line of more than 32 bits is exact, and the greatest one has 64
line_of_33_bits : line_after (Some []) 4294967296 ≡ 4294967297
line_of_33_bits = refl

greatest_line : line_after (Some []) 18446744073709551615 ≡ 18446744073709551615
greatest_line = refl
