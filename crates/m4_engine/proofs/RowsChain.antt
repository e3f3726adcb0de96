-- RowsChain: a worked chain of four runs, computed.
use Rattle.std.proofs.Common.{None, Some, ◌≡◌, ◌++◌, ℕ, List, [], ◌∷◌, false, refl}
use Rattle.std.specs.Prelude.{codes, map}
use Rattle.std.specs.Fmt.{digits}
use Rattle.m4_frozen.specs.ReaderSteps as steps
use Rattle.m4_engine.specs.File.{Source, Opened}
use Rattle.m4_engine.specs.Run.{RunResult, run}
use Rattle.m4_engine.specs.Joined.{Link, chain}
use Rattle.m4_engine.proofs.Rows.{usual, freezing}

abbrev file : List ℕ → List Source
file text = Opened (codes "a.m4") text ∷ []

abbrev link : List ℕ → Link
link text = record { prefix = false; sources = file text }

-- a name is defined; its value is hidden by another, of which text is diverted; the name is restored; the
-- diverted text is issued
four_outputs : map (λ (r : RunResult). r.output)
    (chain usual false None (file (codes "define(`n',`1')dnl\n"))
    (link (codes "n pushdef(`n',`2')divert(1)n\n") ∷ link (codes "divert(0)n popdef(`n')dnl\n")
    ∷ link (codes "n undivert(1)end\n") ∷ []))
    ≡ [] ∷ codes "1 " ∷ codes "2 " ∷ codes "1 2\nend\n" ∷ []
unfolding digits steps.file_at steps.version_at steps.directives_at steps.directive_at steps.length_at steps.string_at
four_outputs = refl

-- one run over the four
joint : (run usual None (Opened (codes "a.m4") (codes "define(`n',`1')dnl\n")
    ∷ Opened (codes "b.m4") (codes "n pushdef(`n',`2')divert(1)n\n")
    ∷ Opened (codes "c.m4") (codes "divert(0)n popdef(`n')dnl\n") ∷ Opened (codes "d.m4") (codes "n undivert(1)end\n")
    ∷ [])).output ≡ codes "1 2 1 2\nend\n"
unfolding digits
joint = refl

-- what the first two froze, joined
second_frozen : (run freezing None (Opened (codes "a.m4") (codes "define(`n',`1')dnl\n")
    ∷ Opened (codes "b.m4") (codes "n pushdef(`n',`2')divert(1)n\n") ∷ [])).frozen
    ≡ Some
    (codes
    "# m4 frozen state\nV1\nF8,8\n__file____file__\nT7,0\n__gnu__\nF8,8\n__line____line__\nT8,0\n__unix__\nF7,7\n"
    ++ codes
    "builtinbuiltin\nF9,9\nchangecomchangecom\nF11,11\nchangequotechangequote\nF4,4\ndecrdecr\nF6,6\ndefinedefine\nF4,4\n"
    ++ codes
    "defndefn\nF6,6\ndivertdivert\nF6,6\ndivnumdivnum\nF3,3\ndnldnl\nF7,7\ndumpdefdumpdef\nF8,8\nerrprinterrprint\nF4,4\n"
    ++ codes
    "evaleval\nF5,5\nifdefifdef\nF6,6\nifelseifelse\nF4,4\nincrincr\nF5,5\nindexindex\nF5,5\nindirindir\nF3,3\nlenlen\n"
    ++ codes
    "F6,6\nm4exitm4exit\nF6,6\nm4wrapm4wrap\nT1,1\nn1\nT1,1\nn2\nF6,6\npopdefpopdef\nF7,7\npushdefpushdef\nF5,5\n"
    ++ codes
    "shiftshift\nF6,6\nsubstrsubstr\nF8,8\ntranslittranslit\nF8,8\nundefineundefine\nF8,8\nundivertundivert\nD1,2\n2\n\n"
    ++ codes "# End of frozen state file\n")
unfolding digits
second_frozen = refl
