-- What contracts know of the late file: its name, and the files before it.
use Rattle.run_tests.proofs.tool.late.after_pieces.Given as goal

abbrev pub ghosts-after_late : goal.ghosts-after_late
ghosts-after_late g a = record { before = g.W.World.files a.world; kept = g.W.World.kept a.world; name = a.name; failures = g.W.World.failures a.world }
