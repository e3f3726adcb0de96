-- What contracts know of the late file: its name, and the files before the run.
use Rattle.m4_tool.proofs.follow.running.run_line.Given as goal

abbrev pub ghosts-run_late : goal.ghosts-run_late
ghosts-run_late g a = record { before = g.W.World.files a.world; kept = g.W.World.kept a.world; name = a.name; failures = g.W.World.failures a.world }
