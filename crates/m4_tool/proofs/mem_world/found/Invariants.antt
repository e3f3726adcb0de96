use Rattle.std.proofs.Common.{◌≡◌, drop}
use Rattle.m4_tool.specs.Memory.{given_files}
use Rattle.m4_tool.proofs.mem_world.found.Given as goal

abbrev pub invariant-loop-file : goal.invariant-loop-file
invariant-loop-file l = given_files l.given l.name ≡ given_files (drop l.file-index l.given) l.name
