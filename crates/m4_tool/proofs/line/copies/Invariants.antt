-- The texts so far are the texts that were passed.
use Rattle.std.proofs.Common.{◌≡◌, map, string_bytes, take}
use Rattle.clap.specs.Walk.{texts}
use Rattle.m4_tool.proofs.line.copies.Given as goal

abbrev pub invariant-loop-file : goal.invariant-loop-file
invariant-loop-file l = map string_bytes l.same.items ≡ texts (take l.file-index l.files)
