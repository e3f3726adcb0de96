use Rattle.std.proofs.Common.{◌≡◌, ◌+◌, ◌≤◌, drop}
use Rattle.m4_input.specs.Pending.{newlines_in}
use Rattle.m4_input.proofs.file.count_few.Given as goal

-- those so far and those of the rest
abbrev pub invariant-loop-byte : goal.invariant-loop-byte
invariant-loop-byte l = (l.count ≤ l.byte-index) × (l.count + newlines_in (drop l.byte-index l.bytes) ≡ newlines_in l.bytes)
