use Rattle.std.proofs.Common.{◌≡◌, ◌++◌, ◌-◌, ◌≤◌}
use Rattle.m4_builtins.specs.Translit.{bytes_between}
use Rattle.m4_builtins.proofs.translit.push_run.Given as goal

-- what is written and the bytes from here on are all
abbrev pub invariant-loop-byte : goal.invariant-loop-byte
invariant-loop-byte l = l.out.items ++ bytes_between l.byte l.to ≡ l.fn.out.items ++ bytes_between l.from l.to

abbrev pub decreases-loop-byte : goal.decreases-loop-byte
decreases-loop-byte l = l.to - l.byte

-- the same, of bytes that fall
abbrev pub invariant-loop-byte-2 : goal.invariant-loop-byte-2
invariant-loop-byte-2 l = record {
  written : l.out.items ++ bytes_between l.byte l.to ≡ l.fn.out.items ++ bytes_between l.from l.to;
  falls : l.to ≤ l.byte;
}

abbrev pub decreases-loop-byte-2 : goal.decreases-loop-byte-2
decreases-loop-byte-2 l = l.byte - l.to
