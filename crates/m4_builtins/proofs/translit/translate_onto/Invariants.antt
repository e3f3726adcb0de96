use Rattle.std.proofs.Common.{◌≡◌, ◌++◌, drop}
use Rattle.m4_builtins.specs.Translit.{translated}
use Rattle.m4_builtins.proofs.translit.translate_onto.Given as goal

-- what is written and what the bytes that are left give is all
abbrev pub invariant-loop-byte : goal.invariant-loop-byte
invariant-loop-byte l = l.out ++ translated (drop l.byte-index l.text) l.from l.to ≡ l.fn.out ++ translated l.text l.from l.to
