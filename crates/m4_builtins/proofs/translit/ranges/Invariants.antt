use Rattle.std.proofs.Common.{◌≡◌, ◌++◌, length}
use Rattle.m4_builtins.specs.Translit.{ranges, ranges_after}
use Rattle.m4_builtins.proofs.translit.ranges.Given as goal

-- the bytes written and the expansion of the rest are all
abbrev pub invariant-loop-rest : goal.invariant-loop-rest
invariant-loop-rest l = l.out.items ++ ranges_after l.before 0 l.rest ≡ ranges l.text

abbrev pub decreases-loop-rest : goal.decreases-loop-rest
decreases-loop-rest l = length l.rest
