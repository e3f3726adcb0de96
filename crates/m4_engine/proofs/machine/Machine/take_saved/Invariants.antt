use Rattle.std.proofs.Common.{◌≡◌, ◌++◌, length}
use Rattle.m4_engine.specs.Wraps.{joined_back}
use Rattle.m4_engine.proofs.machine.Machine.take_saved.Given as goal

-- what was joined, and then what is left
abbrev pub invariant-loop-text : goal.invariant-loop-text
invariant-loop-text l = l.joined.items ++ joined_back l.left.items ≡ joined_back (l.fn.self).saved

abbrev pub decreases-loop-text : goal.decreases-loop-text
decreases-loop-text l = length l.left.items
