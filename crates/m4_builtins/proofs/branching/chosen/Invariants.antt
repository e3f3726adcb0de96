use Rattle.std.proofs.Common.{◌≡◌, length}
use Rattle.m4_builtins.specs.Args.{texts_of}
use Rattle.m4_builtins.specs.Branching.{chosen_text}
use Rattle.m4_builtins.proofs.branching.chosen.Given as goal

-- the arguments that are left choose what all choose
abbrev pub invariant-loop-rest : goal.invariant-loop-rest
invariant-loop-rest l = chosen_text (texts_of l.rest) ≡ chosen_text (texts_of l.list)

abbrev pub decreases-loop-rest : goal.decreases-loop-rest
decreases-loop-rest l = length l.rest
