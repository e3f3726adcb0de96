use Rattle.std.specs.List.{AllByRecursion}
use Rattle.m4_builtins.specs.Args.{IsArg}
use Rattle.part_tests.proofs.builtins.call_of.Given as goal

-- the arguments so far are in order
abbrev pub invariant-loop-one : goal.invariant-loop-one
invariant-loop-one l = AllByRecursion IsArg l.items.items
