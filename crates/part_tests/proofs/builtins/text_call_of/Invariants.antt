use Rattle.std.specs.List.{AllByRecursion}
use Rattle.m4_builtins.specs.Args.{IsArg}
use Rattle.part_tests.proofs.builtins.text_call_of.Given as goal

-- the arguments so far are in order
abbrev pub invariant-loop-text : goal.invariant-loop-text
invariant-loop-text l = AllByRecursion IsArg l.items.items
