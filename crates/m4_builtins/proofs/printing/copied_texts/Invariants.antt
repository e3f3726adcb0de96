use Rattle.std.proofs.Common.{◌≡◌, ◌++◌, drop}
use Rattle.m4_builtins.specs.Args.{texts_of}
use Rattle.m4_builtins.proofs.printing.copied_texts.Given as goal

-- the copies so far and the arguments that are left are all
abbrev pub invariant-loop-arg : goal.invariant-loop-arg
invariant-loop-arg l = l.names.items ++ texts_of (drop l.arg-index l.list) ≡ texts_of l.list
