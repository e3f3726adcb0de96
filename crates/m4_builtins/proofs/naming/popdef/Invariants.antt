use Rattle.std.proofs.Common.{◌≡◌, drop}
use Rattle.m4_state.specs.State.{popped}
use Rattle.m4_builtins.specs.Naming.{for_each}
use Rattle.m4_builtins.proofs.naming.popdef.Given as goal

-- the arguments that are left lead to the state that all lead to
abbrev pub invariant-loop-arg : goal.invariant-loop-arg
invariant-loop-arg l = for_each popped (drop l.arg-index l.list) l.state ≡ for_each popped l.list l.fn.state
