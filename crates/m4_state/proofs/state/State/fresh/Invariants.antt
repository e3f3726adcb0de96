-- The builtins that are left lead from the state so far to the fresh one.
use Rattle.std.proofs.Common.{◌≡◌, drop}
use Rattle.std.specs.Prelude.{fold}
use Rattle.m4_state.specs.Builtin.{table}
use Rattle.m4_state.specs.Fresh.{fresh, with_builtin}
use Rattle.m4_state.proofs.state.State.fresh.Given as goal

abbrev pub invariant-loop-builtin : goal.invariant-loop-builtin
invariant-loop-builtin l = record {
  items : l.builtin-items ≡ table;
  rest : fold (with_builtin l.prefix) l.state (drop l.builtin-index table) ≡ fresh l.prefix;
}
