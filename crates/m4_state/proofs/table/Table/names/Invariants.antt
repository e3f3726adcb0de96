use Rattle.std.proofs.Common.{◌≡◌, ◌++◌, map, drop}
use Rattle.m4_state.proofs.table.Table.names.Given as goal

-- the names so far, with those that are left
abbrev pub invariant-loop-named : goal.invariant-loop-named
invariant-loop-named l = l.names.items ++ map (λ p. p.0) (drop l.named-index l.named-items) ≡ map (λ p. p.0) l.named-items
