use Rattle.std.proofs.Common.{◌++◌, map, sym, ap, ◌∙◌, arith}
use Rattle.std.proofs.lemmas.List.{append-nil, drop_all}
use Rattle.m4_state.specs.Table.{Pair, Pairs}
use Rattle.m4_state.proofs.table.Table.names.Goals as goal

-- the names of the pairs were copied
pub returns : goal.returns
returns c =
    let names = c.loop-named.names.items in
    let none = drop_all c.loop-named.named-index c.deref-named-items.result.now (omega (arith, c.loop-named-test.false)) in
    sym (append-nil names) ∙ ap (λ (ps : Pairs). names ++ map (λ (p : Pair). p.0) ps) (sym none) ∙ c.loop-named.invariant
    ∙ ap (λ (ps : Pairs). map (λ (p : Pair). p.0) ps) (c.deref-named-items.ensures.value ∙ c.in_ok-all.ensures)
