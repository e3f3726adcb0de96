use Rattle.std.proofs.Common.{◌≡◌, ◌<◌, ◌≤◌, List, length, sym, ap, subst, ◌∙◌, arith}
use Rattle.std.proofs.lemmas.Option.{same_Some}
use Rattle.m4_state.specs.declared.definition.Def.{Def}
use Rattle.m4_state.specs.Entries.{in_order}
use Rattle.m4_state.specs.Marks.{IsKept}
use Rattle.m4_state.specs.Table.{Pairs, without_top}
use Rattle.m4_state.proofs.AtPlace.{last_leaves, top_leaves, nothing_leaves}
use Rattle.m4_state.proofs.Marked.{without_top_kept}
use Rattle.m4_state.proofs.table.Table.pop.Goals as goal

-- the name goes with its only definition
pub returns-then-len-lt2-clause-value : goal.returns-then-len-lt2-clause-value
returns-then-len-lt2-clause-value c =
    let few : length c.index.result.now < 2 = omega (arith, c.len.ensures, c.if-len-lt2.true) in
    last_leaves c.self.inside.entries c.args.name.now _ c.place_in.ensures c.in-Some.i c.in-Some.is c.index.result.now c.index.ensures
    few c.swap_remove_index.result c.swap_remove_index.new.self c.swap_remove_index.ensures.entry c.swap_remove_index.ensures.updates
    ∙ ap (λ (t : Pairs). without_top t c.args.name.now) c.self.view_is

pub invariant_of-self : goal.invariant_of-self
invariant_of-self c =
    let few : length c.index.result.now < 2 = omega (arith, c.len.ensures, c.if-len-lt2.true) in
    subst (IsKept c.self.inside.marks)
    (sym (last_leaves c.self.inside.entries c.args.name.now _ c.place_in.ensures c.in-Some.i c.in-Some.is c.index.result.now c.index.ensures
    few c.swap_remove_index.result c.swap_remove_index.new.self c.swap_remove_index.ensures.entry c.swap_remove_index.ensures.updates))
    (without_top_kept c.self.inside.marks (in_order c.self.inside.entries.entries) c.args.name.now c.self.invariant)

pub returns-then-len-lt2-clause-table : goal.returns-then-len-lt2-clause-table
returns-then-len-lt2-clause-table c = (invariant_of-self c).table

pub returns-then-len-lt2-clause-sized : goal.returns-then-len-lt2-clause-sized
returns-then-len-lt2-clause-sized c = (invariant_of-self c).sized

-- all but the last definition stay
pub returns-else-len-lt2-clause-value : goal.returns-else-len-lt2-clause-value
returns-else-len-lt2-clause-value c =
    let same : c.index.result.now ≡ c.index_mut.result.now = same_Some _ _ (sym c.index.ensures ∙ c.index_mut.ensures.value) in
    let many : 2 ≤ length c.index_mut.result.now = omega (arith, c.len.ensures, c.if-len-lt2.false, ap (λ (ds : List Def). length ds) same) in
    top_leaves c.self.inside.entries c.args.name.now _ c.place_in.ensures c.in-Some.i c.in-Some.is c.index_mut.result.now
    c.index_mut.ensures.value many c.pop.new.self c.pop.ensures
    ∙ ap (λ (t : Pairs). without_top t c.args.name.now) c.self.view_is

pub invariant_of-self-else-len-lt2 : goal.invariant_of-self-else-len-lt2
invariant_of-self-else-len-lt2 c =
    let same : c.index.result.now ≡ c.index_mut.result.now = same_Some _ _ (sym c.index.ensures ∙ c.index_mut.ensures.value) in
    let many : 2 ≤ length c.index_mut.result.now = omega (arith, c.len.ensures, c.if-len-lt2.false, ap (λ (ds : List Def). length ds) same) in
    subst (IsKept c.self.inside.marks)
    (sym (top_leaves c.self.inside.entries c.args.name.now _ c.place_in.ensures c.in-Some.i c.in-Some.is c.index_mut.result.now
    c.index_mut.ensures.value many c.pop.new.self c.pop.ensures))
    (without_top_kept c.self.inside.marks (in_order c.self.inside.entries.entries) c.args.name.now c.self.invariant)

pub returns-else-len-lt2-clause-table : goal.returns-else-len-lt2-clause-table
returns-else-len-lt2-clause-table c = (invariant_of-self-else-len-lt2 c).table

pub returns-else-len-lt2-clause-sized : goal.returns-else-len-lt2-clause-sized
returns-else-len-lt2-clause-sized c = (invariant_of-self-else-len-lt2 c).sized

-- a name without definitions
pub returns-in_default-clause-value : goal.returns-in_default-clause-value
returns-in_default-clause-value c =
    sym c.self.view_is ∙ nothing_leaves c.self.inside.entries c.args.name.now _ c.place_in.ensures c.in_default.is
    ∙ ap (λ (t : Pairs). without_top t c.args.name.now) c.self.view_is
