use Rattle.std.proofs.Common.{◌≡◌, List, [], ◌∷◌, ◌++◌, Some, None, sym, ap, ◌∙◌, rules}
use Rattle.std.specs.FinMap.{put}
use Rattle.std.specs.Map.{lookup}
use Rattle.indexmap.specs.Entry.{entry_value, map_with_value}
use Rattle.m4_state.specs.declared.definition.Def.{Def}
use Rattle.m4_state.specs.Entries.{in_order}
use Rattle.m4_state.specs.Table.{byte_order}
use Rattle.m4_state.proofs.InOrder.{has_bytes, stack_at_found, put_in_order, same_in_order}
use Rattle.m4_state.proofs.entries.push_key_in.Goals as goal

-- a change that was refused left the stack's definitions as they were
pub returns-in_err-push-in-Occupied-clause-err : goal.returns-in_err-push-in-Occupied-clause-err
unfolding entry_value map_with_value
returns-in_err-push-in-Occupied-clause-err c =
    let o = c.in-Occupied.entry in
    let kept = same_in_order o.map.now.entries o.index c.into_mut.result.now c.push.new.self c.into_mut.ensures.value c.in_err-push-in-Occupied.ensures.err in
    search (rules, kept)

-- the name was there
pub returns-in_ok-push-in-Occupied-clause-ok : goal.returns-in_ok-push-in-Occupied-clause-ok
returns-in_ok-push-in-Occupied-clause-ok c =
    let e = c.in_ok-entry.field-0 in
    let stack = c.push.new.self in
    let old = c.args.entries.now.entries in
    let key = c.args.key in
    let updates = c.in_ok-entry.ensures.update.0 stack in
    let found : lookup (has_bytes key) old ≡ Some c.into_mut.result.now = sym c.in_ok-entry.ensures.value
    ∙ ap entry_value c.in-Occupied.is ∙ c.into_mut.ensures.value in
    let more = c.in_ok-push-in-Occupied.ensures.ok ∙ ap (λ (xs : List Def). xs ++ c.args.def ∷ []) (sym (stack_at_found key old _ found)) in
    ◌∙◌ {b = in_order (map_with_value e stack).entries} (search rules)
    (put_in_order key old (map_with_value e stack).entries stack updates.3 updates.1
    ∙ ap (λ (xs : List Def). put byte_order key xs (in_order old)) more)

-- the name is new
pub returns-in-Vacant-clause-ok : goal.returns-in-Vacant-clause-ok
unfolding entry_value
returns-in-Vacant-clause-ok c =
    let e = c.in_ok-entry.field-0 in
    let stack = c.of.result in
    let old = c.args.entries.now.entries in
    let key = c.args.key in
    let updates = c.in_ok-entry.ensures.update.0 stack in
    let found : lookup (has_bytes key) old ≡ None = sym c.in_ok-entry.ensures.value ∙ ap entry_value c.in-Vacant.is in
    let more = c.of.ensures ∙ ap (λ (xs : List Def). xs ++ c.args.def ∷ []) (sym (stack_at_found key old _ found)) in
    ◌∙◌ {b = in_order (map_with_value e stack).entries} (search rules)
    (put_in_order key old (map_with_value e stack).entries stack updates.3 updates.1
    ∙ ap (λ (xs : List Def). put byte_order key xs (in_order old)) more)
