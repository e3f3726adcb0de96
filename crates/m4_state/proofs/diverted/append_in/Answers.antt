use Rattle.std.proofs.Common.{◌≡◌, List, ◌++◌, ℕ, ℤ, Vec, Option, Some, None, ap, sym, ◌∙◌, rules, subst, arith}
use Rattle.std.specs.Int.{w32}
use Rattle.std.specs.BTreeMap.{is_at, insert_entry, BTreeMap}
use Rattle.std.specs.Map.{lookup, set_value}
use Rattle.std.specs.Ordering.{int_cmp}
use Rattle.std.specs.declared.alloc.Global.{Global}
use Rattle.std.proofs.lemmas.Int.{to_z-of_z}
use Rattle.m4_state.specs.DiversionEntries.{texts_of}
use Rattle.m4_state.specs.State.{diverted_text}
use Rattle.m4_state.proofs.TextsByNumber.{text_found, text_missing, append_found, append_missing, append_refused}
use Rattle.m4_state.proofs.diverted.append_in.Goals as goal

-- an append that was refused wrote the same text back
pub returns-in_err-extend_from_slice-in-Some-clause-err : goal.returns-in_err-extend_from_slice-in-Some-clause-err
returns-in_err-extend_from_slice-in-Some-clause-err c =
    let n = c.args.number in
    let es = c.args.texts.now.entries in
    let fs = (c.get_mut.follows.lender c.extend_from_slice.new.self).entries in
    let found : Some c.in-Some.held.now ≡ lookup (is_at (int_cmp n)) es = rw (to_z-of_z w32 n c.ranges.number) at c.in-Some.ensures.value in
    let written : fs ≡ set_value (is_at (int_cmp n)) es c.extend_from_slice.new.self =
    rw (to_z-of_z w32 n c.ranges.number) at (c.get_mut.follows.holds c.extend_from_slice.new.self).0 in
    let kept = append_refused n c.args.text.now es fs c.in-Some.held.now c.extend_from_slice.new.self found written
    c.in_err-extend_from_slice-in-Some.ensures.items in
    search (rules, kept)

-- the text grew
pub returns-in_ok-extend_from_slice-in-Some-clause-ok : goal.returns-in_ok-extend_from_slice-in-Some-clause-ok
returns-in_ok-extend_from_slice-in-Some-clause-ok c =
    let n = c.args.number in
    let es = c.args.texts.now.entries in
    let fs = (c.get_mut.follows.lender c.extend_from_slice.new.self).entries in
    let found : Some c.in-Some.held.now ≡ lookup (is_at (int_cmp n)) es = rw (to_z-of_z w32 n c.ranges.number) at c.in-Some.ensures.value in
    let written : fs ≡ set_value (is_at (int_cmp n)) es c.extend_from_slice.new.self =
    rw (to_z-of_z w32 n c.ranges.number) at (c.get_mut.follows.holds c.extend_from_slice.new.self).0 in
    append_found n c.args.text.now es fs c.in-Some.held.now c.extend_from_slice.new.self c.requires found written
    c.in_ok-extend_from_slice-in-Some.ensures.items

pub returns-in_ok-extend_from_slice-in-Some-clause-sized : goal.returns-in_ok-extend_from_slice-in-Some-clause-sized
returns-in_ok-extend_from_slice-in-Some-clause-sized c =
    let n = c.args.number in
    let es = c.args.texts.now.entries in
    let found : Some c.in-Some.held.now ≡ lookup (is_at (int_cmp n)) es = rw (to_z-of_z w32 n c.ranges.number) at c.in-Some.ensures.value in
    let items : diverted_text (texts_of es) n ++ c.args.text.now ≡ c.extend_from_slice.new.self.items =
    ap (λ (bytes : List ℕ). bytes ++ c.args.text.now) (text_found n c.args.text.now es es c.in-Some.held.now found)
    ∙ sym c.in_ok-extend_from_slice-in-Some.ensures.items in
    rw items (search rules)

-- the text is the first of its number
pub returns-in_ok-insert-in-None-clause-ok : goal.returns-in_ok-insert-in-None-clause-ok
returns-in_ok-insert-in-None-clause-ok c =
    let n = c.args.number in
    let es = c.args.texts.now.entries in
    let found : ◌≡◌ {A = Option (Vec ℕ Global)} None (lookup (is_at (int_cmp n)) es) = rw (to_z-of_z w32 n c.ranges.number) at c.in-None.ensures.value in
    let written : c.insert.new.self.entries ≡ insert_entry int_cmp es n c.in_ok-held-in-None.held =
    subst (λ (m : BTreeMap ℤ (Vec ℕ Global)). c.insert.new.self.entries
    ≡ insert_entry int_cmp m.entries n c.in_ok-held-in-None.held) c.get_mut.follows.holds-at-none
    (rw (to_z-of_z w32 n c.ranges.number) at c.in_ok-insert-in-None.ensures.entries) in
    append_missing n c.args.text.now es c.insert.new.self.entries c.in_ok-held-in-None.held found written c.in_ok-held-in-None.ensures.items

pub returns-in_ok-insert-in-None-clause-sized : goal.returns-in_ok-insert-in-None-clause-sized
returns-in_ok-insert-in-None-clause-sized c =
    let n = c.args.number in
    let es = c.args.texts.now.entries in
    let found : ◌≡◌ {A = Option (Vec ℕ Global)} None (lookup (is_at (int_cmp n)) es) = rw (to_z-of_z w32 n c.ranges.number) at c.in-None.ensures.value in
    rw (text_missing n c.args.text.now es es found) (omega arith)
