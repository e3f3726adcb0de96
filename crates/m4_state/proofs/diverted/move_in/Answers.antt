use Rattle.std.proofs.Common.{◌≡◌, sym, ◌∙◌}
use Rattle.std.specs.Int.{w32}
use Rattle.std.proofs.lemmas.Int.{to_z-of_z}
use Rattle.m4_state.specs.DiversionEntries.{texts_of}
use Rattle.m4_state.specs.State.{diverted_text, without_text}
use Rattle.m4_state.proofs.MovedText.{none_there, placed_alone, sized_alone}
use Rattle.m4_state.proofs.MovedText.{out_sorted, refused_sorted, is_found_again, is_back, added_text, added_sorted, is_joined}
use Rattle.m4_state.proofs.diverted.move_in.Goals as goal

-- the other number has no text
pub returns-then-not-contains_key-clause-ok : goal.returns-then-not-contains_key-clause-ok
returns-then-not-contains_key-clause-ok c =
    let ds = texts_of c.args.texts.now.entries in
    let missing = rw c.if-not-contains_key.true at (rw (to_z-of_z w32 c.args.to c.ranges.to) at c.contains_key.ensures) in
    let ok = rw (to_z-of_z w32 c.args.to c.ranges.to) at (rw (to_z-of_z w32 c.args.from c.ranges.from) at c.place_in.ensures.ok) in
    placed_alone c.place_in.result c.args.to (diverted_text ds c.args.to) (diverted_text ds c.args.from)
    (without_text ds c.args.from) (texts_of c.place_in.new.texts.entries)
    (none_there c.args.to c.args.texts.now.entries missing) ok

pub returns-then-not-contains_key-clause-sized : goal.returns-then-not-contains_key-clause-sized
returns-then-not-contains_key-clause-sized c =
    let ds = texts_of c.args.texts.now.entries in
    let missing = rw c.if-not-contains_key.true at (rw (to_z-of_z w32 c.args.to c.ranges.to) at c.contains_key.ensures) in
    let sized = rw (to_z-of_z w32 c.args.from c.ranges.from) at c.place_in.ensures.sized in
    sized_alone c.place_in.result (diverted_text ds c.args.to) (diverted_text ds c.args.from) (none_there c.args.to c.args.texts.now.entries missing) sized

-- it has one: the text is out
pub append_in-requires : goal.append_in-requires
append_in-requires c =
    let n = c.args.from in
    let ds = texts_of c.args.texts.now.entries in
    let es = texts_of c.swap_in.new.texts.entries in
    let written = rw (to_z-of_z w32 n c.ranges.from) at c.swap_in.ensures.texts in
    out_sorted n c.args.to ds c.requires.sorted c.requires.apart c.requires.some es c.new-text.result.items c.new-text.ensures.items written

-- and added to the other one
pub take_in-empty-requires : goal.take_in-empty-requires
take_in-empty-requires c =
    let n = c.args.from in
    let ds = texts_of c.args.texts.now.entries in
    let es = texts_of c.swap_in.new.texts.entries in
    let written = rw (to_z-of_z w32 n c.ranges.from) at c.swap_in.ensures.texts in
    let fs = texts_of c.append_in.new.texts.entries in
    let taken : c.deref.result.now ≡ diverted_text ds n = c.deref.ensures.value ∙ (rw (to_z-of_z w32 n c.ranges.from) at c.swap_in.ensures.text) in
    let added = rw (to_z-of_z w32 c.args.to c.ranges.to) at c.in-Ok.ensures.ok in
    added_sorted n c.args.to ds c.requires.sorted c.requires.apart c.requires.some es c.new-text.result.items
    c.new-text.ensures.items written fs c.deref.result.now taken added

pub returns-in-Ok-clause-ok : goal.returns-in-Ok-clause-ok
returns-in-Ok-clause-ok c =
    let n = c.args.from in
    let ds = texts_of c.args.texts.now.entries in
    let es = texts_of c.swap_in.new.texts.entries in
    let written = rw (to_z-of_z w32 n c.ranges.from) at c.swap_in.ensures.texts in
    let fs = texts_of c.append_in.new.texts.entries in
    let taken : c.deref.result.now ≡ diverted_text ds n = c.deref.ensures.value ∙ (rw (to_z-of_z w32 n c.ranges.from) at c.swap_in.ensures.text) in
    let added = rw (to_z-of_z w32 c.args.to c.ranges.to) at c.in-Ok.ensures.ok in
    let left = rw (to_z-of_z w32 n c.ranges.from) at c.take_in-empty.ensures.rest in
    is_joined n c.args.to ds c.requires.sorted c.requires.apart c.requires.some es c.new-text.result.items
    c.new-text.ensures.items written fs c.deref.result.now taken added (texts_of c.take_in-empty.new.texts.entries) left

pub returns-in-Ok-clause-sized : goal.returns-in-Ok-clause-sized
returns-in-Ok-clause-sized c =
    let n = c.args.from in
    let ds = texts_of c.args.texts.now.entries in
    let es = texts_of c.swap_in.new.texts.entries in
    let written = rw (to_z-of_z w32 n c.ranges.from) at c.swap_in.ensures.texts in
    let fs = texts_of c.append_in.new.texts.entries in
    let taken : c.deref.result.now ≡ diverted_text ds n = c.deref.ensures.value ∙ (rw (to_z-of_z w32 n c.ranges.from) at c.swap_in.ensures.text) in
    let added = rw (to_z-of_z w32 c.args.to c.ranges.to) at c.in-Ok.ensures.ok in
    let sized = rw (to_z-of_z w32 c.args.to c.ranges.to) at c.in-Ok.ensures.sized in
    let text = added_text n c.args.to ds c.requires.sorted c.requires.apart c.requires.some es c.new-text.result.items
    c.new-text.ensures.items written fs c.deref.result.now taken added in
    rw (sym text) sized

-- a text that was refused is put back
pub swap_in-requires-in-Err-clause-sorted : goal.swap_in-requires-in-Err-clause-sorted
swap_in-requires-in-Err-clause-sorted c =
    let n = c.args.from in
    let ds = texts_of c.args.texts.now.entries in
    let es = texts_of c.swap_in.new.texts.entries in
    let written = rw (to_z-of_z w32 n c.ranges.from) at c.swap_in.ensures.texts in
    refused_sorted n c.args.to ds c.requires.sorted c.requires.apart c.requires.some es c.new-text.result.items
    c.new-text.ensures.items written (texts_of c.append_in.new.texts.entries) c.in-Err.ensures.err

pub swap_in-requires-in-Err-clause-there : goal.swap_in-requires-in-Err-clause-there
swap_in-requires-in-Err-clause-there c =
    let n = c.args.from in
    let ds = texts_of c.args.texts.now.entries in
    let es = texts_of c.swap_in.new.texts.entries in
    let written = rw (to_z-of_z w32 n c.ranges.from) at c.swap_in.ensures.texts in
    let there = is_found_again n c.args.to ds c.requires.sorted c.requires.apart c.requires.some es
    c.new-text.result.items c.new-text.ensures.items written (texts_of c.append_in.new.texts.entries) c.in-Err.ensures.err in
    rw (to_z-of_z w32 n c.ranges.from) there

pub returns-clause-err : goal.returns-clause-err
returns-clause-err c =
    let n = c.args.from in
    let ds = texts_of c.args.texts.now.entries in
    let es = texts_of c.swap_in.new.texts.entries in
    let written = rw (to_z-of_z w32 n c.ranges.from) at c.swap_in.ensures.texts in
    let taken = rw (to_z-of_z w32 n c.ranges.from) at c.swap_in.ensures.text in
    let back = rw (to_z-of_z w32 n c.ranges.from) at c.swap_in-in-Err.ensures.texts in
    is_back n c.args.to ds c.requires.sorted c.requires.apart c.requires.some es c.new-text.result.items
    c.new-text.ensures.items written (texts_of c.append_in.new.texts.entries) c.in-Err.ensures.err
    (texts_of c.swap_in-in-Err.new.texts.entries) c.swap_in.new.text.items taken back
