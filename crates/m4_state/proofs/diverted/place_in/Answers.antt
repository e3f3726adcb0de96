use Rattle.std.proofs.Common.{rules, sym}
use Rattle.std.specs.Int.{w32}
use Rattle.std.proofs.lemmas.Int.{to_z-of_z}
use Rattle.m4_state.proofs.MovedText.{placed_sorted, is_found, place_stays, taken_text, is_moved}
use Rattle.m4_state.proofs.diverted.place_in.Goals as goal

pub take_in-requires : goal.take_in-requires
take_in-requires c =
    let written = rw (to_z-of_z w32 c.args.to c.ranges.to) at c.in_ok-insert.ensures.entries in
    placed_sorted c.args.from c.args.to c.args.texts.now.entries c.insert.new.self.entries c.new-place.result
    c.requires.sorted c.requires.apart written c.new-place.ensures.items

-- the place is there, so the second insert can't be refused
pub returns-in_err-insert-in-Some-clause-err : goal.returns-in_err-insert-in-Some-clause-err
returns-in_err-insert-in-Some-clause-err c =
    let written = rw (to_z-of_z w32 c.args.to c.ranges.to) at c.in_ok-insert.ensures.entries in
    let left = rw (to_z-of_z w32 c.args.from c.ranges.from) at c.take_in.ensures.rest in
    let absent = rw (to_z-of_z w32 c.args.to c.ranges.to) at c.in_err-insert-in-Some.ensures.absent in
    absurd (place_stays c.args.from c.args.to c.args.texts.now.entries c.insert.new.self.entries c.new-place.result
    c.requires.sorted c.requires.apart written c.new-place.ensures.items c.take_in.new.texts.entries left (sym absent))

pub returns-in_ok-insert-in-Some-clause-ok : goal.returns-in_ok-insert-in-Some-clause-ok
returns-in_ok-insert-in-Some-clause-ok c =
    let written = rw (to_z-of_z w32 c.args.to c.ranges.to) at c.in_ok-insert.ensures.entries in
    let left = rw (to_z-of_z w32 c.args.from c.ranges.from) at c.take_in.ensures.rest in
    let moved = rw (to_z-of_z w32 c.args.to c.ranges.to) at c.in_ok-insert-in-Some.ensures.entries in
    let taken = rw (to_z-of_z w32 c.args.from c.ranges.from) at c.in-Some.ensures.text in
    is_moved c.args.from c.args.to c.args.texts.now.entries c.insert.new.self.entries c.new-place.result
    c.requires.sorted c.requires.apart written c.new-place.ensures.items c.take_in.new.texts.entries left
    c.insert-in-Some.new.self.entries c.in-Some.text moved taken

pub returns-in_ok-insert-in-Some-clause-sized : goal.returns-in_ok-insert-in-Some-clause-sized
returns-in_ok-insert-in-Some-clause-sized c =
    let written = rw (to_z-of_z w32 c.args.to c.ranges.to) at c.in_ok-insert.ensures.entries in
    let left = rw (to_z-of_z w32 c.args.from c.ranges.from) at c.take_in.ensures.rest in
    let moved = rw (to_z-of_z w32 c.args.to c.ranges.to) at c.in_ok-insert-in-Some.ensures.entries in
    let taken = rw (to_z-of_z w32 c.args.from c.ranges.from) at c.in-Some.ensures.text in
    let text = taken_text c.args.from c.args.to c.args.texts.now.entries c.insert.new.self.entries c.new-place.result
    c.requires.sorted c.requires.apart written c.new-place.ensures.items c.take_in.new.texts.entries left
    c.insert-in-Some.new.self.entries c.in-Some.text moved taken in
    rw (sym text) (search rules)

-- the text is there
pub returns-in-None-clause-ok : goal.returns-in-None-clause-ok
returns-in-None-clause-ok c =
    let written = rw (to_z-of_z w32 c.args.to c.ranges.to) at c.in_ok-insert.ensures.entries in
    let none = rw (to_z-of_z w32 c.args.from c.ranges.from) at c.in-None.ensures.text in
    absurd (is_found c.args.from c.args.to c.args.texts.now.entries c.insert.new.self.entries c.new-place.result
    c.requires.sorted c.requires.apart written c.new-place.ensures.items none c.requires.some)

pub returns-in-None-clause-sized : goal.returns-in-None-clause-sized
returns-in-None-clause-sized c =
    let written = rw (to_z-of_z w32 c.args.to c.ranges.to) at c.in_ok-insert.ensures.entries in
    let none = rw (to_z-of_z w32 c.args.from c.ranges.from) at c.in-None.ensures.text in
    absurd (is_found c.args.from c.args.to c.args.texts.now.entries c.insert.new.self.entries c.new-place.result
    c.requires.sorted c.requires.apart written c.new-place.ensures.items none c.requires.some)
