use Rattle.std.proofs.Common.{◌≡◌, ◌≢◌, List, [], ap, sym, subst, ◌∙◌}
use Rattle.std.specs.Prelude.{OnOk}
use Rattle.std.specs.Int.{w32}
use Rattle.std.proofs.lemmas.Int.{to_z-of_z}
use Rattle.m4_state.specs.State.{NumberedText, AreDiversions, AreSizedDiversions, diverted_text, with_text, without_text}
use Rattle.m4_state.specs.DiversionEntries.{texts_of}
use Rattle.m4_state.proofs.TextsByNumber.{some_bytes}
use Rattle.m4_state.proofs.StaysInOrder.{AreDiversions-without}
use Rattle.m4_state.proofs.Undiverted.{AreSizedDiversions-without}
use Rattle.m4_state.proofs.MovedText.{valid_after_move, moved_as}
use Rattle.m4_state.proofs.diversions.Diversions.move_text.Goals as goal

-- a number without text leaves, if it is there
valid_without : (c : goal.Joined-none) → AreDiversions (texts_of c.take_in-none.new.texts.entries)
    × AreSizedDiversions (texts_of c.take_in-none.new.texts.entries)
valid_without c =
    let rest = rw (to_z-of_z w32 c.args.from c.ranges.from) at c.take_in-none.ensures.rest in (
      subst AreDiversions (sym rest) (AreDiversions-without c.args.from _ c.self.invariant.0),
      subst AreSizedDiversions (sym rest) (AreSizedDiversions-without c.args.from _ c.self.invariant.1),
    )

pub invariant_of-self : goal.invariant_of-self
invariant_of-self c = valid_without c

pub returns-then-is_empty-clause-valid : goal.returns-then-is_empty-clause-valid
returns-then-is_empty-clause-valid c = (valid_without c).0

pub returns-then-is_empty-clause-sized : goal.returns-then-is_empty-clause-sized
returns-then-is_empty-clause-sized c = (valid_without c).1

-- there is a text
some_text : (c : goal.After-move_in) → diverted_text (texts_of c.self.inside.texts.entries) c.args.from ≢ []
some_text c =
    let found = rw (to_z-of_z w32 c.args.from c.ranges.from) at c.text.ensures in
    λ none. some_bytes c.text.result.now c.is_empty.result c.is_empty.ensures c.if-is_empty.false
    (found ∙ ap (λ (ds : List NumberedText). diverted_text ds c.args.from) (sym c.self.view_is) ∙ none)

valid : (c : goal.After-move_in) → AreDiversions (texts_of c.move_in.new.texts.entries) × AreSizedDiversions (texts_of c.move_in.new.texts.entries)
valid c =
    let ds = texts_of c.self.inside.texts.entries in
    let ok = rw (to_z-of_z w32 c.args.to c.ranges.to) at (rw (to_z-of_z w32 c.args.from c.ranges.from) at c.move_in.ensures.ok) in
    let sized = rw (to_z-of_z w32 c.args.to c.ranges.to) at (rw (to_z-of_z w32 c.args.from c.ranges.from) at c.move_in.ensures.sized) in
    valid_after_move c.move_in.result c.args.from c.args.to (diverted_text ds c.args.to) ds (texts_of c.move_in.new.texts.entries)
    c.requires.holds c.ranges.to (some_text c) ok c.move_in.ensures.err sized c.self.invariant

pub invariant_of-self-2 : goal.invariant_of-self-2
invariant_of-self-2 c = valid c

pub returns-clause-ok : goal.returns-clause-ok
returns-clause-ok c =
    let ds = texts_of c.self.inside.texts.entries in
    let ok = rw (to_z-of_z w32 c.args.to c.ranges.to) at (rw (to_z-of_z w32 c.args.from c.ranges.from) at c.move_in.ensures.ok) in
    subst (λ (old : List NumberedText). OnOk c.move_in.result
    (texts_of c.move_in.new.texts.entries
    ≡ without_text (with_text old c.args.to (diverted_text old c.args.from)) c.args.from)) c.self.view_is
    (moved_as c.move_in.result c.args.from c.args.to ds (texts_of c.move_in.new.texts.entries) c.self.invariant.0.sorted c.requires.apart (some_text c) ok)

pub returns-clause-valid : goal.returns-clause-valid
returns-clause-valid c = (valid c).0

pub returns-clause-sized : goal.returns-clause-sized
returns-clause-sized c = (valid c).1
