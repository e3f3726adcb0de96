use Rattle.std.specs.Int.{w32}
use Rattle.std.proofs.lemmas.Int.{to_z-of_z}
use Rattle.m4_state.specs.State.{AreDiversions, AreSizedDiversions}
use Rattle.m4_state.specs.DiversionEntries.{texts_of}
use Rattle.m4_state.proofs.TextsByNumber.{valid_after_append, some_bytes}
use Rattle.m4_state.proofs.diversions.Diversions.append.Goals as goal

-- the map is valid after the append
valid : (c : goal.After-append_in) → AreDiversions (texts_of c.append_in.new.texts.entries) × AreSizedDiversions (texts_of c.append_in.new.texts.entries)
valid c =
    let ok = rw (to_z-of_z w32 c.args.number c.ranges.number) at c.append_in.ensures.ok in
    let sized = rw (to_z-of_z w32 c.args.number c.ranges.number) at c.append_in.ensures.sized in
    valid_after_append c.append_in.result c.args.number c.args.text.now (texts_of c.self.inside.texts.entries) (texts_of c.append_in.new.texts.entries)
    c.requires c.ranges.number (some_bytes c.args.text.now c.is_empty.result c.is_empty.ensures c.if-is_empty.false) ok
    c.append_in.ensures.err sized c.self.invariant

pub invariant_of-self : goal.invariant_of-self
invariant_of-self c = valid c

pub returns-clause-valid : goal.returns-clause-valid
returns-clause-valid c = (valid c).0

pub returns-clause-sized : goal.returns-clause-sized
returns-clause-sized c = (valid c).1
