use Rattle.std.proofs.Common.{refl, ap, arith}
use Rattle.m4_state.specs.Entries.{in_order}
use Rattle.m4_state.proofs.AtPlace.{push_there, same_there, push_alone, OnErr-map}
use Rattle.m4_state.proofs.Marked.{kept_either, push_kept}
use Rattle.m4_state.proofs.table.Table.push.Goals as goal

-- the name was there
pub returns-in-Some-clause-ok : goal.returns-in-Some-clause-ok
returns-in-Some-clause-ok c =
    push_there c.push.result c.self.inside.entries _ c.self.view_is c.args.name.now _ c.place_in-place.ensures
    c.in-Some.i c.in-Some.is c.index_mut.result.now c.push.new.self c.index_mut.ensures.value c.args.def c.push.ensures.ok

pub returns-in-Some-clause-err : goal.returns-in-Some-clause-err
returns-in-Some-clause-err c =
    same_there c.push.result c.self.inside.entries _ c.self.view_is c.args.name.now _ c.place_in-place.ensures
    c.in-Some.i c.in-Some.is c.index_mut.result.now c.push.new.self c.index_mut.ensures.value c.push.ensures.err

pub invariant_of-self : goal.invariant_of-self
invariant_of-self c =
    kept_either c.push.result c.self.inside.marks c.add.new.self _ _ _ c.add.ensures.stay c.self.invariant
    (push_kept c.add.new.self _ c.args.name.now c.args.def c.add.ensures.added (omega arith) c.requires c.len-len.ensures.sized)
    (push_there c.push.result c.self.inside.entries _ refl c.args.name.now _ c.place_in-place.ensures
    c.in-Some.i c.in-Some.is c.index_mut.result.now c.push.new.self c.index_mut.ensures.value c.args.def c.push.ensures.ok)
    (same_there c.push.result c.self.inside.entries _ refl c.args.name.now _ c.place_in-place.ensures
    c.in-Some.i c.in-Some.is c.index_mut.result.now c.push.new.self c.index_mut.ensures.value c.push.ensures.err)

pub returns-in-Some-clause-table : goal.returns-in-Some-clause-table
returns-in-Some-clause-table c = (invariant_of-self c).table

pub returns-in-Some-clause-sized : goal.returns-in-Some-clause-sized
returns-in-Some-clause-sized c = (invariant_of-self c).sized

-- the name is new
pub returns-in-None-clause-ok : goal.returns-in-None-clause-ok
returns-in-None-clause-ok c =
    push_alone c.insert_in.result c.self.inside.entries _ c.self.view_is c.args.name.now _ c.place_in-place.ensures
    c.in-None.is c.args.def _ c.insert_in.ensures.ok

pub invariant_of-self-in-None : goal.invariant_of-self-in-None
invariant_of-self-in-None c =
    kept_either c.insert_in.result c.self.inside.marks c.add.new.self _ _ _ c.add.ensures.stay c.self.invariant
    (push_kept c.add.new.self _ c.args.name.now c.args.def c.add.ensures.added (omega arith) c.requires c.len-len.ensures.sized)
    (push_alone c.insert_in.result c.self.inside.entries _ refl c.args.name.now _ c.place_in-place.ensures
    c.in-None.is c.args.def _ c.insert_in.ensures.ok)
    (OnErr-map c.insert_in.result _ _ (ap in_order) c.insert_in.ensures.err)

pub returns-in-None-clause-table : goal.returns-in-None-clause-table
returns-in-None-clause-table c = (invariant_of-self-in-None c).table

pub returns-in-None-clause-sized : goal.returns-in-None-clause-sized
returns-in-None-clause-sized c = (invariant_of-self-in-None c).sized
