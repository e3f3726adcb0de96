use Rattle.std.proofs.Common.{◌≡◌, ◌<◌, ◌^◌, true, sym, ap, ◌∙◌, length, take, drop, arith}
use Rattle.std.proofs.lemmas.List.{length-take-le, length-drop}
use Rattle.m4_state.specs.declared.definition.Def.TheVariants as defs
use Rattle.m4_state.specs.Marks.{is_marked}
use Rattle.m4_state.proofs.Marked.{kept_either, push_kept}
use Rattle.m4_state.proofs.table.Table.push_text.Goals as goal

pub invariant_of-self : goal.invariant_of-self
invariant_of-self c =
    let bytes = c.args.bytes.now in
    let middle = c.args.middle in
    let added : is_marked c.add.new.self (take middle bytes) ≡ true = ap (is_marked c.add.new.self) (sym c.split_at.ensures.front) ∙ c.add.ensures.added in
    let named : length (take middle bytes) < 2 ^ 64 = omega (arith, length-take-le middle bytes c.requires) in
    let sized : length (drop middle bytes) < 2 ^ 64 = omega (arith, length-drop middle bytes) in
    kept_either c.push_text_in.result c.self.inside.marks c.add.new.self _ _ _ c.add.ensures.stay c.self.invariant
    (push_kept c.add.new.self _ (take middle bytes) (defs.Text (drop middle bytes)) added named tt sized)
    c.push_text_in.ensures.ok c.push_text_in.ensures.err

pub returns-clause-table : goal.returns-clause-table
returns-clause-table c = (invariant_of-self c).table

pub returns-clause-sized : goal.returns-clause-sized
returns-clause-sized c = (invariant_of-self c).sized
