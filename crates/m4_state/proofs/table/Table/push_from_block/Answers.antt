use Rattle.std.proofs.Common.{List, ℕ, ◌≡◌, ◌<◌, ◌^◌, true, sym, ap, ◌∙◌, length, take, drop, arith}
use Rattle.std.proofs.lemmas.List.{length-take, length-drop}
use Rattle.m4_state.specs.declared.definition.Def.TheVariants as defs
use Rattle.m4_state.specs.Marks.{is_marked}
use Rattle.m4_state.proofs.Marked.{kept_either, push_kept}
use Rattle.m4_state.proofs.table.Table.push_from_block.Goals as goal

-- the strings of a block are no longer than the block
pub invariant_of-self : goal.invariant_of-self
invariant_of-self c =
    let strings = c.args.strings.now in
    let name : List ℕ = take c.args.middle strings in
    let rest : List ℕ = drop c.args.middle strings in
    let text : List ℕ = take c.args.len rest in
    let added : is_marked c.add.new.self name ≡ true = ap (is_marked c.add.new.self) (sym c.split_at.ensures.front) ∙ c.add.ensures.added in
    let all : length strings ≡ length (drop c.args.at c.args.block.now) = ap (λ (bs : List ℕ). length bs) c.requires.place in
    let few : length strings < 2 ^ 64 = omega (arith, all, length-drop c.args.at c.args.block.now, c.requires.counted) in
    let named : length name < 2 ^ 64 = omega (arith, few, length-take c.args.middle strings) in
    let sized : length text < 2 ^ 64 = omega (arith, few, length-drop c.args.middle strings, length-take c.args.len rest) in
    kept_either c.push_from_block_in.result c.self.inside.marks c.add.new.self _ _ _ c.add.ensures.stay c.self.invariant
    (push_kept c.add.new.self _ name (defs.Text text) added named tt sized)
    c.push_from_block_in.ensures.ok c.push_from_block_in.ensures.err

pub returns-clause-table : goal.returns-clause-table
returns-clause-table c = (invariant_of-self c).table

pub returns-clause-sized : goal.returns-clause-sized
returns-clause-sized c = (invariant_of-self c).sized
