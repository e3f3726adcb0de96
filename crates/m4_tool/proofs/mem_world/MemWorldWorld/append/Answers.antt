use Rattle.std.proofs.Common.{rules, ap, Some, ◌∙◌, sym, List, ℕ, ◌++◌, length, ◌≤◌, arith}
use Rattle.std.proofs.lemmas.List.{take_all}
use Rattle.m4_tool.specs.Memory.{unmarked}
use Rattle.m4_tool.specs.World.{Files}
use Rattle.m4_tool.proofs.MemoryFiles.{memory_longer}
use Rattle.m4_tool.proofs.mem_world.MemWorldWorld.append.Goals as goal

pub returns-in-Ok-clause-appended : goal.returns-in-Ok-clause-appended
returns-in-Ok-clause-appended c =
    let s = c.args.self.now in
    let le : length c.args.bytes.now ≤ length c.args.bytes.now = omega arith in
    ap (λ (f : Files). Some f)
    (memory_longer s.name.items c.args.name.now (unmarked s.first c.in-Some.made.items) (unmarked c.add_marked.new.first c.add_marked.new.made.items) _ _
    s.given.now (search rules) (search rules)
    (c.in-Ok.ensures.text ∙ ap (λ (b : List ℕ). unmarked s.first c.in-Some.made.items ++ b)
    (sym (take_all (length c.args.bytes.now) c.args.bytes.now le))))
