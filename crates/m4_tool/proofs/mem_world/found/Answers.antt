use Rattle.std.proofs.Common.{ap, ◌∙◌, sym, Some, Option}
use Rattle.std.specs.Prelude.{option_map}
use Rattle.m4_state.specs.Device.{Script}
use Rattle.m4_tool.proofs.MemoryFiles.{given_here}
use Rattle.m4_tool.proofs.mem_world.found.Goals as goal

pub returns-then-eq : goal.returns-then-eq
returns-then-eq c = ap (λ (o : Option Script). Some o) c.new.ensures.script
    ∙ ap (option_map (λ (s : Script). Some s))
    (sym (given_here c.args.given.now c.loop-file.file-index _ c.args.name.now c.loop-file-test.true
    (sym c.eq.ensures ∙ c.if-eq.true) c.loop-file.invariant))
