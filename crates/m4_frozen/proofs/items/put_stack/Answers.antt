use Rattle.std.proofs.Common.{◌∙◌}
use Rattle.m4_state.proofs.CallerLaws.{HasPut-put, HasPut-cut, Puts-refused, flat_map-drop}
use Rattle.m4_frozen.proofs.items.put_stack.Goals as goal

-- a definition failed
pub returns-in_err-put_definition-clause-puts : goal.returns-in_err-put_definition-clause-puts
returns-in_err-put_definition-clause-puts g c =
    let left = rw (
      flat_map-drop (g.F.Form.definition_text c.args.name.now) c.args.stack.now
          c.loop-definition.definition-index c.definition-item.result c.loop-definition-test.true,
      ← c.definition-item.is,
    )
    at c.loop-definition.invariant.0 in
    Puts-refused c.from_residual.result _ _ _ c.from_residual.ensures.0
    (HasPut-cut _ _ _ left c.in_err-put_definition.ensures.puts.0 c.in_err-put_definition.ensures.puts.1)

-- a definition was put
pub loop-definition-preserved : goal.loop-definition-preserved
loop-definition-preserved g c =
    let left = rw (
      flat_map-drop (g.F.Form.definition_text c.args.name.now) c.args.stack.now
          c.loop-definition.definition-index c.definition-item.result c.loop-definition-test.true,
      ← c.definition-item.is,
    )
    at c.loop-definition.invariant.0 in
    (HasPut-put _ _ _ left c.in_ok-put_definition.ensures.puts, c.in_ok-put_definition.ensures.counted ∙ c.loop-definition.invariant.1)
