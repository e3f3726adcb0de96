use Rattle.std.proofs.Common.{◌∙◌}
use Rattle.m4_state.proofs.CallerLaws.{HasPut-put, HasPut-cut, Puts-refused, flat_map-drop}
use Rattle.m4_state.specs.Table.{Pair}
use Rattle.m4_frozen.specs.InspectorSteps.{stack_lines}
use Rattle.m4_frozen.proofs.inspector.put_names.Goals as goal

-- a name failed
pub returns-in_err-put_stack-clause-puts : goal.returns-in_err-put_stack-clause-puts
returns-in_err-put_stack-clause-puts g c =
    let left = rw (
      flat_map-drop (λ (p : Pair). stack_lines p.0 p.1) c.args.pairs.now c.loop-pair.pair-index
          c.pair-item.result c.loop-pair-test.true,
      ← c.pair-item.is,
      ← c.name.ensures,
      ← c.stack.ensures,
    ) at
    c.loop-pair.invariant.0 in
    Puts-refused c.from_residual.result _ _ _ c.from_residual.ensures.0
    (HasPut-cut _ _ _ left c.in_err-put_stack.ensures.puts.0 c.in_err-put_stack.ensures.puts.1)

-- a name was put
pub loop-pair-preserved : goal.loop-pair-preserved
loop-pair-preserved g c =
    let left = rw (
      flat_map-drop (λ (p : Pair). stack_lines p.0 p.1) c.args.pairs.now c.loop-pair.pair-index
          c.pair-item.result c.loop-pair-test.true,
      ← c.pair-item.is,
      ← c.name.ensures,
      ← c.stack.ensures,
    ) at
    c.loop-pair.invariant.0 in
    (HasPut-put _ _ _ left c.in_ok-put_stack.ensures.puts, c.in_ok-put_stack.ensures.counted ∙ c.loop-pair.invariant.1)
