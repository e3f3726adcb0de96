use Rattle.std.proofs.Common.{◌∙◌}
use Rattle.m4_state.proofs.CallerLaws.{HasPut-put, HasPut-cut, Puts-refused, flat_map-drop}
use Rattle.m4_state.specs.Table.{Pair}
use Rattle.m4_frozen.specs.WriterSteps.{stack_text}
use Rattle.m4_frozen.proofs.writer.put_names.Goals as goal

-- a name failed
pub returns-in_err-put_stack-clause-puts : goal.returns-in_err-put_stack-clause-puts
returns-in_err-put_stack-clause-puts g c =
    let left = rw (
      flat_map-drop (λ (p : Pair). stack_text p.0 p.1) c.args.pairs.now c.loop-i.i c.index-pairs-i.result
          c.loop-i-test.true,
      ← c.index-pairs-i.is,
      ← c.name.ensures,
      ← c.stack.ensures,
    ) at c.loop-i.invariant.0 in
    Puts-refused c.from_residual.result _ _ _ c.from_residual.ensures.0
    (HasPut-cut _ _ _ left c.in_err-put_stack.ensures.puts.0 c.in_err-put_stack.ensures.puts.1)

-- a name was put
pub loop-i-preserved : goal.loop-i-preserved
loop-i-preserved g c =
    let left = rw (
      flat_map-drop (λ (p : Pair). stack_text p.0 p.1) c.args.pairs.now c.loop-i.i c.index-pairs-i.result
          c.loop-i-test.true,
      ← c.index-pairs-i.is,
      ← c.name.ensures,
      ← c.stack.ensures,
    ) at c.loop-i.invariant.0 in
    (HasPut-put _ _ _ left c.in_ok-put_stack.ensures.puts, c.in_ok-put_stack.ensures.counted ∙ c.loop-i.invariant.1)
