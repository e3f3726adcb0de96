use Rattle.std.proofs.Common.{◌≡◌, drop}
use Rattle.std.specs.List.{flat_map}
use Rattle.m4_state.specs.Device.{HasPut}
use Rattle.m4_frozen.proofs.items.put_stack.Given as goal

-- the definitions that are left are the rest of the text
abbrev pub invariant-loop-definition : goal.invariant-loop-definition
invariant-loop-definition g l =
    HasPut (g.W.ByteSink.contents l.initial.writer) (g.W.ByteSink.contents l.writer) (flat_map (g.F.Form.definition_text l.name) l.stack)
    (flat_map (g.F.Form.definition_text l.name) (drop l.definition-index l.stack))
    × (g.W.ByteSink.failures l.writer ≡ g.W.ByteSink.failures l.initial.writer)
