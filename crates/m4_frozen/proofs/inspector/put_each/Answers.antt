use Rattle.std.proofs.Common.{◌∙◌}
use Rattle.m4_state.proofs.CallerLaws.{HasPut-put, HasPut-cut, Puts-refused, flat_map-drop}
use Rattle.m4_frozen.specs.Listing.{show_byte}
use Rattle.m4_frozen.proofs.inspector.put_each.Goals as goal

-- a byte failed
pub returns-in_err-put_byte-clause-puts : goal.returns-in_err-put_byte-clause-puts
returns-in_err-put_byte-clause-puts g c =
    let left = rw (flat_map-drop show_byte c.args.bytes.now c.loop-byte.byte-index 0 c.loop-byte-test.true) at c.loop-byte.invariant.0 in
    Puts-refused c.from_residual.result _ _ _ c.from_residual.ensures.0
    (HasPut-cut _ _ _ left c.in_err-put_byte.ensures.puts.0 c.in_err-put_byte.ensures.puts.1)

-- a byte was put
pub loop-byte-preserved : goal.loop-byte-preserved
loop-byte-preserved g c =
    let left = rw (flat_map-drop show_byte c.args.bytes.now c.loop-byte.byte-index 0 c.loop-byte-test.true) at c.loop-byte.invariant.0 in
    (HasPut-put _ _ _ left c.in_ok-put_byte.ensures.puts, c.in_ok-put_byte.ensures.counted ∙ c.loop-byte.invariant.1)
