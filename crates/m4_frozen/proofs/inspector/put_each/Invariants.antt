use Rattle.std.proofs.Common.{◌≡◌, drop}
use Rattle.std.specs.List.{flat_map}
use Rattle.m4_state.specs.Device.{HasPut}
use Rattle.m4_frozen.specs.Listing.{show_byte}
use Rattle.m4_frozen.proofs.inspector.put_each.Given as goal

-- the bytes that are left are the rest of the text
abbrev pub invariant-loop-byte : goal.invariant-loop-byte
invariant-loop-byte g l =
    HasPut (g.W.ByteSink.contents l.initial.writer) (g.W.ByteSink.contents l.writer) (flat_map show_byte l.bytes)
    (flat_map show_byte (drop l.byte-index l.bytes))
    × (g.W.ByteSink.failures l.writer ≡ g.W.ByteSink.failures l.initial.writer)
