use Rattle.std.proofs.Common.{◌≡◌, ℕ, ◌+◌, List, ◌++◌, take, drop, Option, ap, ◌∙◌, append_assoc, arith}
use Rattle.std.proofs.Math.Seq.{take-add}
use Rattle.m4_state.specs.Device.{Script, after_bytes}
use Rattle.m4_state.proofs.CallerLaws.{after_bytes-append}
use Rattle.m4_frozen.specs.Blocks.{HasTaken}
use Rattle.m4_frozen.proofs.room.fill_room.Goals as goal

-- more bytes came
taken_more : (start before room : List ℕ) (end n : ℕ) (first old new : Option Script)
    → HasTaken start (take end before) first old → take end room ≡ take end before
    → old ≡ after_bytes (take n (drop end room)) new → HasTaken start (take (end + n) room) first new
taken_more start before room end n first old new h same gives =
    let more : List ℕ = take n (drop end room) in
    record {
      block = h.block ++ more;
      bytes = take-add end n room ∙ ap (λ (x : List ℕ). x ++ more) (same ∙ h.bytes) ∙ append_assoc start h.block more;
      gives = h.gives ∙ ap (after_bytes h.block) gives ∙ after_bytes-append h.block more new;
    }

pub returns-then-end-enough-clause-takes : goal.returns-then-end-enough-clause-takes
returns-then-end-enough-clause-takes g c =
    taken_more _ c.loop-room.room.items _ _ _ _ _ _ c.loop-room.invariant.taken (c.in-Ok.ensures.front ∙ c.make_room.ensures.front) c.in-Ok.ensures.gives

pub loop-room-preserved : goal.loop-room-preserved
loop-room-preserved g c = record {
  taken = taken_more _ c.loop-room.room.items _ _ _ _ _ _ c.loop-room.invariant.taken (c.in-Ok.ensures.front ∙ c.make_room.ensures.front) c.in-Ok.ensures.gives;
  within = c.in-Ok.ensures.within;
  counted = c.in-Ok.ensures.counted ∙ c.loop-room.invariant.counted;
  falls = omega (arith, c.in-Ok.ensures.falls, c.loop-room.invariant.falls);
}
