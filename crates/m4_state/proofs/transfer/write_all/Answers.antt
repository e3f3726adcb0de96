use Rattle.std.proofs.Common.{◌∙◌}
use Rattle.m4_state.proofs.CallerLaws.{HasPut-more}
use Rattle.m4_state.proofs.transfer.write_all.Goals as goal

pub loop-rest-preserved : goal.loop-rest-preserved
loop-rest-preserved g c =
    (rw c.split_at.ensures.back (HasPut-more c.in_ok-n.n c.loop-rest.invariant.0 c.in_ok-n.ensures.takes), c.in_ok-n.ensures.counted ∙ c.loop-rest.invariant.1)
