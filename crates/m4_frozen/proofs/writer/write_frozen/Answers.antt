use Rattle.std.proofs.Common.{ap, subst, ◌∙◌}
use Rattle.m4_state.specs.Device.{with_bytes, HasBegun}
use Rattle.m4_frozen.specs.WriterSteps.{frozen_text}
use Rattle.m4_frozen.proofs.FreezeParts.{frozen_text-freeze}
use Rattle.m4_frozen.proofs.writer.write_frozen.Goals as goal

-- the parts that were begun are those of the canonical text
pub returns-in_err-put_frozen-clause-begun : goal.returns-in_err-put_frozen-clause-begun
returns-in_err-put_frozen-clause-begun g c fault =
    let text = ap (frozen_text c.args.state.now) (c.deref.ensures.value ∙ c.in_ok-pairs.ensures.pairs) ∙ frozen_text-freeze c.args.state.now in
    subst (HasBegun (g.W.ByteSink.contents c.args.writer.now) (g.W.ByteSink.contents c.put_frozen.new.writer)) text c.in_err-put_frozen.ensures.puts

-- the parts are the canonical text
pub returns-clause-written : goal.returns-clause-written
returns-clause-written g c =
    let text = ap (frozen_text c.args.state.now) (c.deref.ensures.value ∙ c.in_ok-pairs.ensures.pairs) ∙ frozen_text-freeze c.args.state.now in
    c.in_ok-put_frozen.ensures.puts ∙ ap (with_bytes (g.W.ByteSink.contents c.args.writer.now)) text
