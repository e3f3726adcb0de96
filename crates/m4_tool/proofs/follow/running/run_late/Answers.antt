-- The run's files and messages, by its contract and by the late file's facts.
use Rattle.std.proofs.Common.{ap, refl, ◌∙◌, inr}
use Rattle.m4_engine.specs.Run.{run as defined}
use Rattle.m4_tool.proofs.ExtendedFiles.{all_extend}
use Rattle.m4_tool.proofs.RanFiles.{ran_so, untouched}
use Rattle.m4_tool.proofs.ReadFaults.{run_fails}
use Rattle.m4_tool.proofs.follow.running.run_late.Goals as goal

pub returns-clause-ran : goal.returns-clause-ran
returns-clause-ran g c = λ files input names script ss n t e.
    rw c.requires.before (rw c.into_world.ensures.world
    (ran_so (defined c.args.options script ss) c.run_keeping-session.result.0 c.run_keeping-session.ensures.status.0
    g.K.LateStart.name g.K.LateStart.before
    (g.W.World.files c.run_keeping-session.new.freeze_to.world) c.run_keeping-session.new.freeze_to.created c.run_keeping-session.new.freeze_to.failures
    c.over-late.result.failures c.over-late.result.created (g.W.World.files c.over-late.result.world)
    (g.O.ByteSink.contents c.args.out.now) (g.O.ByteSink.contents c.run_keeping-session.new.out)
    (g.M.ByteSink.contents c.args.messages.now) (g.M.ByteSink.contents c.run_keeping-session.new.messages)
    (g.O.ByteSink.failures c.args.out.now) (g.O.ByteSink.failures c.run_keeping-session.new.out)
    (g.M.ByteSink.failures c.args.messages.now) (g.M.ByteSink.failures c.run_keeping-session.new.messages)
    c.over-late.ensures.created (ap g.W.World.files c.over-late.ensures.world ∙ c.requires.before) c.over-late.ensures.failures
    (c.run_keeping-session.ensures.gives script t ss
    (inr (all_extend g.W.Reader.ByteSource.script files input names c.args.sources.now
    c.run_keeping-session.new.sources ss n c.run_keeping-session.ensures.taken e))) c.run_keeping-session.ensures.write
    (untouched (λ (late : _). g.W.World.files late.world) c.run_keeping-session.result.0.cause (defined c.args.options script ss)
    c.over-late.result c.run_keeping-session.new.freeze_to _ g.K.LateStart.before (g.W.World.files c.run_keeping-session.new.freeze_to.world)
    (ap g.W.World.files c.over-late.ensures.world ∙ c.requires.before) refl
    (c.run_keeping-session.ensures.last script t ss
    (inr (all_extend g.W.Reader.ByteSource.script files input names c.args.sources.now
    c.run_keeping-session.new.sources ss n c.run_keeping-session.ensures.taken e))))
    c.run_keeping-session.ensures.status.1
    c.run_keeping-session.new.freeze_to.agrees c.run_keeping-session.new.freeze_to.tried))

pub returns-clause-read : goal.returns-clause-read
returns-clause-read g c = λ files input names n e.
    run_fails g.W.Reader.ByteSource.script g.W.Reader.ByteSource.failures files input names c.args.sources.now c.run_keeping-session.new.sources
    c.run_keeping-session.result.0.cause n c.run_keeping-session.ensures.taken c.run_keeping-session.ensures.read.0 e

pub returns-clause-sized : goal.returns-clause-sized
returns-clause-sized g c = λ files input names script ss n t e cause freezes.
    let sources = inr (all_extend g.W.Reader.ByteSource.script files input names c.args.sources.now
    c.run_keeping-session.new.sources ss n c.run_keeping-session.ensures.taken e) in
    c.run_keeping-session.ensures.sized script t ss sources cause freezes
