-- The mode and its last flush are those of the line.
use Rattle.m4_tool.proofs.ModeLines.{mode_ends, mode_missed}
use Rattle.std.proofs.Common.{refl}
use Rattle.m4_tool.proofs.Counts.{grew_after, grew_none}
use Rattle.m4_tool.proofs.ShownWriters.{mode_messages_grew, mode_output_grew}
use Rattle.m4_tool.proofs.follow.follow_mode.Goals as goal

pub returns-in-Some-clause-follows : goal.returns-in-Some-clause-follows
returns-in-Some-clause-follows g c = λ files k.
    mode_ends c.args.mode c.args.file.now (g.W.Reader.ByteSource.script c.in-Some.reader) (files c.args.file.now)
    (g.W.Reader.ByteSource.failures c.in-Some.reader) (g.W.Reader.ByteSource.failures c.run_mode-status.new.reader)
    (g.O.ByteSink.contents c.args.out.now) (g.O.ByteSink.contents c.run_mode-status.new.out) (g.O.ByteSink.contents c.close_mode.new.out)
    (g.M.ByteSink.contents c.args.messages.now) (g.M.ByteSink.contents c.run_mode-status.new.messages) (g.M.ByteSink.contents c.close_mode.new.messages)
    (g.O.ByteSink.failures c.args.out.now) (g.O.ByteSink.failures c.run_mode-status.new.out) (g.O.ByteSink.failures c.close_mode.new.out)
    (g.M.ByteSink.failures c.args.messages.now) (g.M.ByteSink.failures c.run_mode-status.new.messages) (g.M.ByteSink.failures c.close_mode.new.messages)
    (g.W.World.failures c.args.world) (g.W.World.failures c.close_mode.result.world)
    c.run_mode-status.result c.close_mode.result.status (g.W.World.files c.args.world) (g.W.World.files c.close_mode.result.world)
    (rw k.1 at (c.in-Some.ensures k.0)) c.run_mode-status.ensures c.close_mode.ensures.closes c.close_mode.ensures.files

pub returns-in-None-clause-follows : goal.returns-in-None-clause-follows
returns-in-None-clause-follows g c = λ files k.
    mode_missed c.args.mode c.args.file.now (files c.args.file.now) c.put_unopened-put.result
    (g.O.ByteSink.contents c.args.out.now) (g.O.ByteSink.contents c.close_mode-in-None.new.out)
    (g.M.ByteSink.contents c.args.messages.now) (g.M.ByteSink.contents c.put_unopened-put.new.messages)
    (g.M.ByteSink.contents c.close_mode-in-None.new.messages)
    (g.M.ByteSink.failures c.args.messages.now) (g.M.ByteSink.failures c.put_unopened-put.new.messages)
    (g.M.ByteSink.failures c.close_mode-in-None.new.messages)
    c.close_mode-in-None.result.status (g.W.World.files c.args.world) (g.W.World.files c.close_mode-in-None.result.world) _ _
    (rw k.1 at (c.in-None.ensures k.0)) c.put_unopened-put.ensures.puts c.put_unopened-put.ensures.counted
    c.close_mode-in-None.ensures.closes c.close_mode-in-None.ensures.files

pub returns-in-Some-clause-shown_output : goal.returns-in-Some-clause-shown_output
returns-in-Some-clause-shown_output g c = c.close_mode.ensures.shown_output _
    (mode_output_grew c.run_mode-status.ensures.end _ _ _ _ c.run_mode-status.ensures.device)

pub returns-in-Some-clause-shown_messages : goal.returns-in-Some-clause-shown_messages
returns-in-Some-clause-shown_messages g c = c.close_mode.ensures.shown_messages _
    (mode_messages_grew c.run_mode-status.ensures.end c.args.file.now _ _ _ _ c.run_mode-status.ensures.messages)

pub returns-in-None-clause-shown_output : goal.returns-in-None-clause-shown_output
returns-in-None-clause-shown_output g c = c.close_mode-in-None.ensures.shown_output _ (grew_none _ _ refl)

pub returns-in-None-clause-shown_messages : goal.returns-in-None-clause-shown_messages
returns-in-None-clause-shown_messages g c = c.close_mode-in-None.ensures.shown_messages _
    (grew_after c.put_unopened-put.result _ _ c.put_unopened-put.ensures.counted)
