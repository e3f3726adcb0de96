-- A line whose frozen file can't be opened ends as a run that writes one message.
use Rattle.std.proofs.Common.{◌≡◌, ◌∙◌, ap, sym}
use Rattle.m4_engine.specs.declared.ending.Cause.TheVariants as causes
use Rattle.m4_tool.proofs.LineEnds.{missed_cause, missed_ends}
use Rattle.m4_tool.proofs.ReadFaults.{closes_read}
use Rattle.m4_tool.proofs.Counts.{grew_after, grew_then}
use Rattle.m4_tool.proofs.follow.closing.close_unopened.Goals as goal
use Rattle.m4_tool.proofs.follow.closing.close_unopened.Goals.{in-Ok, in-Err}

pub returns-clause-ends : goal.returns-clause-ends
returns-clause-ends g c = λ name.
    let same : c.match-put_unopened.cause ≡ missed_cause c.put_unopened.result = elim c.match-put_unopened.branch [
      | in-Ok w ↦ w.cause-is ∙ ap missed_cause (sym w.in-Ok.is)
      | in-Err w ↦ w.cause-is ∙ ap missed_cause (sym w.in-Err.is)
    ] in
    missed_ends c.close.result.failure name c.args.file.now c.args.file.now c.put_unopened.result c.match-put_unopened.cause c.close.result.status
    (g.O.ByteSink.contents c.args.out.now) (g.O.ByteSink.contents c.close.new.out)
    (g.M.ByteSink.contents c.args.messages.now) (g.M.ByteSink.contents c.put_unopened.new.messages) (g.M.ByteSink.contents c.close.new.messages)
    (g.M.ByteSink.failures c.args.messages.now) (g.M.ByteSink.failures c.put_unopened.new.messages) (g.M.ByteSink.failures c.close.new.messages)
    (g.W.World.files c.args.world) (g.W.World.files c.close.result.world)
    same c.put_unopened.ensures.puts c.put_unopened.ensures.counted c.close.ensures.closes

pub returns-clause-files : goal.returns-clause-files
returns-clause-files g c = c.close.ensures.closes.files

pub returns-clause-unread : goal.returns-clause-unread
returns-clause-unread g c = λ e.
    let k : c.match-put_unopened.cause ≡ causes.Read = closes_read c.args.file.now _ c.close.result.status c.close.result.failure _ c.close.ensures.closes e in
    elim c.match-put_unopened.branch [
      | in-Ok w ↦ (let h : causes.Done ≡ causes.Read = sym w.cause-is ∙ k in cc)
      | in-Err w ↦ (let h : causes.Write ≡ causes.Read = sym w.cause-is ∙ k in cc)
    ]

pub returns-clause-shown_output : goal.returns-clause-shown_output
returns-clause-shown_output g c = λ base h. c.close.ensures.shown_output base h

pub returns-clause-shown_messages : goal.returns-clause-shown_messages
returns-clause-shown_messages g c = λ base h.
    c.close.ensures.shown_messages base (grew_then base _ _ h (grew_after c.put_unopened.result _ _ c.put_unopened.ensures.counted))
