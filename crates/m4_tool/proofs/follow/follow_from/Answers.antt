-- The end of the run and its report are the line's.
use Rattle.std.specs.Prelude.{option_map, string_bytes, unwrap_or, []}
use Rattle.m4_engine.specs.Run.{run as defined}
use Rattle.m4_tool.proofs.LineEnds.{ended, freezes_at_end}
use Rattle.m4_tool.proofs.ReadFaults.{closes_read}
use Rattle.std.specs.Prelude.{◌≢◌}
use Rattle.m4_tool.specs.Line.{freeze_name, request_of}
use Rattle.m4_tool.specs.declared.followed.Failure.TheVariants as failures
use Rattle.m4_tool.proofs.MarkedFiles.{leaves_at_end}
use Rattle.m4_tool.proofs.FollowedCalls.{ends_as, ends_run}
use Rattle.m4_tool.proofs.follow.follow_from.Goals as goal

pub returns-clause-ends : goal.returns-clause-ends
returns-clause-ends g c = λ files input script ss k t e.
    ended c.close.result.failure (unwrap_or (option_map string_bytes c.args.line.now.freeze) []) c.args.file.now
    (defined c.args.line.now.options script ss) c.run_line-ran.result.ending
    (g.O.ByteSink.contents c.args.out.now) (g.O.ByteSink.contents c.run_line-ran.new.out) (g.O.ByteSink.contents c.close.new.out)
    (g.M.ByteSink.contents c.args.messages.now) (g.M.ByteSink.contents c.run_line-ran.new.messages) (g.M.ByteSink.contents c.close.new.messages)
    (g.M.ByteSink.failures c.args.messages.now) (g.M.ByteSink.failures c.run_line-ran.new.messages) (g.M.ByteSink.failures c.close.new.messages)
    (g.W.World.files c.args.world) (g.W.World.files c.run_line-ran.result.world) (g.W.World.files c.close.result.world) c.close.result.status
    (freezes_at_end c.args.line.now.options script ss) (c.run_line-ran.ensures.ran files input script ss k t e) c.close.ensures.closes

pub returns-clause-read : goal.returns-clause-read
returns-clause-read g c = λ files input k e.
    c.run_line-ran.ensures.read files input k
    (closes_read c.args.file.now c.run_line-ran.result.ending c.close.result.status c.close.result.failure _
    c.close.ensures.closes e)

pub returns-clause-unfinished : goal.returns-clause-unfinished
returns-clause-unfinished g c =
    leaves_at_end (λ failure. failure ≢ failures.Report) c.close.result.failure (freeze_name (request_of c.args.line.now)) c.frozen_name.result.now
    (g.W.World.kept c.args.world) (g.W.World.kept c.run_line-ran.result.world) (g.W.World.kept c.close.result.world)
    c.frozen_name.ensures c.run_line-ran.ensures.unfinished c.close.ensures.unfinished

pub returns-clause-ended : goal.returns-clause-ended
returns-clause-ended g c = λ files input script ss k t e n.
    ends_as c.args.line.now.options script ss c.run_line-ran.result.ending c.close.result.ending c.close.ensures.ending
    (ends_run c.args.line.now.options script ss (unwrap_or (option_map string_bytes c.args.line.now.freeze) [])
    c.args.file.now c.run_line-ran.result.ending c.close.result.status c.close.result.failure _ _
    (c.run_line-ran.ensures.ran files input script ss k t e) c.close.ensures.closes n (c.run_line-ran.ensures.sized files input script ss k t e))

pub returns-clause-shown_output : goal.returns-clause-shown_output
returns-clause-shown_output g c = c.close.ensures.shown_output _ c.run_line-ran.ensures.counted.grew.0

pub returns-clause-shown_messages : goal.returns-clause-shown_messages
returns-clause-shown_messages g c = c.close.ensures.shown_messages _ c.run_line-ran.ensures.counted.grew.1
