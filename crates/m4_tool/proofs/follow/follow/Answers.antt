-- A line without a mode is followed as a run. Its result is one that it may give.
use Rattle.m4_tool.specs.Line.{request_of}
use Rattle.m4_tool.proofs.ExtendedFiles.{line_given}
use Rattle.m4_tool.proofs.FollowedCalls.{follows_by}
use Rattle.m4_tool.proofs.follow.follow.Goals as goal

pub returns-in-None-clause-runs : goal.returns-in-None-clause-runs
returns-in-None-clause-runs g c = λ files input r n k e.
    c.follow_run.ensures.follows files input r k (line_given (request_of c.args.line.now) files input r e)

pub returns-in-None-clause-extends : goal.returns-in-None-clause-extends
returns-in-None-clause-extends g c = λ files input r n k e. c.follow_run.ensures.follows files input r k e

pub returns-in-None-clause-read : goal.returns-in-None-clause-read
returns-in-None-clause-read g c = λ files input n k e. c.follow_run.ensures.read files input k e

pub returns-in-None-clause-followed : goal.returns-in-None-clause-followed
returns-in-None-clause-followed g c = λ files files_new input o o' m m' n k w a a' b b'. record {
  failures_old = g.M.ByteSink.failures c.args.messages.now;
  failures_new = g.M.ByteSink.failures c.follow_run.new.messages;
  extends = λ r e.
      follows_by (request_of c.args.line.now) r c.follow_run.result.status c.follow_run.result.failure
      (g.O.ByteSink.contents c.args.out.now) (g.O.ByteSink.contents c.follow_run.new.out)
      (g.M.ByteSink.contents c.args.messages.now) (g.M.ByteSink.contents c.follow_run.new.messages)
      (g.M.ByteSink.failures c.args.messages.now) (g.M.ByteSink.failures c.follow_run.new.messages)
      (g.W.World.files c.args.world) (g.W.World.files c.follow_run.result.world) o o' m m' files files_new
      a a' b b' k.0.1 w (c.follow_run.ensures.follows files input r k e);
  ended = λ f script ss t e. c.follow_run.ensures.ended files input script ss k t e f;
}
