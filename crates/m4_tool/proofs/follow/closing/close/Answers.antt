-- What is reported after the last flushes is the line's.
use Rattle.std.proofs.Common.{ap, ◌∙◌}
use Rattle.m4_tool.specs.Failure.{failure_lines, status_after}
use Rattle.m4_tool.specs.Line.{refusals}
use Rattle.m4_tool.specs.LineEnd.{failure_of}
use Rattle.m4_tool.specs.LineRun.{failure_after}
use Rattle.m4_tool.proofs.Counts.{flushed_grew}
use Rattle.m4_tool.proofs.ClosedCounts.{closed_as}
use Rattle.m4_tool.proofs.LineEnds.{reports-grew, reports_after}
use Rattle.m4_tool.proofs.follow.closing.close.Goals as goal

pub returns-clause-closes : goal.returns-clause-closes
returns-clause-closes g c = record {
  flushed = c.flush_all-flushed.result;
  is_status = c.status_after.ensures ∙ ap (λ f. status_after f c.args.ending.status) c.failure_of-failure.ensures;
  is_reported = c.report_refusal-is_reported.result;
  refused = c.report_refusal-is_reported.ensures.refused;
  failed = c.failure_after.ensures ∙ ap (λ f. failure_after f c.report_refusal-is_reported.result) c.failure_of-failure.ensures;
  output = c.flush_all-flushed.ensures.output;
  reports = reports_after (refusals c.args.file.now c.args.ending.cause)
      (failure_lines (failure_of c.args.ending.cause c.flush_all-flushed.result)) _ _ _ _ _ _ _ _
      c.flush_all-flushed.ensures.messages
      (flushed_grew c.flush_all-flushed.result _ c.flush_all-flushed.ensures.counted).1
      c.report_refusal-is_reported.ensures.reports (rw c.failure_of-failure.ensures at c.report_last.ensures.reports);
  files = c.flush_all-flushed.ensures.files;
}

pub returns-clause-shown_output : goal.returns-clause-shown_output
returns-clause-shown_output g c = λ base h. c.flush_all-flushed.ensures.shown_output base h

pub returns-clause-shown_messages : goal.returns-clause-shown_messages
returns-clause-shown_messages g c = λ base h.
    c.report_last.ensures.kept base (c.report_refusal-is_reported.ensures.kept base (c.flush_all-flushed.ensures.shown_messages base h))

pub returns-clause-counted : goal.returns-clause-counted
returns-clause-counted g c =
    let failed = c.failure_after.ensures ∙ ap (λ f. failure_after f c.report_refusal-is_reported.result) c.failure_of-failure.ensures in
    rw failed (closed_as c.args.ending.cause _ _ _ _ _ _ _ _ c.flush_all-flushed.result c.report_refusal-is_reported.result
    c.flush_all-flushed.ensures.counted c.report_refusal-is_reported.ensures.counted
    (reports-grew (failure_lines c.failure_of-failure.result) _ _ _ _ c.report_last.ensures.reports)
    (λ e. ap g.M.ByteSink.failures (c.report_last.ensures.unreported (c.failure_of-failure.ensures ∙ e))))
