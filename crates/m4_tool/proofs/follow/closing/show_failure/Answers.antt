-- The line is written, and then flushed, unless it is empty.
use Rattle.std.proofs.Common.{rules, ◌≡◌, ◌∙◌, false, List, ℕ, length, subst}
use Rattle.std.specs.Prelude.{◌==◌}
use Rattle.m4_state.specs.Device.{Puts}
use Rattle.m4_tool.specs.Failure.{failure_line}
use Rattle.m4_tool.proofs.Counts.{grew_after, reported_by}
use Rattle.m4_tool.proofs.LineEnds.{line_reported}
use Rattle.m4_tool.proofs.ShownWriters.{shown_after_put}
use Rattle.m4_tool.proofs.follow.closing.show_failure.Goals as goal

pub returns-then-not-is_empty : goal.returns-then-not-is_empty
returns-then-not-is_empty g c =
    let text : c.as_bytes-line.result.now ≡ failure_line c.args.failure = c.as_bytes-line.ensures.value ∙ c.line.ensures in
    let some : (length c.as_bytes-line.result.now == 0) ≡ false = search rules in
    record {
      kept = λ base h. shown_after_put c.write_all-put.result c.flush-shown.result base _ _ _ _ _ h.grew
          c.write_all-put.ensures.counted c.flush-shown.ensures.failures c.flush-shown.ensures.shown;
      reports = line_reported c.args.failure _ _ _ _ (subst (λ (t : List ℕ). (length t == 0) ≡ false) text some) (
        g.M.ByteSink.contents c.write_all-put.new.writer,
        g.M.ByteSink.failures c.write_all-put.new.writer,
        reported_by c.write_all-put.result (failure_line c.args.failure) _ _ _ _
            (subst (λ (t : List ℕ). Puts c.write_all-put.result (g.M.ByteSink.contents c.args.messages.now)
            (g.M.ByteSink.contents c.write_all-put.new.writer) t) text c.write_all-put.ensures.puts)
            c.write_all-put.ensures.counted,
        (c.flush-shown.ensures.contents, grew_after c.flush-shown.result _ _ c.flush-shown.ensures.failures),
      );
    }
