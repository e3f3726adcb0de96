-- A frozen file that was refused has one line, and other ends have none.
use Rattle.m4_tool.proofs.Counts.{grew_after}
use Rattle.m4_tool.proofs.LineEnds.{refusal_reported, some_refused}
use Rattle.m4_tool.proofs.ShownWriters.{shown_after_put}
use Rattle.m4_tool.proofs.follow.closing.report_refusal.Goals as goal

pub returns-then-is_ok-clause-reports : goal.returns-then-is_ok-clause-reports
returns-then-is_ok-clause-reports g c =
    refusal_reported c.args.cause c.in-Frozen.field-0 c.args.file.now c.put_refused-put.result _ _ _ _ _ _
    c.in-Frozen.is c.put_refused-put.ensures.puts c.put_refused-put.ensures.counted c.flush-shown.ensures.contents
    (grew_after c.flush-shown.result _ _ c.flush-shown.ensures.failures)

pub returns-else-is_ok-clause-reports : goal.returns-else-is_ok-clause-reports
returns-else-is_ok-clause-reports g c =
    refusal_reported c.args.cause c.in-Frozen.field-0 c.args.file.now c.put_refused-put.result _ _ _ _ _ _
    c.in-Frozen.is c.put_refused-put.ensures.puts c.put_refused-put.ensures.counted c.flush-shown.ensures.contents
    (grew_after c.flush-shown.result _ _ c.flush-shown.ensures.failures)

pub returns-then-is_ok-clause-refused : goal.returns-then-is_ok-clause-refused
returns-then-is_ok-clause-refused g c = λ _. some_refused c.args.cause c.in-Frozen.field-0 c.args.file.now c.in-Frozen.is

pub returns-else-is_ok-clause-refused : goal.returns-else-is_ok-clause-refused
returns-else-is_ok-clause-refused g c = λ _. some_refused c.args.cause c.in-Frozen.field-0 c.args.file.now c.in-Frozen.is

pub returns-then-is_ok-clause-kept : goal.returns-then-is_ok-clause-kept
returns-then-is_ok-clause-kept g c = λ base h. shown_after_put c.put_refused-put.result c.flush-shown.result base _ _ _ _ _ h.grew
    c.put_refused-put.ensures.counted c.flush-shown.ensures.failures c.flush-shown.ensures.shown

pub returns-else-is_ok-clause-kept : goal.returns-else-is_ok-clause-kept
returns-else-is_ok-clause-kept g c = λ base h. shown_after_put c.put_refused-put.result c.flush-shown.result base _ _ _ _ _ h.grew
    c.put_refused-put.ensures.counted c.flush-shown.ensures.failures c.flush-shown.ensures.shown
