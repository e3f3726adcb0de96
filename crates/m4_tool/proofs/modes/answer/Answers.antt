use Rattle.m4_tool.proofs.modes.answer.Goals as goal

-- the line of the fault was put, or a beginning of it
pub returns-in-Err-clause-reports : goal.returns-in-Err-clause-reports
returns-in-Err-clause-reports g c = rw c.in-Err.is (c.put_report-put.result, c.put_report-put.ensures.puts, c.put_report-put.ensures.counted)
