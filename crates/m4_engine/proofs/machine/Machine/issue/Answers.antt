use Rattle.std.proofs.Common.{rules}
use Rattle.m4_state.proofs.CallerLaws.{Puts-refused}
use Rattle.m4_engine.proofs.Issues.{issued_one, issue_breaks}
use Rattle.m4_engine.proofs.machine.Machine.issue.Goals as goal

pub loop-text-preserved : goal.loop-text-preserved
loop-text-preserved g c = record {
  issuing = issued_one c.args.self.now.state c.loop-text.self-inside.state c.take_least.new.self c.in-Some.field-0-0
      c.in-Some.text.items _ _ _ c.loop-text.invariant.issuing c.in-Some.ensures.some (search rules);
  rest = search rules;
  nested = search rules;
  sound = search rules;
}

pub returns-in_err-write_all-clause-puts : goal.returns-in_err-write_all-clause-puts
returns-in_err-write_all-clause-puts g c = Puts-refused c.from_residual.result _ _ _ (search rules)
    (issue_breaks c.args.self.now.state c.loop-text.self-inside.state c.take_least.new.self c.in-Some.field-0-0
    c.in-Some.text.items _ _ _ c.loop-text.invariant.issuing c.in-Some.ensures.some (search rules))
