use Rattle.m4_input.proofs.look.look_at_string.Goals as goal

pub returns-in-Open-clause-lies : goal.returns-in-Open-clause-lies
returns-in-Open-clause-lies c = c.without_end.ensures.lies c.args.text.now
