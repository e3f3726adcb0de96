use Rattle.m4_input.proofs.look.look_at_comment.Goals as goal

pub returns-in-None-clause-lies : goal.returns-in-None-clause-lies
returns-in-None-clause-lies c = c.without_end.ensures.lies c.args.text.now
