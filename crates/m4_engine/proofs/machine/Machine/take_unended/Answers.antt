use Rattle.std.proofs.Common.{rules}
use Rattle.m4_input.specs.declared.front.Unended.TheVariants.{InString, InComment}
use Rattle.m4_builtins.specs.declared.place.Place.{Place}
use Rattle.m4_engine.proofs.Turning.{unended_moves}
use Rattle.m4_engine.proofs.machine.Machine.take_unended.Goals as goal

pub returns-in-InString-clause-makes : goal.returns-in-InString-clause-makes
returns-in-InString-clause-makes c = record {
  moves = λ may p before f z more k o m.
      let at : Place = record { file = c.in_ok-share_name.field-0; line = c.args.line } in
      unended_moves c.args.self.now c.add_error.new.self c.args.what InString c.args.line at c.args.input.now.pending
      (before z more) o m (search rules) (search rules) (search rules) (f z more)
      c.in_ok-add_error-in-InString.ensures.engine;
  limits = search rules;
  made = search rules;
}

pub returns-clause-makes : goal.returns-clause-makes
returns-clause-makes c = record {
  moves = λ may p before f z more k o m.
      let at : Place = record { file = c.in_ok-share_name.field-0; line = c.args.line } in
      unended_moves c.args.self.now c.add_error-in-InComment.new.self c.args.what InComment c.args.line at
      c.args.input.now.pending (before z more) o m (search rules) (search rules) (search rules) (f z more)
      c.in_ok-add_error-in-InComment.ensures.engine;
  limits = search rules;
  made = search rules;
}
