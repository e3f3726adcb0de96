use Rattle.std.proofs.Common.{rules}
use Rattle.m4_input.proofs.Lines.{left_ends, left_more}
use Rattle.m4_input.proofs.input.Input.skip_in_hand.Goals as goal

pub returns-in-Some : goal.returns-in-Some
returns-in-Some c =
    left_ends c.args.self.now c.fronts.self c.consume.new.self c.front-more.result.0.now c.fronts.invariant
    (search rules) c.in-Some.len c.in-Some.ensures.value c.consume.ensures

pub fronts-preserved : goal.fronts-preserved
fronts-preserved c =
    left_more c.args.self.now c.fronts.self c.consume-in-fronts.new.self c.front-more.result.0.now c.fronts.invariant
    (search rules) c.in_default.ensures.value c.consume-in-fronts.ensures
