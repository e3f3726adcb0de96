use Rattle.std.proofs.Common.{◌<◌, length, arith, ◌∙◌, sym}
use Rattle.m4_input.proofs.Joins.{some_left}
use Rattle.m4_input.proofs.text.Text.consume.Goals as goal

pub invariant_of-self-then-n-len : goal.invariant_of-self-then-n-len
invariant_of-self-then-n-len c =
    let inside : c.args.n < length c.self.inside.top = omega (arith, c.if-n-len.true, c.len-else-len-eq0.ensures.len) in (
      c.self.invariant.0,
      λ h. absurd (some_left c.args.n c.self.inside.top inside (sym c.pass.ensures ∙ h)),
    )
