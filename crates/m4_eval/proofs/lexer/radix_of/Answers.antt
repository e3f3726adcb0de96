-- After all digits the number says whether it is a radix.
use Rattle.std.proofs.Common.{sym, ◌∙◌}
use Rattle.m4_eval.proofs.Numbers.{radix_found, too_low, too_high, is_radix}
use Rattle.m4_eval.proofs.lexer.radix_of.Goals as goal

pub returns-clause-value : goal.returns-clause-value
returns-clause-value c =
    sym (is_radix c.loop-digit.radix c.if-radix-lt2.false c.if-radix-gt36.false)
    ∙ radix_found c.args.said.now c.loop-digit.digit-index c.loop-digit.radix c.loop-digit-test.false c.loop-digit.invariant.0

pub returns-then-radix-lt2-clause-value : goal.returns-then-radix-lt2-clause-value
returns-then-radix-lt2-clause-value c =
    sym (too_low c.loop-digit.radix c.if-radix-lt2.true)
    ∙ radix_found c.args.said.now c.loop-digit.digit-index c.loop-digit.radix c.loop-digit-test.false c.loop-digit.invariant.0

pub returns-then-radix-gt36-clause-value : goal.returns-then-radix-gt36-clause-value
returns-then-radix-gt36-clause-value c =
    sym (too_high c.loop-digit.radix c.if-radix-gt36.true)
    ∙ radix_found c.args.said.now c.loop-digit.digit-index c.loop-digit.radix c.loop-digit-test.false c.loop-digit.invariant.0
