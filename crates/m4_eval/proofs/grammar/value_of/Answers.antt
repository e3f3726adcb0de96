-- A token leads from one place to the next, and the bytes that it took are after it.
use Rattle.std.proofs.Common.{zero, reverse, sym, ap, ◌∙◌}
use Rattle.m4_eval.proofs.Operands.{stepped}
use Rattle.m4_eval.specs.GrammarView.{place, placed}
use Rattle.m4_eval.specs.EvaluateSteps.{values_from}
use Rattle.m4_eval.proofs.grammar.value_of.Goals as goal

pub loop-byte-preserved : goal.loop-byte-preserved
loop-byte-preserved c =
    let p = place (reverse c.loop-byte.waiting.items) c.loop-byte.operand in
    let w = reverse c.read_token.new.waiting.items in
    stepped p (place w c.in-Some-2.step.operand) c.in-Some-split_first.byte.now c.in-Some-2.step.more c.in-Some-split_first.after.now c.split_at.result.1.now
    (sym c.is_space.ensures ∙ c.if-is_space.false)
    (sym c.in_ok-step.ensures.step ∙ ap (placed w) c.in-Some-2.is) c.split_at.ensures.back
    ∙ ap (values_from zero p) (sym c.in-Some-split_first.ensures.cases.0) ∙ c.loop-byte.invariant
