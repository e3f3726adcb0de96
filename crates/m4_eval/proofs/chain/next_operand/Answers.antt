-- A literal leads to the place after its operand, and white space around it changes nothing.
use Rattle.std.proofs.Common.{rules, zero, sym, ap, ◌∙◌, w32, SFits, to_z-of_z}
use Rattle.m4_eval.specs.declared.value.Value.TheVariants.{Number}
use Rattle.m4_eval.specs.EvaluateSteps.{with_signs, values_from}
use Rattle.m4_eval.proofs.Chains.{operand_read}
use Rattle.m4_eval.proofs.chain.next_operand.Goals as goal

pub returns-clause-value : goal.returns-clause-value
returns-clause-value c w =
    let fits : SFits w32 c.in_ok-value.value = search rules in
    operand_read w c.args.text.now c.without_spaces.result.now c.in_ok-byte.byte.now c.in_ok-byte.after.now
    c.in_ok-value.rest.now c.without_spaces-2.result.now c.in_ok-value.value
    c.without_spaces.ensures c.in_ok-byte.ensures.cases.0 (c.in_ok-value.ensures.value w) c.without_spaces-2.ensures
    ∙ ap (λ v. values_from zero (with_signs w (Number v)) c.without_spaces-2.result.now) (sym (to_z-of_z fits))
