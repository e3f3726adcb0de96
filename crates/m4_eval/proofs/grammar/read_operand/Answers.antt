-- A literal is what the code's literals answer, and then the signs are applied.
use Rattle.std.proofs.Common.{rules, reverse, sym, ap, ◌∙◌, Some, None, w32, SFits, to_z-of_z}
use Rattle.std.proofs.lemmas.Bool.{ne_eqb}
use Rattle.m4_eval.specs.declared.value.Value.TheVariants.{Number}
use Rattle.m4_eval.specs.EvaluateSteps.{with_signs}
use Rattle.m4_eval.proofs.Operands.{operand_is}
use Rattle.m4_eval.proofs.grammar.read_operand.Goals as goal

pub returns-in-Some-literal-clause-step : goal.returns-in-Some-literal-clause-step
returns-in-Some-literal-clause-step c =
    let fits : SFits w32 c.in-Some-literal.number = search rules in
    let step = operand_is (reverse c.args.waiting.now.items) c.args.byte c.args.after.now
    (Some (c.in-Some-literal.number, c.in-Some-literal.more)) (ne_eqb c.args.byte 40 c.if-byte-eq40.false)
    (sym c.sign.ensures ∙ c.in_default.is) (sym c.in-Some-literal.is ∙ c.literal.ensures.value) in
    ap (λ p. Some (p, c.in-Some-literal.more))
    (c.complete.ensures ∙ ap (λ v. with_signs (reverse c.args.waiting.now.items) (Number v)) (to_z-of_z fits))
    ∙ sym step

pub returns-in-None-clause-step : goal.returns-in-None-clause-step
returns-in-None-clause-step c =
    sym (operand_is (reverse c.args.waiting.now.items) c.args.byte c.args.after.now None
    (ne_eqb c.args.byte 40 c.if-byte-eq40.false) (sym c.sign.ensures ∙ c.in_default.is)
    (sym c.in-None.is ∙ c.literal.ensures.value))
