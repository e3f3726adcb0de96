-- A literal and an operator lead from one place to the next, and a literal at the end to the value.
use Rattle.std.proofs.Common.{rules, zero, Some, [], sym, ap, ◌∙◌, w32, SFits, to_z-of_z}
use Rattle.std.proofs.lemmas.Option.{IfSome_then}
use Rattle.m4_eval.specs.declared.value.Value.TheVariants.{Number}
use Rattle.m4_eval.specs.EvaluateSteps.{joined_while, values_from}
use Rattle.m4_eval.specs.GrammarView.{place}
use Rattle.m4_eval.specs.ChainView.{frames_of}
use Rattle.m4_eval.proofs.Chains.{operand_left, operator_read, chain_ended}
use Rattle.m4_eval.proofs.chain.chain_value.Goals as goal

pub returns-in_default : goal.returns-in_default
returns-in_default c =
    let w = frames_of c.loop-rest.left in
    let z = c.in_ok-number.number in
    let fits : SFits w32 z = search rules in
    IfSome_then c.join_left.result c.join_left.ensures
    (λ v j. sym c.loop-rest.invariant
    ∙ operand_left c.loop-rest.left c.loop-rest.rest.now c.in_ok-number.after.now z c.in_ok-number.ensures.value
    ∙ chain_ended w (Number z) v c.in_ok-number.after.now c.in_default.ensures.cases
    (ap (λ y. joined_while 1 w (Number y)) (sym (to_z-of_z fits)) ∙ j))

pub loop-rest-preserved : goal.loop-rest-preserved
loop-rest-preserved c =
    let w = frames_of c.loop-rest.left in
    let z = c.in_ok-number.number in
    let fits : SFits w32 z = search rules in
    let joined =
    ap (λ n. joined_while n w (Number z)) (sym c.level.ensures)
    ∙ ap (λ y. joined_while c.level.result w (Number y)) (sym (to_z-of_z fits)) ∙ c.in_ok-join_left.ensures in
    operator_read w [] (Number z) c.in_ok-join_left.field-0 c.in_ok-next.next c.in-Some.byte.now c.in_ok-next.len
    c.in-Some.more.now c.split_at.result.1.now (sym c.in_ok-next.ensures.value) joined c.split_at.ensures.back
    ∙ ap (values_from zero (place w (Some (Number z)))) (sym c.in-Some.ensures.cases.0)
    ∙ sym (operand_left c.loop-rest.left c.loop-rest.rest.now c.in_ok-number.after.now z c.in_ok-number.ensures.value)
    ∙ c.loop-rest.invariant
