-- The value that is computed while the text is read is that of the definition.
use Rattle.std.proofs.Common.{rules, sym, ap, ◌∙◌, Some, None, w32, SFits, to_z-of_z}
use Rattle.m4_eval.specs.declared.evaluate.Evaluated.TheVariants.{Value}
use Rattle.m4_eval.specs.declared.value.Value.TheVariants.{Number, DividedByZero}
use Rattle.m4_eval.proofs.Outcomes.{evaluated_is, spelled_as}
use Rattle.m4_eval.proofs.evaluate.evaluate.Goals as goal

pub returns-in-None : goal.returns-in-None
returns-in-None c =
    let is = evaluated_is c.args.text.now None (sym c.in-None.is ∙ c.in_ok-value_of.ensures.value) in
    record { spelled = spelled_as c.args.text.now _ is; value = is }

pub returns-in-Some-DividedByZero : goal.returns-in-Some-DividedByZero
returns-in-Some-DividedByZero c =
    let same = c.in-Some-DividedByZero.is ∙ ap Some c.in-Some-DividedByZero.field-0-is in
    let is = evaluated_is c.args.text.now (Some DividedByZero) (sym same ∙ c.in_ok-value_of.ensures.value) in
    record { spelled = spelled_as c.args.text.now _ is; value = is }

pub returns-in-Some-Number : goal.returns-in-Some-Number
returns-in-Some-Number c =
    let z = c.in-Some-Number.number in
    let fits : SFits w32 z = search rules in
    let same = c.in-Some-Number.is ∙ ap Some c.in-Some-Number.field-0-is in
    let is = ap Value (to_z-of_z fits) ∙ evaluated_is c.args.text.now (Some (Number z)) (sym same ∙ c.in_ok-value_of.ensures.value) in
    record { spelled = spelled_as c.args.text.now _ is; value = is }
