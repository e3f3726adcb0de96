-- A stated radix, a colon and its digits.
use Rattle.std.proofs.Common.{rules, ◌+◌, length, Some, None, sym, ap, ◌∙◌, w32, SFits, to_z-of_z, option_map, drop}
use Rattle.std.proofs.Common.{◌∷◌}
use Rattle.m4_eval.proofs.Numbers.{stated_is, no_radix, run_is}
use Rattle.m4_eval.specs.LexerView.{in_bits}
use Rattle.m4_eval.proofs.lexer.stated.Goals as goal

pub returns-in_err-radix-clause-value : goal.returns-in_err-radix-clause-value
returns-in_err-radix-clause-value c =
    c.from_residual.ensures
    ∙ ap (option_map in_bits) (sym (no_radix c.args.after.now c.split_at.result.0.now
    (run_is c.args.after.now c.split_at.result.0.now c.run_len.result c.run_len.ensures.len c.split_at.ensures.front)
    (sym c.radix_of.ensures.value ∙ c.in_err-radix.was)))

pub returns-in_err-whole-clause-value : goal.returns-in_err-whole-clause-value
returns-in_err-whole-clause-value c =
    c.from_residual-in_err-whole.ensures
    ∙ stated_is c.args.after.now c.split_at.result.0.now c.split_at.result.1.now c.in-Some-eq58-default.digits.now
    c.split_at-2.result.0.now c.in_ok-radix.radix None
    (run_is c.args.after.now c.split_at.result.0.now c.run_len.result c.run_len.ensures.len c.split_at.ensures.front)
    (c.split_at.ensures.back ∙ ap (λ n. drop n c.args.after.now) (sym c.split_at.ensures.front_len))
    (sym c.radix_of.ensures.value ∙ c.in_ok-radix.was)
    (c.in-Some-eq58-default.ensures.cases.0 ∙ ap (λ b. b ∷ c.in-Some-eq58-default.digits.now) c.in-Some-eq58-default.field-0-0-test)
    (run_is c.in-Some-eq58-default.digits.now c.split_at-2.result.0.now c.run_len-2.result c.run_len-2.ensures.len c.split_at-2.ensures.front)
    (sym c.in_err-whole.was ∙ c.whole.ensures)

pub returns-clause-value : goal.returns-clause-value
returns-clause-value c =
    let fits : SFits w32 c.in_ok-whole.field-0 = search rules in
    ap (λ z. Some (z, length c.split_at.result.0.now + length c.split_at-2.result.0.now + 2)) (to_z-of_z fits)
    ∙ stated_is c.args.after.now c.split_at.result.0.now c.split_at.result.1.now c.in-Some-eq58-default.digits.now
    c.split_at-2.result.0.now c.in_ok-radix.radix (Some c.in_ok-whole.field-0)
    (run_is c.args.after.now c.split_at.result.0.now c.run_len.result c.run_len.ensures.len c.split_at.ensures.front)
    (c.split_at.ensures.back ∙ ap (λ n. drop n c.args.after.now) (sym c.split_at.ensures.front_len))
    (sym c.radix_of.ensures.value ∙ c.in_ok-radix.was)
    (c.in-Some-eq58-default.ensures.cases.0 ∙ ap (λ b. b ∷ c.in-Some-eq58-default.digits.now) c.in-Some-eq58-default.field-0-0-test)
    (run_is c.in-Some-eq58-default.digits.now c.split_at-2.result.0.now c.run_len-2.result c.run_len-2.ensures.len c.split_at-2.ensures.front)
    (sym c.in_ok-whole.was ∙ c.whole.ensures)
