-- The run after a first digit goes on with it.
use Rattle.std.proofs.Common.{rules, length, Some, None, sym, ap, ◌∙◌, arith, w32, SFits, to_z-of_z, ◌<◌}
use Rattle.std.proofs.lemmas.Bool.{lt-ltb}
use Rattle.std.specs.Char.{digit_value}
use Rattle.m4_eval.specs.LexerView.{bits_after}
use Rattle.m4_eval.proofs.Numbers.{from_digit_is, run_is, digit_passed}
use Rattle.m4_eval.proofs.lexer.from_digit.Goals as goal

pub returns-in_err-go_on-clause-value : goal.returns-in_err-go_on-clause-value
returns-in_err-go_on-clause-value c =
    let v = c.digit_of-value.ensures in
    let l : digit_value c.args.first < c.args.radix = omega (arith, v, c.if-value-radix.false) in
    let n : c.digit_of-value.result < 37 = omega (arith, c.if-value-radix.false, c.requires) in
    c.from_residual.ensures
    ∙ from_digit_is c.args.radix c.args.first c.args.after.now c.split_at.result.0.now None c.requires
    (lt-ltb (digit_value c.args.first) c.args.radix l) (omega (arith, v, n))
    (run_is c.args.after.now c.split_at.result.0.now c.run_len.result c.run_len.ensures.len c.split_at.ensures.front)
    (sym c.in_err-go_on.was ∙ c.go_on.ensures
    ∙ ap (λ z. bits_after c.args.radix z c.split_at.result.0.now)
    (digit_passed c.from.result c.digit_of-value.result (digit_value c.args.first) c.from.ensures v n))

pub returns-clause-value : goal.returns-clause-value
returns-clause-value c =
    let v = c.digit_of-value.ensures in
    let l : digit_value c.args.first < c.args.radix = omega (arith, v, c.if-value-radix.false) in
    let n : c.digit_of-value.result < 37 = omega (arith, c.if-value-radix.false, c.requires) in
    let fits : SFits w32 c.in_ok-go_on.field-0 = search rules in
    ap (λ z. Some (z, length c.split_at.result.0.now)) (to_z-of_z fits)
    ∙ from_digit_is c.args.radix c.args.first c.args.after.now c.split_at.result.0.now (Some c.in_ok-go_on.field-0) c.requires
    (lt-ltb (digit_value c.args.first) c.args.radix l) (omega (arith, v, n))
    (run_is c.args.after.now c.split_at.result.0.now c.run_len.result c.run_len.ensures.len c.split_at.ensures.front)
    (sym c.in_ok-go_on.was ∙ c.go_on.ensures
    ∙ ap (λ z. bits_after c.args.radix z c.split_at.result.0.now)
    (digit_passed c.from.result c.digit_of-value.result (digit_value c.args.first) c.from.ensures v n))
