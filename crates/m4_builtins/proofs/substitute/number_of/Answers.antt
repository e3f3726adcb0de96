use Rattle.std.proofs.Common.{◌+◌, drop, sym, ◌∙◌, arith}
use Rattle.m4_builtins.proofs.Joins.{number_next, too_great}
use Rattle.m4_builtins.proofs.substitute.number_of.Goals as goal

-- ten times the value is too great
pub returns-in_err-shifted : goal.returns-in_err-shifted
returns-in_err-shifted c =
    let i = c.loop-digit.digit-index in
    let next = sym (number_next c.loop-digit.value i c.args.digits.now (omega arith)) ∙ c.loop-digit.invariant in
    too_great c.from_residual.result _ (drop (i + 1) c.args.digits.now) _ c.from_residual.ensures next (omega (arith, c.in_err-shifted.ensures))

-- with the digit it is
pub returns-in_err-value : goal.returns-in_err-value
returns-in_err-value c =
    let i = c.loop-digit.digit-index in
    let next = sym (number_next c.loop-digit.value i c.args.digits.now (omega arith)) ∙ c.loop-digit.invariant in
    too_great c.from_residual-in_err-value.result _ (drop (i + 1) c.args.digits.now) _
    c.from_residual-in_err-value.ensures next (omega (arith, c.in_err-value.ensures))
