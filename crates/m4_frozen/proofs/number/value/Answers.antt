-- Where the next digit overflows, the number is too large, since more digits only make it larger.
use Rattle.std.proofs.Common.{◌≤◌, ◌<◌, arith}
use Rattle.m4_frozen.proofs.Digits.{value-too_large}
use Rattle.m4_frozen.specs.Spells.{value_of}
use Rattle.m4_frozen.proofs.number.value.Goals as goal

pub returns-in_err-checked_mul : goal.returns-in_err-checked_mul
returns-in_err-checked_mul c =
    let le : 18446744073709551616 ≤ value_of c.args.digits.now =
    value-too_large c.loop-b.n c.loop-b.b-index c.args.digits.now 18446744073709551616
    c.loop-b-test.true c.loop-b.invariant.0 (omega (arith, c.in_err-checked_mul.ensures)) in
    rw c.from_residual.ensures
    (λ (lt : value_of c.args.digits.now < 18446744073709551616). omega arith)

pub returns-in_err-n : goal.returns-in_err-n
returns-in_err-n c =
    let le : 18446744073709551616 ≤ value_of c.args.digits.now =
    value-too_large c.loop-b.n c.loop-b.b-index c.args.digits.now 18446744073709551616
    c.loop-b-test.true c.loop-b.invariant.0
    (omega (arith, c.in_err-n.ensures, c.in_ok-checked_mul.ensures, c.from.ensures)) in
    rw c.from_residual-in_err-n.ensures
    (λ (lt : value_of c.args.digits.now < 18446744073709551616). omega arith)
