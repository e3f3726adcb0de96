-- A number has a digit.
use Rattle.std.proofs.Common.{◌≡◌, ◌<◌, length, sym, ◌∙◌, subst, arith, ℕ, List}
use Rattle.std.specs.Fmt.{decimal}
use Rattle.std.proofs.lemmas.Fmt.{decimal_nonempty}
use Rattle.m4_eval.proofs.digits.digits_of.Goals as goal

pub returns-then-value-eq10-clause-some : goal.returns-then-value-eq10-clause-some
returns-then-value-eq10-clause-some c =
    let written : c.as_bytes.result.now ≡ decimal c.args.number = c.as_bytes.ensures.value ∙ c.format.ensures.text in
    subst (λ (x : List ℕ). 0 < length x) (sym written) (decimal_nonempty c.args.number (omega (arith, c.ranges.number.fits)))
