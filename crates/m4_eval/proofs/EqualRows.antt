-- Worked rows, computed: numbers that are equal, compared. The values are those of the manual.
use Rattle.std.proofs.Common.{◌≡◌, refl, pos}
use Rattle.std.specs.Prelude.{codes}
use Rattle.std.specs.Int.{int_wrap}
use Rattle.m4_eval.specs.declared.evaluate.Evaluated.TheVariants.{Value}
use Rattle.m4_eval.specs.Evaluated.{evaluated}

pub less_of_equal : evaluated (codes "1<1") ≡ Value (pos 0)
unfolding int_wrap
less_of_equal = refl

pub greater_of_equal : evaluated (codes "2>2") ≡ Value (pos 0)
unfolding int_wrap
greater_of_equal = refl

pub at_least_of_less : evaluated (codes "1>=2") ≡ Value (pos 0)
unfolding int_wrap
at_least_of_less = refl

pub at_most_of_greater : evaluated (codes "2<=1") ≡ Value (pos 0)
unfolding int_wrap
at_most_of_greater = refl

pub at_least_of_equal : evaluated (codes "2>=2") ≡ Value (pos 1)
unfolding int_wrap
at_least_of_equal = refl

pub at_most_of_equal : evaluated (codes "2<=2") ≡ Value (pos 1)
unfolding int_wrap
at_most_of_equal = refl
