use Rattle.std.proofs.Common.{◌≡◌, ◌==◌, ◌≤◌, ◌++◌, not, length}
use Rattle.m4_input.specs.Ascii.{dollar}
use Rattle.m4_input.specs.Token.{run_length}
use Rattle.m4_builtins.specs.QuotesView.{pair_of}
use Rattle.m4_builtins.specs.Subst.{subst}
use Rattle.m4_builtins.proofs.substitute.substitute_onto.Given as goal

-- what is written and what the rest gives is all
abbrev pub invariant-loop-rest : goal.invariant-loop-rest
invariant-loop-rest l = record {
  all : l.out ++ subst l.rest l.name l.list (pair_of l.quotes) ≡ l.fn.out ++ subst l.text l.name l.list (pair_of l.quotes);
  count : l.before ≡ run_length (λ b. not (b == dollar)) l.rest;
  within : l.before ≤ length l.rest;
}

abbrev pub decreases-loop-rest : goal.decreases-loop-rest
decreases-loop-rest l = length l.rest
