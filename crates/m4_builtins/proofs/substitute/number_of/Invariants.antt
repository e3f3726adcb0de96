use Rattle.std.proofs.Common.{◌≡◌, drop}
use Rattle.m4_builtins.specs.Subst.{number_of}
use Rattle.m4_builtins.proofs.Joins.{number_from}
use Rattle.m4_builtins.proofs.substitute.number_of.Given as goal

-- the digits that are left lead from the value to the number
abbrev pub invariant-loop-digit : goal.invariant-loop-digit
invariant-loop-digit l = number_from l.value (drop l.digit-index l.digits) ≡ number_of l.digits
