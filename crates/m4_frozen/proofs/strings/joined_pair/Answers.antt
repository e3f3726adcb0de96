-- The head of two counted strings, the strings and the newline are read as their layout says.
use Rattle.std.proofs.Common.{rules, arith}
use Rattle.std.proofs.lemmas.Grind.{common_steps}
use Rattle.m4_frozen.specs.ReaderSteps.{string_at}
use Rattle.m4_frozen.proofs.strings.joined_pair.Goals as goal

pub returns-in_err-second-clause-gives : goal.returns-in_err-second-clause-gives
returns-in_err-second-clause-gives c = search rules

pub returns-in_err-rest-2-clause-gives : goal.returns-in_err-rest-2-clause-gives
returns-in_err-rest-2-clause-gives c = search rules

pub returns-clause-gives : goal.returns-clause-gives
unfolding string_at
returns-clause-gives c = grind (arith, common_steps) steps 4000000
