-- The strings are read as the two in one slice are, whatever is made of them.
use Rattle.std.proofs.Common.{rules}
use Rattle.m4_frozen.proofs.strings.pair.Goals as goal

pub returns-in_err-both : goal.returns-in_err-both
returns-in_err-both c = λ make. let read = c.in_err-both.ensures.gives make in search rules

pub returns : goal.returns
returns c = λ make. let read = c.in_ok-both.ensures.gives make in search rules
