-- The digits that are found are digits.
use Rattle.m4_frozen.proofs.Digits.{digits_are}
use Rattle.m4_frozen.proofs.number.some_digits.Goals as goal

pub returns-in-len1-up-clause-are : goal.returns-in-len1-up-clause-are
returns-in-len1-up-clause-are c = rw c.digits.ensures.digits (digits_are c.args.bytes.now)
