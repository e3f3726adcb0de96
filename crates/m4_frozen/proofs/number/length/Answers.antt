-- Few digits are a length.
use Rattle.m4_frozen.proofs.FewDigits.{is_length}
use Rattle.m4_frozen.proofs.number.length.Goals as goal

pub returns-in-Some : goal.returns-in-Some
returns-in-Some c = is_length c.in-Some.found.0 c.args.bytes.now c.in-Some.found.1.now c.in-Some.ensures
