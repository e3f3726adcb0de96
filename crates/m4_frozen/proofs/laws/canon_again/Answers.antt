-- The law, from `RoundTrip`.
use Rattle.m4_frozen.proofs.RoundTrip as law
use Rattle.m4_frozen.proofs.laws.canon_again.Goals as goal

pub returns : goal.returns
returns c = law.canon_again
