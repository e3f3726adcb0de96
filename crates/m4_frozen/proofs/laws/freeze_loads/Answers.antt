-- The law, from `RoundTrip`.
use Rattle.m4_frozen.proofs.RoundTrip as law
use Rattle.m4_frozen.proofs.laws.freeze_loads.Goals as goal

pub returns : goal.returns
returns c = law.freeze_loads
