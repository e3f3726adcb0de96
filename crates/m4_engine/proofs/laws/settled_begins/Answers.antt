-- The law, from `OnePass`.
use Rattle.m4_engine.proofs.OnePass as law
use Rattle.m4_engine.proofs.laws.settled_begins.Goals as goal

pub returns : goal.returns
returns c = law.settled_begins
