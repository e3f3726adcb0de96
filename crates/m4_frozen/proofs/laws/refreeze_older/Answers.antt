-- The law, from `Refrozen`.
use Rattle.m4_frozen.proofs.Refrozen as law
use Rattle.m4_frozen.proofs.laws.refreeze_older.Goals as goal

pub returns : goal.returns
returns c = law.refreeze_older
