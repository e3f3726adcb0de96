-- The law, from `Reloads`.
use Rattle.m4_engine.proofs.Reloads as law
use Rattle.m4_engine.proofs.laws.split.Goals as goal

pub returns : goal.returns
returns c = law.split
