-- The law, from `Rounds`.
use Rattle.m4_engine.proofs.Rounds as law
use Rattle.m4_engine.proofs.laws.wraps_rules.Goals as goal

pub returns : goal.returns
returns c = law.wraps_rules
