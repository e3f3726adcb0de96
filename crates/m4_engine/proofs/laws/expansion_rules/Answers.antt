-- The law, from `Bounds`.
use Rattle.m4_engine.proofs.Bounds.{expansion_is}
use Rattle.m4_engine.proofs.laws.expansion_rules.Goals as goal

pub returns : goal.returns
returns g c = expansion_is g.row.S.Denot g.row.F.Denot g.row.D.Denot
