-- The law, from `CallsFall` and `OneExpansion`.
use Rattle.m4_engine.proofs.CallsFall.{expand_is}
use Rattle.m4_engine.proofs.OneExpansion.{is_expand}
use Rattle.m4_engine.proofs.laws.expand_rules.Goals as goal

pub returns : goal.returns
returns c = (expand_is, is_expand)
