-- The law, from `Outcomes`.
use Rattle.m4_eval.proofs.Outcomes.{one_value}
use Rattle.m4_eval.proofs.laws.one_value.Goals as goal

pub returns : goal.returns
returns c = one_value
