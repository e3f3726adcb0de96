-- The law, from `Chains`.
use Rattle.m4_engine.proofs.Chains as law
use Rattle.m4_engine.proofs.laws.chain.Goals as goal

pub returns : goal.returns
returns c = law.chain
