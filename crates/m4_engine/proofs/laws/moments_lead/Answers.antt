use Rattle.m4_engine.proofs.Moments.{moments_lead}
use Rattle.m4_engine.proofs.laws.moments_lead.Goals as goal

pub returns : goal.returns
returns c = moments_lead
