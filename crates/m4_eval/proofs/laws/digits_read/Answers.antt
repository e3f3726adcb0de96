-- The law, from `ReadBack`.
use Rattle.m4_eval.proofs.ReadBack as law
use Rattle.m4_eval.proofs.laws.digits_read.Goals as goal

pub returns : goal.returns
returns c = law.digits_read
