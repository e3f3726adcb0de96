use Rattle.std.proofs.Common.{rules}
use Rattle.m4_eval.proofs.radix.Radix.new.Goals as goal

pub returns-in_default : goal.returns-in_default
returns-in_default c = search rules
