use Rattle.std.proofs.Common.{rules}
use Rattle.m4_frozen.proofs.strings.pair_head.Goals as goal

pub returns-in_err-first : goal.returns-in_err-first
returns-in_err-first c = search rules

pub returns : goal.returns
returns c = search rules
