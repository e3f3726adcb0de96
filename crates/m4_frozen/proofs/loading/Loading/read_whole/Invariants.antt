-- All but the rest was read.
use Rattle.std.proofs.Common.{length}
use Rattle.m4_frozen.specs.Underway.{HasAdvanced}
use Rattle.m4_frozen.proofs.loading.Loading.read_whole.Given as goal

abbrev pub invariant-loop-after : goal.invariant-loop-after
invariant-loop-after l = HasAdvanced l.bytes l.initial.self l.self l.rest

abbrev pub decreases-loop-after : goal.decreases-loop-after
decreases-loop-after l = length l.rest
