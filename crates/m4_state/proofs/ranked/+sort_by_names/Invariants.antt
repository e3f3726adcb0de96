-- The runs before the place are sorted.
use Rattle.std.proofs.Common.{◌-◌, length}
use Rattle.m4_state.proofs.Runs.{Runs}
use Rattle.m4_state.proofs.RankOrder.{before}
use Rattle.m4_state.proofs.ranked.+sort_by_names.Given as goal

abbrev pub decreases-sort_by_names : goal.decreases-sort_by_names
decreases-sort_by_names l = l.depth

abbrev pub invariant-loop-at : goal.invariant-loop-at
invariant-loop-at l = Runs (λ r. r.place) (before l.entries.entries) l.initial.run l.run l.at

abbrev pub decreases-loop-at : goal.decreases-loop-at
decreases-loop-at l = length l.initial.run - l.at
