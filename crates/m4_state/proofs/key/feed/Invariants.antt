use Rattle.std.proofs.Common.{◌≡◌, length}
use Rattle.std.specs.List.{fold}
use Rattle.m4_state.specs.NameHash.{pieces}
use Rattle.m4_state.proofs.key.feed.Given as goal

-- what is fed, and what the rest will feed, are what the name feeds
abbrev pub invariant-loop-rest : goal.invariant-loop-rest
invariant-loop-rest g l = fold g.H.Hasher.write l.state (pieces l.rest) ≡ fold g.H.Hasher.write l.initial.state (pieces l.name)

abbrev pub decreases-loop-rest : goal.decreases-loop-rest
decreases-loop-rest g l = length l.rest
