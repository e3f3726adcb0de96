use Rattle.std.proofs.Common.{◌≡◌, ◌+◌, ◌*◌, ◌-◌, ◌≤◌, List, ℕ, length}
use Rattle.std.proofs.Common.{None}
use Rattle.m4_input.specs.Input.{wants_list}
use Rattle.m4_input.specs.Pending.{text_of}
use Rattle.m4_input.proofs.Blocks.{HasAsked, blocks_left}
use Rattle.m4_input.proofs.input.Input.sees_paren.Given as goal

abbrev pub invariant-looks : goal.invariant-looks
invariant-looks g l =
    ((x : List ℕ) × HasAsked (wants_list l.delims.quotes.now l.delims.comments.now)
    (g.R.ByteSource.script l.initial.reader) (g.R.ByteSource.script l.reader) l.initial.self l.self x (l.self).pending)
    × (((l.self).pending).definition ≡ None)
    × (g.R.ByteSource.failures l.reader ≡ g.R.ByteSource.failures l.initial.reader)
    × (l.looked ≤ length (text_of (l.self).pending))

-- a block has 4,096 bytes at most, so more of them may follow, or more of those in hand were looked at
abbrev pub decreases-looks : goal.decreases-looks
decreases-looks g l = blocks_left (l.self.pending).may_follow (g.R.ByteSource.takes_left l.reader) * 4097 + (length (text_of (l.self).pending) - l.looked)
