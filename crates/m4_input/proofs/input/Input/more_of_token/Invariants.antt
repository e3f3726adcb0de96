use Rattle.std.proofs.Common.{◌≡◌, ◌≤◌, List, ℕ, None}
use Rattle.m4_input.specs.Pending.{text_of}
use Rattle.m4_input.specs.OpenToken.{IsOpenAt}
use Rattle.m4_input.proofs.TokenBlocks.{HasCome}
use Rattle.m4_input.proofs.input.Input.more_of_token.Given as goal

-- what came leaves the first token open
abbrev pub invariant-blocks-2 : goal.invariant-blocks-2
invariant-blocks-2 g l =
    ((x : List ℕ) × HasCome l.delims.quotes.now l.delims.comments.now (g.R.ByteSource.script l.fn.reader) (g.R.ByteSource.script l.reader) l.fn.self l.self x)
    × (((l.self).pending).definition ≡ None)
    × IsOpenAt l.delims.quotes.now l.delims.comments.now l.token (text_of l.self.pending)
    × (g.R.ByteSource.failures l.reader ≡ g.R.ByteSource.failures l.fn.reader)
    × (g.R.ByteSource.takes_left l.reader ≤ g.R.ByteSource.takes_left l.fn.reader)

abbrev pub decreases-blocks-2 : goal.decreases-blocks-2
decreases-blocks-2 g l = g.R.ByteSource.takes_left l.reader
