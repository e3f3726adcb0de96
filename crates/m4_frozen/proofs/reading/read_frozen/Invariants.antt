-- What came was read, but for the window, and the reader has not failed.
use Rattle.std.proofs.Common.{◌≡◌}
use Rattle.m4_frozen.specs.Blocks.{IsUnderway}
use Rattle.m4_frozen.proofs.reading.read_frozen.Given as goal

abbrev pub invariant-loop-loading : goal.invariant-loop-loading
invariant-loop-loading g l =
    IsUnderway (g.R.ByteSource.script l.initial.reader) (g.R.ByteSource.script l.reader) l.window l.loading
    × (g.R.ByteSource.failures l.reader ≡ g.R.ByteSource.failures l.initial.reader)

abbrev pub decreases-loop-loading : goal.decreases-loop-loading
decreases-loop-loading g l = g.R.ByteSource.takes_left l.reader
