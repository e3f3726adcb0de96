-- The bytes read so far follow those of the room, and no read failed.
use Rattle.std.proofs.Common.{◌≡◌, ◌≤◌, length, take}
use Rattle.m4_frozen.specs.Blocks.{HasTaken}
use Rattle.m4_frozen.proofs.room.fill_room.Given as goal

abbrev pub invariant-loop-room : goal.invariant-loop-room
invariant-loop-room g l = record {
  taken : HasTaken (take l.initial.used l.initial.room.items) (take l.end l.room.items) (g.R.ByteSource.script l.initial.reader) (g.R.ByteSource.script l.reader);
  within : l.end ≤ length l.room.items;
  counted : g.R.ByteSource.failures l.reader ≡ g.R.ByteSource.failures l.initial.reader;
  falls : g.R.ByteSource.takes_left l.reader ≤ g.R.ByteSource.takes_left l.initial.reader;
}

abbrev pub decreases-loop-room : goal.decreases-loop-room
decreases-loop-room g l = g.R.ByteSource.takes_left l.reader
