-- The bytes before the end stay, and the room grows.
use Rattle.std.proofs.Common.{◌≡◌, ◌+◌, ◌≤◌, length, take}
use Rattle.m4_frozen.proofs.room.make_room.Given as goal

abbrev pub invariant-loop : goal.invariant-loop
invariant-loop l = record {
  front : take l.end l.room.items ≡ take l.end l.initial.room.items;
  grown : length l.initial.room.items + l.counter ≤ length l.room.items;
}
