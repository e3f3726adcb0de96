use Rattle.std.proofs.Common.{◌≡◌, ◌<◌, ℕ, length, get_or, None, Some}
use Rattle.m4_builtins.proofs.translit.no_changes.Given as goal

-- the bytes so far stay as they are
abbrev pub invariant-loop-byte : goal.invariant-loop-byte
invariant-loop-byte l = ((b : ℕ) → b < l.byte → get_or l.changes b None ≡ Some b) × (length l.changes ≡ 256)
