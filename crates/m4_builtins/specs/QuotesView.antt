-- Two borrowed quotes as the pair of a state.
-- Not believed: it only says which borrow is the begin and which the end.
use Rattle.std.specs.Prelude.{ℕ, List}
use Rattle.std.specs.Borrow.{Bor}
use Rattle.m4_state.specs.declared.delimiters.Delimiters.{Delimiters}

-- the borrowed quotes
abbrev pub pair_of : Bor (List ℕ) × Bor (List ℕ) → Delimiters
pair_of q = record { begin = (q.0).now; end = (q.1).now }
