-- The record that the fields of the code's state mean.
-- Not believed: it only collects the fields' values in one record.
use Rattle.m4_state.specs.State.{State}
use Rattle.m4_state.specs.declared.state.State.TheInside.{Inside}

-- the record of a state
abbrev pub view_of : Inside → State
view_of s = record {
  table = s.table;
  quotes = s.quotes;
  comments = s.comments;
  diversions = s.diversions;
  current = s.current;
}
