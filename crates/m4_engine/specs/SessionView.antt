-- SessionView: the code's session as a run between two calls.
-- Not believed: it only maps the fields.
use Rattle.m4_engine.specs.declared.session.Session.TheInside.{Inside}
use Rattle.m4_engine.specs.Session.{SessionState}

abbrev pub session_view : Inside → SessionState
session_view s = record {
  limits = (s.machine).limits;
  state = (s.machine).state;
  saved = (s.machine).saved;
  calls = (s.machine).calls;
  any_missing = s.any_missing;
  over = s.over;
  finished = s.finished;
}
