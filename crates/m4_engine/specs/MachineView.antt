-- MachineView: the code's machine as the engine of the contracts.
-- Not believed: it only maps the fields.
-- Words: open_of, engine_view.
use Rattle.std.specs.Prelude.{ℕ, List, reverse, take}
use Rattle.m4_engine.specs.declared.machine.Machine.TheInside.{Inside}
use Rattle.m4_engine.specs.Expansion.{Call}
use Rattle.m4_engine.specs.Engine.{Engine}

-- the open calls are the first n of a stack, the innermost last
abbrev pub open_of : ℕ → List Call → List Call
open_of n cs = reverse (take n cs)

abbrev pub engine_view : Inside → Engine
engine_view m = record {
  limits = record { calls = m.most_calls; nesting = m.most_nested };
  state = m.state;
  saved = m.saved.items;
  calls = m.calls;
  open_calls = open_of m.depth m.stack.items;
  output = m.output.items;
  messages = m.messages.items;
}
