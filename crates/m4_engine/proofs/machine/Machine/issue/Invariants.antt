use Rattle.std.proofs.Common.{◌≡◌, ◌≤◌, length}
use Rattle.m4_engine.specs.MachineView.{engine_view}
use Rattle.m4_engine.proofs.Issues.{Issuing}
use Rattle.m4_engine.proofs.machine.Machine.issue.Given as goal

-- so much was issued, and the rest is left; the writer has not failed
abbrev pub invariant-loop-text : goal.invariant-loop-text
invariant-loop-text g l = record {
  issuing : Issuing l.fn.self.state l.self-inside.state (g.O.ByteSink.contents l.fn.out) (g.O.ByteSink.contents l.out);
  rest : engine_view l.self-inside ≡ record l.fn.self { state = l.self-inside.state };
  nested : l.self-inside.depth ≤ length l.self-inside.stack.items;
  sound : g.O.ByteSink.failures l.out ≡ g.O.ByteSink.failures l.fn.out;
}

abbrev pub decreases-loop-text : goal.decreases-loop-text
decreases-loop-text g l = length l.self-inside.state.diversions
