use Rattle.std.proofs.Common.{length, ◌≤◌}
use Rattle.m4_input.specs.Pending.{text_of}
use Rattle.m4_engine.specs.Engine.{IsReady}
use Rattle.m4_engine.specs.Passes.{Passes}
use Rattle.m4_engine.proofs.Measures.{measure}
use Rattle.m4_engine.proofs.machine.Machine.pass_plain.Given as goal

-- what was passed so far
abbrev pub invariant-fronts : goal.invariant-fronts
invariant-fronts l = record {
  passes : Passes l.fn.self l.self l.fn.input l.input;
  ready : IsReady l.input;
  looked : l.looked ≤ length (text_of (l.input).pending);
}

-- each pass leaves fewer bytes, or looks at more of them
abbrev pub decreases-fronts : goal.decreases-fronts
decreases-fronts l = measure (length (text_of (l.input).pending)) l.looked
