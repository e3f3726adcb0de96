use Rattle.std.proofs.Common.{◌≡◌}
use Rattle.m4_engine.specs.Session.{IsOpen}
use Rattle.m4_engine.specs.Writers.{both, NoneFailed}
use Rattle.m4_engine.proofs.Wrapping.{Rounding, rounds_left}
use Rattle.m4_engine.proofs.session.Session.read_saved.Given as goal

-- so many rounds were read, and the run goes on; no writer failed
abbrev pub invariant-rounds : goal.invariant-rounds
invariant-rounds g l = record {
  live : IsOpen l.self;
  runs : Rounding l.fn.self l.self (both g.O.ByteSink.contents g.M.ByteSink.contents l.fn.out l.out l.fn.messages l.messages);
  sound : NoneFailed (both g.O.ByteSink.failures g.M.ByteSink.failures l.fn.out l.out l.fn.messages l.messages);
  any_missing : l.self.any_missing ≡ l.fn.self.any_missing;
}

abbrev pub decreases-rounds : goal.decreases-rounds
decreases-rounds g l = rounds_left l.self
