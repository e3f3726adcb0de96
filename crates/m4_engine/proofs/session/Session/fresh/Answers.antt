use Rattle.std.proofs.Common.{rules}
use Rattle.m4_engine.proofs.session.Session.fresh.Goals as goal

pub returns-clause-fresh : goal.returns-clause-fresh
returns-clause-fresh c = search rules
