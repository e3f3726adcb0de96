use Rattle.std.proofs.Common.{rules}
use Rattle.m4_engine.proofs.session.Session.status.Goals as goal

pub returns : goal.returns
returns c = search rules
