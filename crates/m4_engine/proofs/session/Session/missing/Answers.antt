use Rattle.std.proofs.Common.{rules}
use Rattle.m4_engine.proofs.session.Session.missing.Goals as goal

pub returns-clause-any_missing : goal.returns-clause-any_missing
returns-clause-any_missing g c = search rules
