use Rattle.std.proofs.Common.{rules, refl}
use Rattle.m4_engine.proofs.Starts.{reloaded_is}
use Rattle.m4_engine.proofs.session.Session.reload.Goals as goal

-- the facts are named, so that a body that misses one is refused at once
pub returns-in-Err-write_all-clause-gives : goal.returns-in-Err-write_all-clause-gives
returns-in-Err-write_all-clause-gives g c =
    (c.in-Ok.loaded.state, c.in-Ok.loaded.issued, reloaded_is c.args.options _ c.in-Ok.loaded c.in-Ok.ensures.loaded, search rules)

pub returns-clause-gives : goal.returns-clause-gives
returns-clause-gives g c = (
  c.in-Ok.loaded.state,
  c.in-Ok.loaded.issued,
  reloaded_is c.args.options _ c.in-Ok.loaded c.in-Ok.ensures.loaded,
  search rules,
  search rules,
)

pub returns-in-Err-clause-gives : goal.returns-in-Err-clause-gives
returns-in-Err-clause-gives g c = (refl, search rules)

pub returns-in-Err-clause-write : goal.returns-in-Err-clause-write
returns-in-Err-clause-write g c = refl

pub returns-clause-read : goal.returns-clause-read
returns-clause-read g c = c.in-Ok.ensures.unfailed

pub returns-in-Err-write_all-clause-read : goal.returns-in-Err-write_all-clause-read
returns-in-Err-write_all-clause-read g c = c.in-Ok.ensures.unfailed
