use Rattle.std.proofs.Common.{pos}
use Rattle.std.specs.Prelude.{FitsSigned}
use Rattle.std.specs.Int.{w32}
use Rattle.std.proofs.Math.Facts.{sfits_lit}
use Rattle.std.proofs.lemmas.Int.{to_z-of_z}
use Rattle.m4_state.proofs.CallerLaws.{HasPut-start, HasPut-put, HasPut-cut, HasPut-last, Puts-refused}
use Rattle.m4_frozen.proofs.FreezeParts.{last_fits}
use Rattle.m4_frozen.proofs.writer.put_diversions.Goals as goal

-- a text failed
pub returns-in_err-last-clause-puts : goal.returns-in_err-last-clause-puts
returns-in_err-last-clause-puts g c =
    Puts-refused c.from_residual.result _ _ _ c.from_residual.ensures.0
    (HasPut-cut _ _ _ (HasPut-start _ _) c.in_err-last.ensures.puts.0 c.in_err-last.ensures.puts.1)

-- the current number decides
pub returns-clause-puts : goal.returns-clause-puts
returns-clause-puts g c =
    let current_fits : FitsSigned w32 c.current.result = rw c.current.ensures.current c.current.ensures.valid.current in
    let last_is_fit : FitsSigned w32 c.in_ok-last.last =
    rw c.in_ok-last.ensures.last (last_fits (pos 0) c.args.state.now.diversions (sfits_lit tt)
    c.current.ensures.valid.diversions.each) in
    let current = rw (
      to_z-of_z w32 c.current.result current_fits,
      to_z-of_z w32 c.in_ok-last.last last_is_fit,
      c.current.ensures.current,
      c.in_ok-last.ensures.last,
    ) at c.put_current.ensures.puts in
    HasPut-last _ _ _ _ (HasPut-put _ _ _ (HasPut-start _ _) c.in_ok-last.ensures.puts) current
