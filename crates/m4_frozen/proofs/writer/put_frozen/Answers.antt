use Rattle.m4_state.proofs.CallerLaws.{HasPut-start, HasPut-put, HasPut-cut, HasPut-last, Puts-refused}
use Rattle.m4_frozen.proofs.writer.put_frozen.Goals as goal

-- the header failed
pub returns-in_err-write_all-clause-puts : goal.returns-in_err-write_all-clause-puts
returns-in_err-write_all-clause-puts g c =
    Puts-refused c.from_residual.result _ _ _ c.from_residual.ensures.0
    (HasPut-cut _ _ _ (HasPut-start _ _) c.in_err-write_all.ensures.puts.0 c.in_err-write_all.ensures.puts.1)

-- the directives failed
pub returns-in_err-put_directives-clause-puts : goal.returns-in_err-put_directives-clause-puts
returns-in_err-put_directives-clause-puts g c =
    Puts-refused c.from_residual-in_err-put_directives.result _ _ _ c.from_residual-in_err-put_directives.ensures.0
    (HasPut-cut _ _ _ (HasPut-put _ _ _ (HasPut-start _ _) c.in_ok-write_all.ensures.puts)
    c.in_err-put_directives.ensures.puts.0 c.in_err-put_directives.ensures.puts.1)

-- the end line decides
pub returns-clause-puts : goal.returns-clause-puts
returns-clause-puts g c =
    HasPut-last _ _ _ _ (HasPut-put _ _ _ (HasPut-put _ _ _ (HasPut-start _ _) c.in_ok-write_all.ensures.puts)
    c.in_ok-put_directives.ensures.puts) c.write_all-2.ensures.puts
