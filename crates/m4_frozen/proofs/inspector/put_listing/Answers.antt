use Rattle.m4_state.proofs.CallerLaws.{HasPut-start, HasPut-put, HasPut-cut, HasPut-last, Puts-refused}
use Rattle.m4_frozen.proofs.inspector.put_listing.Goals as goal

-- the first part failed
pub returns-in_err-put_settings-clause-puts : goal.returns-in_err-put_settings-clause-puts
returns-in_err-put_settings-clause-puts g c =
    Puts-refused c.from_residual.result _ _ _ c.from_residual.ensures.0
    (HasPut-cut _ _ _ (HasPut-start _ _) c.in_err-put_settings.ensures.puts.0 c.in_err-put_settings.ensures.puts.1)

-- the second part failed
pub returns-in_err-put_names-clause-puts : goal.returns-in_err-put_names-clause-puts
returns-in_err-put_names-clause-puts g c =
    Puts-refused c.from_residual-in_err-put_names.result _ _ _ c.from_residual-in_err-put_names.ensures.0
    (HasPut-cut _ _ _ (HasPut-put _ _ _ (HasPut-start _ _) c.in_ok-put_settings.ensures.puts)
    c.in_err-put_names.ensures.puts.0 c.in_err-put_names.ensures.puts.1)

-- the last part decides
pub returns-clause-puts : goal.returns-clause-puts
returns-clause-puts g c =
    HasPut-last _ _ _ _ (HasPut-put _ _ _ (HasPut-put _ _ _ (HasPut-start _ _) c.in_ok-put_settings.ensures.puts)
    c.in_ok-put_names.ensures.puts) c.put_diverted.ensures.puts
