use Rattle.m4_state.proofs.CallerLaws.{HasPut-start, HasPut-put, HasPut-cut, HasPut-last, Puts-refused}
use Rattle.m4_frozen.specs.WriterSteps.{directives_text}
use Rattle.m4_frozen.proofs.writer.put_directives.Goals as goal

-- the delimiters failed
pub returns-in_err-put_settings-clause-puts : goal.returns-in_err-put_settings-clause-puts
unfolding directives_text
returns-in_err-put_settings-clause-puts g c =
    Puts-refused c.from_residual.result _ _ _ c.from_residual.ensures.0
    (HasPut-cut _ _ _ (HasPut-start _ _) c.in_err-put_settings.ensures.puts.0 c.in_err-put_settings.ensures.puts.1)

-- the definitions failed
pub returns-in_err-put_names-clause-puts : goal.returns-in_err-put_names-clause-puts
unfolding directives_text
returns-in_err-put_names-clause-puts g c =
    Puts-refused c.from_residual-in_err-put_names.result _ _ _ c.from_residual-in_err-put_names.ensures.0
    (HasPut-cut _ _ _ (HasPut-put _ _ _ (HasPut-start _ _) c.in_ok-put_settings.ensures.puts)
    c.in_err-put_names.ensures.puts.0 c.in_err-put_names.ensures.puts.1)

-- the diversions decide
pub returns-clause-puts : goal.returns-clause-puts
unfolding directives_text
returns-clause-puts g c =
    HasPut-last _ _ _ _ (HasPut-put _ _ _ (HasPut-put _ _ _ (HasPut-start _ _) c.in_ok-put_settings.ensures.puts)
    c.in_ok-put_names.ensures.puts) c.put_diversions.ensures.puts
