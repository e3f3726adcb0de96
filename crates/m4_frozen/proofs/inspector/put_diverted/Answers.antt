use Rattle.m4_state.proofs.CallerLaws.{HasPut-start, HasPut-put, HasPut-cut, HasPut-last, Puts-refused}
use Rattle.m4_frozen.proofs.inspector.put_diverted.Goals as goal

-- the first part failed
pub returns-in_err-put_texts-clause-puts : goal.returns-in_err-put_texts-clause-puts
returns-in_err-put_texts-clause-puts g c =
    Puts-refused c.from_residual.result _ _ _ c.from_residual.ensures.0
    (HasPut-cut _ _ _ (HasPut-start _ _) c.in_err-put_texts.ensures.puts.0 c.in_err-put_texts.ensures.puts.1)

-- the second part failed
pub returns-in_err-put_current-clause-puts : goal.returns-in_err-put_current-clause-puts
returns-in_err-put_current-clause-puts g c =
    Puts-refused c.from_residual-in_err-put_current.result _ _ _ c.from_residual-in_err-put_current.ensures.0
    (HasPut-cut _ _ _ (HasPut-put _ _ _ (HasPut-start _ _) c.in_ok-put_texts.ensures.puts)
    c.in_err-put_current.ensures.puts.0 c.in_err-put_current.ensures.puts.1)

-- the last part decides
pub returns-clause-puts : goal.returns-clause-puts
returns-clause-puts g c =
    let issued = rw c.as_slice.ensures.value at c.put_issued.ensures.puts in
    HasPut-last _ _ _ _ (HasPut-put _ _ _ (HasPut-put _ _ _ (HasPut-start _ _) c.in_ok-put_texts.ensures.puts) c.in_ok-put_current.ensures.puts) issued
