use Rattle.m4_state.proofs.CallerLaws.{HasPut-start, HasPut-put, HasPut-cut, HasPut-last, Puts-refused}
use Rattle.m4_frozen.proofs.inspector.put_two_words.Goals as goal

-- the first part failed
pub returns-in_err-put_word-clause-puts : goal.returns-in_err-put_word-clause-puts
returns-in_err-put_word-clause-puts g c =
    Puts-refused c.from_residual.result _ _ _ c.from_residual.ensures.0
    (HasPut-cut _ _ _ (HasPut-start _ _) c.in_err-put_word.ensures.puts.0 c.in_err-put_word.ensures.puts.1)

-- the second part failed
pub returns-in_err-put_word-2-clause-puts : goal.returns-in_err-put_word-2-clause-puts
returns-in_err-put_word-2-clause-puts g c =
    Puts-refused c.from_residual-in_err-put_word-2.result _ _ _ c.from_residual-in_err-put_word-2.ensures.0
    (HasPut-cut _ _ _ (HasPut-put _ _ _ (HasPut-start _ _) c.in_ok-put_word.ensures.puts) c.in_err-put_word-2.ensures.puts.0 c.in_err-put_word-2.ensures.puts.1)

-- the last part decides
pub returns-clause-puts : goal.returns-clause-puts
returns-clause-puts g c =
    HasPut-last _ _ _ _ (HasPut-put _ _ _ (HasPut-put _ _ _ (HasPut-start _ _) c.in_ok-put_word.ensures.puts)
    c.in_ok-put_word-2.ensures.puts) c.write_all.ensures.puts
