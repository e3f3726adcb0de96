use Rattle.m4_state.proofs.CallerLaws.{HasPut-start, HasPut-put, HasPut-cut, HasPut-last, Puts-refused}
use Rattle.m4_frozen.proofs.writer.put_settings.Goals as goal

-- the quotes failed
pub returns-in_err-put_delimiters-clause-puts : goal.returns-in_err-put_delimiters-clause-puts
returns-in_err-put_delimiters-clause-puts g c =
    let put = rw (c.quotes.ensures.begin, c.quotes.ensures.end) at c.in_err-put_delimiters.ensures.puts in
    Puts-refused c.from_residual.result _ _ _ c.from_residual.ensures.0
    (HasPut-cut _ _ _ (HasPut-start _ _) put.0 put.1)

-- the comments decide
pub returns-clause-puts : goal.returns-clause-puts
returns-clause-puts g c =
    let quotes = rw (c.quotes.ensures.begin, c.quotes.ensures.end) at c.in_ok-put_delimiters.ensures.puts in
    let comments = rw (c.comments.ensures.begin, c.comments.ensures.end) at c.put_delimiters-2.ensures.puts in
    HasPut-last _ _ _ _ (HasPut-put _ _ _ (HasPut-start _ _) quotes) comments
