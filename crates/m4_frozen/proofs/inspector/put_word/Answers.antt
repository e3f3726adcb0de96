use Rattle.std.proofs.Common.{◌++◌, List, ℕ, sym, subst}
use Rattle.m4_state.proofs.CallerLaws.{HasPut-start, HasPut-put, HasPut-cut, HasPut-last, Puts-refused}
use Rattle.m4_state.specs.Device.{Puts}
use Rattle.m4_frozen.proofs.ListingParts.{show-some, show-none}
use Rattle.m4_frozen.proofs.inspector.put_word.Goals as goal

-- the word failed
pub returns-in_err-write_all-clause-puts : goal.returns-in_err-write_all-clause-puts
returns-in_err-write_all-clause-puts g c =
    Puts-refused c.from_residual.result _ _ _ c.from_residual.ensures.0
    (HasPut-cut _ _ _ (HasPut-start _ _) c.in_err-write_all.ensures.puts.0 c.in_err-write_all.ensures.puts.1)

-- the sign of the empty string decides
pub returns-then-is_empty-clause-puts : goal.returns-then-is_empty-clause-puts
returns-then-is_empty-clause-puts g c =
    let shown = show-none c.args.bytes.now c.is_empty.result c.is_empty.ensures c.if-is_empty.true in
    subst (λ (t : List ℕ). Puts c.write_all-then-is_empty.result (g.W.ByteSink.contents c.args.writer.now)
    (g.W.ByteSink.contents c.write_all-then-is_empty.new.writer) (c.args.word.now ++ t)) (sym shown)
    (HasPut-last _ _ _ _ (HasPut-put _ _ _ (HasPut-start _ _) c.in_ok-write_all.ensures.puts) c.write_all-then-is_empty.ensures.puts)

-- the bytes decide
pub returns-clause-puts : goal.returns-clause-puts
returns-clause-puts g c =
    let shown = show-some c.args.bytes.now c.is_empty.result c.is_empty.ensures c.if-is_empty.false in
    subst (λ (t : List ℕ). Puts c.put_shown.result (g.W.ByteSink.contents c.args.writer.now)
    (g.W.ByteSink.contents c.put_shown.new.writer) (c.args.word.now ++ t)) (sym shown)
    (HasPut-last _ _ _ _ (HasPut-put _ _ _ (HasPut-start _ _) c.in_ok-write_all.ensures.puts) c.put_shown.ensures.puts)
