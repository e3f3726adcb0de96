use Rattle.std.proofs.Common.{◌≡◌, List, ℕ, subst, drop, rules, arith}
use Rattle.m4_state.specs.ByteWords.{IsRank}
use Rattle.m4_state.proofs.ByteWords.{rank_of_long}
use Rattle.m4_state.proofs.ranked.rank_of.Goals as goal

-- a long name fills the number
pub returns-else-rest-lt-WORD : goal.returns-else-rest-lt-WORD
returns-else-rest-lt-WORD c =
    let rest = c.split_at.result.1.now in
    let is : rest ≡ drop c.args.from c.args.name.now = search rules in
    subst (λ (l : List ℕ). IsRank l c.word_at-else-rest-lt-WORD.result) is
    (rank_of_long rest _ (omega (arith, c.if-rest-lt-WORD.false)) c.word_at-else-rest-lt-WORD.ensures.bytes c.word_at-else-rest-lt-WORD.ensures.value)
