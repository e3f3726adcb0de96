use Rattle.std.proofs.Common.{arith}
use Rattle.m4_state.proofs.Equal.{by_numbers, word_more, last_word, words_alike}
use Rattle.m4_state.proofs.words.are_equal.Goals as goal

-- one more word is alike
pub loop-k-preserved : goal.loop-k-preserved
loop-k-preserved c = record {
  within = omega arith;
  alike = word_more c.args.a.now c.args.b.now c.word_at.ensures.bytes c.word_at-in-loop-k.ensures.bytes c.loop-k.k _ _
      (omega arith) (omega arith) c.loop-k.invariant.alike c.word_at.ensures.value c.word_at-in-loop-k.ensures.value c.if-word_at.false;
}

-- the last word decides
pub returns : goal.returns
returns c =
    let a = c.args.a.now in
    let b = c.args.b.now in
    by_numbers a b c.word_at-2.result c.word_at-3.result
    (last_word a b c.word_at-2.ensures.bytes c.word_at-3.ensures.bytes _ c.loop-k.k _ _ (omega arith) (omega arith) (omega arith)
    c.loop-k.invariant.alike c.word_at-2.ensures.value c.word_at-3.ensures.value)
    (words_alike a b _ _ _ c.word_at-2.ensures.value c.word_at-3.ensures.value)
