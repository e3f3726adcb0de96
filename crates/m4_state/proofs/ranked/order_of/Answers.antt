-- Words that differ decide. If none do, the lengths do.
use Rattle.std.proofs.Common.{◌∙◌, ◌+◌, ◌-◌, ◌≤◌, ℕ, length, arith}
use Rattle.std.proofs.Math.Nat.{min-le_left, min-le_right}
use Rattle.m4_state.proofs.ByteWords.{words_decide, word_alike, fewer_alike, lengths_decide}
use Rattle.m4_state.proofs.ranked.order_of.Goals as goal

pub returns-then-x-y : goal.returns-then-x-y
returns-then-x-y c =
    let a = c.args.a.now in
    let b = c.args.b.now in
    c.cmp-then-x-y.ensures
    ∙ words_decide a b c.word_at-x.ensures.bytes c.word_at-y.ensures.bytes c.loop-at.at c.word_at-x.result c.word_at-y.result
    (omega (arith, min-le_left (length a) (length b), c.min-both.ensures, c.loop-at-test.true))
    (omega (arith, min-le_right (length a) (length b), c.min-both.ensures, c.loop-at-test.true))
    c.loop-at.invariant.before c.word_at-x.ensures.value c.word_at-y.ensures.value c.if-x-y.true

pub loop-at-preserved : goal.loop-at-preserved
loop-at-preserved c =
    let a = c.args.a.now in
    let b = c.args.b.now in
    let first : c.loop-at.at + 8 ≤ length a = omega (arith, min-le_left (length a) (length b), c.min-both.ensures, c.loop-at-test.true) in
    let second : c.loop-at.at + 8 ≤ length b = omega (arith, min-le_right (length a) (length b), c.min-both.ensures, c.loop-at-test.true) in
    record {
      before = word_alike c.loop-at.at c.word_at-x.result c.word_at-y.result a b c.word_at-x.ensures.bytes c.word_at-y.ensures.bytes first second
          c.loop-at.invariant.before c.word_at-x.ensures.value c.word_at-y.ensures.value c.if-x-y.false;
      first = first;
      second = second;
    }

pub returns-then-x-y-2 : goal.returns-then-x-y-2
returns-then-x-y-2 c =
    let a = c.args.a.now in
    let b = c.args.b.now in
    let last : ℕ = c.min-both.result - 8 in
    let long : 8 ≤ c.min-both.result = omega (arith, c.if-both-lt-WORD.false) in
    c.cmp-then-x-y-2.ensures
    ∙ words_decide a b c.word_at-x-2.ensures.bytes c.word_at-y-2.ensures.bytes last c.word_at-x-2.result c.word_at-y-2.result
    (omega (arith, min-le_left (length a) (length b), c.min-both.ensures, long))
    (omega (arith, min-le_right (length a) (length b), c.min-both.ensures, long))
    (fewer_alike last c.loop-at.at a b (omega (arith, c.loop-at-test.false)) c.loop-at.invariant.before)
    c.word_at-x-2.ensures.value c.word_at-y-2.ensures.value c.if-x-y-2.true

pub returns : goal.returns
returns c =
    let a = c.args.a.now in
    let b = c.args.b.now in
    let last : ℕ = c.min-both.result - 8 in
    let long : 8 ≤ c.min-both.result = omega (arith, c.if-both-lt-WORD.false) in
    c.cmp-2.ensures
    ∙ lengths_decide (last + 8) a b (omega (arith, c.min-both.ensures, long))
    (word_alike last c.word_at-x-2.result c.word_at-y-2.result a b c.word_at-x-2.ensures.bytes c.word_at-y-2.ensures.bytes
    (omega (arith, min-le_left (length a) (length b), c.min-both.ensures, long))
    (omega (arith, min-le_right (length a) (length b), c.min-both.ensures, long))
    (fewer_alike last c.loop-at.at a b (omega (arith, c.loop-at-test.false)) c.loop-at.invariant.before)
    c.word_at-x-2.ensures.value c.word_at-y-2.ensures.value c.if-x-y-2.false)
