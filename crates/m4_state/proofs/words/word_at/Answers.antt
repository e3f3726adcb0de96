use Rattle.std.proofs.Common.{◌≡◌, ◌∙◌, ap, take, drop, length, arith}
use Rattle.std.proofs.lemmas.List.{take_all}
use Rattle.m4_state.specs.ByteWords.{word}
use Rattle.m4_state.proofs.ByteWords.{eight_bytes}
use Rattle.m4_state.proofs.words.word_at.Goals as goal

pub returns-clause-value : goal.returns-clause-value
returns-clause-value c =
    let piece = c.split_at-2.result.0.now in
    let is : piece ≡ take 8 (drop c.args.i c.args.bytes.now) = c.split_at-2.ensures.front ∙ ap (take 8) c.split_at.ensures.back in
    let long : length piece ≡ 8 = c.split_at-2.ensures.front_len in
    c.from_be_bytes.ensures ∙ eight_bytes piece 0 (omega (arith, long)) ∙ ap (word 0) (take_all 8 piece (omega (arith, long)) ∙ is)
