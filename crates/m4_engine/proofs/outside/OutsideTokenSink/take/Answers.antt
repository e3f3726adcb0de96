use Rattle.std.proofs.Common.{◌≡◌, ◌<◌, ◌-◌, ℕ, length, take, drop, inl, inr, refl, ap, subst, arith, rules}
use Rattle.std.proofs.lemmas.List.{length-drop}
use Rattle.m4_engine.specs.Lookahead.{IsFirst}
use Rattle.m4_engine.specs.declared.lookahead.FirstToken.{FirstToken}
use Rattle.m4_engine.specs.declared.lookahead.FirstToken.TheVariants as firsts
use Rattle.m4_engine.proofs.PlainRuns.{plain_on, plain_text, plain_byte, text_some, byte_part}
use Rattle.m4_engine.proofs.outside.OutsideTokenSink.take.Goals as goal

pub returns-in-Text-eq0-default-default-clause-takes :
    goal.returns-in-Text-eq0-default-default-clause-takes
returns-in-Text-eq0-default-default-clause-takes c = λ s next m first q d ahead before.
    let x = c.args._text.now in
    let at = c.args.at in
    let y = drop at x in
    let len = c.in-Text-eq0-default-default.len in
    let all = c.in-Text-eq0-default-default.all in
    let is : c.args.token ≡ firsts.Text 0 len all = search rules in
    let h : IsFirst (firsts.Text 0 len all) next s m y = subst (λ (a : FirstToken). IsFirst a next s m y) is ahead in
    plain_on s m at all x y before refl (plain_text s m all y (take len (drop 0 y)) h.0 (ap (λ (j : ℕ). take j y) c.if-len-all.true))

pub returns-in-Text-eq0-default-default-clause-within :
    goal.returns-in-Text-eq0-default-default-clause-within
returns-in-Text-eq0-default-default-clause-within c =
    let y = drop c.args.at c.args._text.now in
    let len = c.in-Text-eq0-default-default.len in
    let all = c.in-Text-eq0-default-default.all in
    let r = c.requires.token in
    let is : c.args.token ≡ firsts.Text 0 len all = search rules in
    let h : IsFirst (firsts.Text 0 len all) r.1 r.0 r.2 y = subst (λ (a : FirstToken). IsFirst a r.1 r.0 r.2 y) is r.3 in
    let some : 0 < all = text_some r.0 r.2 all (take len (drop 0 y)) y h.0 in
    let rest : length y ≡ length c.args._text.now - c.args.at = length-drop c.args.at c.args._text.now in
    (omega (arith, some), omega (arith, h.2, rest, c.requires.at))

pub returns-in-Byte-clause-takes : goal.returns-in-Byte-clause-takes
returns-in-Byte-clause-takes c = λ s next m first q d ahead before.
    let x = c.args._text.now in
    let y = drop c.args.at x in
    let h = subst (λ (a : FirstToken). IsFirst a next s m y) c.in-Byte.is ahead in
    plain_on s m c.args.at 1 x y before refl (plain_byte s m c.in-Byte.field-0 y h.0)

-- a token that the pass puts
pub returns-in-Text-clause-left : goal.returns-in-Text-clause-left
returns-in-Text-clause-left c = λ s next m ahead.
    let y = drop c.args.at c.args._text.now in
    let h = subst (λ (a : FirstToken). IsFirst a next s m y) c.in-Text.is ahead in
    (inl h.0, h.1, h.2)

pub returns-in-Byte-2-clause-left : goal.returns-in-Byte-2-clause-left
returns-in-Byte-2-clause-left c = λ s next m ahead.
    let y = drop c.args.at c.args._text.now in
    let h = subst (λ (a : FirstToken). IsFirst a next s m y) c.in-Byte-2.is ahead in
    (inr (c.in-Byte-2.field-0, h.0, byte_part s m c.in-Byte-2.field-0 y h.0), omega (arith, h.1), omega (arith, h.1))

pub returns-in-Other-clause-left : goal.returns-in-Other-clause-left
returns-in-Other-clause-left c = λ s next m ahead.
    subst (λ (a : FirstToken). IsFirst a next s m (drop c.args.at c.args._text.now)) c.in-Other.is ahead
