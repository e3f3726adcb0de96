use Rattle.std.proofs.Common.{◌≡◌, ◌<◌, ◌≤◌, ◌-◌, ◌∷◌, rules, arith, inl, take, drop, length, subst, refl}
use Rattle.std.proofs.lemmas.List.{length-drop}
use Rattle.m4_state.specs.declared.delimiters.Delimiters.{Delimiters}
use Rattle.m4_engine.specs.Collected.{HaveRole}
use Rattle.m4_engine.specs.Lookahead.{IsFirst}
use Rattle.m4_engine.specs.declared.lookahead.FirstToken.{FirstToken}
use Rattle.m4_engine.specs.declared.role.Role.TheVariants.{Other}
use Rattle.m4_engine.proofs.ListRuns.{begun, list_one, list_on, byte_and_texts, byte_taken}
use Rattle.m4_engine.proofs.FrontRuns.{ahead_next}
use Rattle.m4_engine.proofs.PlainRuns.{text_some}
use Rattle.m4_engine.proofs.collect.OpenCallTokenSink.take.Goals as goal

pub returns-in-Text-clause-takes : goal.returns-in-Text-clause-takes
returns-in-Text-clause-takes c = λ s next m first q d ahead before.
    let x = c.args.text.now in
    let y = drop c.args.at x in
    let t = c.in-Text in
    let h = subst (λ (a : FirstToken). IsFirst a next s m y) t.is ahead in
    list_on s m c.args.at t.all first c.args.self.now c.put_front.new.self x y before refl
    (list_one s m t.all c.args.self.now c.put_front.new.self y (inl (take t.len (drop t.begin y), h.0, search rules)))

pub returns-in-Text-clause-within : goal.returns-in-Text-clause-within
returns-in-Text-clause-within c =
    let y = drop c.args.at c.args.text.now in
    let t = c.in-Text in
    let r = c.requires.token in
    let h = subst (λ (a : FirstToken). IsFirst a r.1 r.0 r.2 y) t.is r.3 in
    let some : 0 < t.all = text_some r.0 r.2 t.all (take t.len (drop t.begin y)) y h.0 in
    let fits : t.all ≤ length y = h.2 in
    let rest : length y ≡ length c.args.text.now - c.args.at = length-drop c.args.at c.args.text.now in
    let before : c.args.at ≤ length c.args.text.now = c.requires.at in
    (omega (arith, some), omega (arith, fits, rest, before))

pub returns-then-role-eq4-clause-takes : goal.returns-then-role-eq4-clause-takes
returns-then-role-eq4-clause-takes c = λ s next m first q d ahead before.
    let x = c.args.text.now in
    let y = drop c.args.at x in
    let n = c.text_len-len.result in
    let z = c.split_at-then-role-eq4.result.1.now in
    let call = c.args.self.now in
    let new = c.put_front-then-role-eq4.new.self in
    let h = subst (λ (a : FirstToken). IsFirst a next s m y) c.in-Byte.is ahead in
    list_on s m c.args.at _ first call new x y before refl
    (byte_and_texts s m c.in-Byte.byte n call new y z h.0 (search rules) (search rules) c.text_len-len.ensures.within
    (subst (λ (a : Delimiters). HaveRole Other (begun call) s.quotes a (take n z)) d
    (subst (λ (a : Delimiters). HaveRole Other (begun call) a c.args.delims.now.comments.now (take n z)) q
    (c.text_len-len.ensures.bytes (begun call) refl)))
    (search rules))

pub returns-in-None-clause-takes : goal.returns-in-None-clause-takes
returns-in-None-clause-takes c = λ s next m first q d ahead before.
    let x = c.args.text.now in
    let y = drop c.args.at x in
    let call = c.args.self.now in
    let new = c.take_byte.new.self in
    let h = subst (λ (a : FirstToken). IsFirst a next s m y) c.in-Byte.is ahead in
    list_on s m c.args.at 1 first call new x y before refl (byte_taken s m c.in-Byte.byte call new y h.0 (search rules))

-- a byte that ends an argument, or the list
pub returns-in-Some-Argument-clause-left : goal.returns-in-Some-Argument-clause-left
returns-in-Some-Argument-clause-left c = λ s next m ahead cs.
    let h = subst (λ (a : FirstToken). IsFirst a next s m (drop c.args.at c.args.text.now)) c.in-Byte.is ahead in
    (refl, record { byte = c.in-Byte.byte; scanned = h.0; ends = search rules })

pub returns-in-Some-List-clause-left : goal.returns-in-Some-List-clause-left
returns-in-Some-List-clause-left c = λ s next m ahead cs.
    let h = subst (λ (a : FirstToken). IsFirst a next s m (drop c.args.at c.args.text.now)) c.in-Byte.is ahead in
    (refl, record { byte = c.in-Byte.byte; scanned = h.0; ends = search rules })

-- any other token
pub returns-in-Other-clause-left : goal.returns-in-Other-clause-left
returns-in-Other-clause-left c = λ s next m ahead cs.
    ahead_next c.in-Other.token c.in-Other.len (c.args.self.now ∷ cs) next s m (drop c.args.at c.args.text.now)
    (subst (λ (a : FirstToken). IsFirst a next s m (drop c.args.at c.args.text.now)) c.in-Other.is ahead)
