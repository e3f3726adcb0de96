use Rattle.std.proofs.Common.{rules, ◌≡◌, ℕ, [], Option, Some, None, sym, ap, ◌∙◌, subst, refl}
use Rattle.std.specs.Prelude.{Ok, Err, IfSome}
use Rattle.m4_input.specs.declared.fault.InputFault.{InputFault}
use Rattle.std.proofs.Common.{◌++◌}
use Rattle.m4_state.specs.declared.definition.Def.{Def}
use Rattle.m4_input.specs.declared.front.Answer.TheVariants.{Yes, No, Unknown}
use Rattle.m4_input.specs.Pending.{Pending, text_of}
use Rattle.m4_input.specs.Paren.{paren_in, paren_at}
use Rattle.m4_input.proofs.Cases.{paren_from}
use Rattle.m4_input.specs.Input.{Held, IsLasting, Stopped, StopAsks, ParenGives, wants_list, failures_after}
use Rattle.std.proofs.Common.{◌+◌, ◌<◌, ◌≤◌, length, arith}
use Rattle.m4_input.proofs.Blocks.{HasAsked, blocks_left, none_asked, asked_more, asked_stops, stopped_before, block_length, blocks_fall, came_is}
use Rattle.m4_input.proofs.Fronts.{list_seen, front_within}
use Rattle.m4_input.proofs.Decided.{paren_open}
use Rattle.m4_input.proofs.input.Input.sees_paren.Goals as goal

pub returns-in-Some-clause-gives : goal.returns-in-Some-clause-gives
returns-in-Some-clause-gives g c =
    let e : (c.args.self.now).fault ≡ Some c.in-Some.fault = ap (λ (h : Held). h.fault) (sym c.self.view_is) ∙ c.in-Some.is in
    let l : IsLasting c.in-Some.fault = subst (λ (o : Option InputFault). IfSome o IsLasting) c.in-Some.is c.self.invariant in
    let k = stopped_before (wants_list c.args.delims.now.quotes.now c.args.delims.now.comments.now)
    (g.R.ByteSource.script c.args.reader.now) c.args.self.now c.in-Some.fault e l in
    ([], (c.args.self.now).pending, k.0, k.1, refl)

pub looks-preserved : goal.looks-preserved
looks-preserved g c =
    let i = c.looks.invariant in
    let q = c.args.delims.now.quotes.now in
    let r = c.args.delims.now.comments.now in
    let h : Held = c.looks.self in
    let new : Held = c.more.new.self in
    let s = g.R.ByteSource.script c.args.reader.now in
    let a = g.R.ByteSource.script c.looks.reader in
    let b = g.R.ByteSource.script c.more.new.reader in
    let n : ℕ = g.R.ByteSource.failures c.looks.reader in
    let came = c.in_ok-_came-in-Unknown-2._came in
    let seen : paren_in q r (h.pending).may_follow (text_of h.pending) ≡ Unknown =
    list_seen q r c.self-in-looks.inside h c.in-Ok.others c.in-Ok.text.now Unknown c.self-in-looks.view_is
    c.in-Ok.ensures.begins c.in-Ok.ensures.all c.in-Unknown.ensures (λ o e. absurd cc) in
    let w : wants_list q r h.pending = ap (λ (o : Option Def). paren_from o q r h.pending) i.1 ∙ seen in
    let m = asked_more (wants_list q r) s a b c.args.self.now h new i.0.0 h.pending came i.0.1
    (paren_open q r (h.pending).may_follow (text_of h.pending) seen) w c.in_ok-_came-in-Unknown-2.ensures.gives in
    let longer : length (text_of new.pending)
    ≡ length (text_of h.pending) + length c.in_ok-_came-in-Unknown-2.ensures.gives.0 =
    block_length a b h new came c.in_ok-_came-in-Unknown-2.ensures.gives in
    let within : length c.in-Ok.text.now ≤ length (text_of h.pending) =
    front_within c.self-in-looks.inside h c.in-Ok.text.now c.self-in-looks.view_is c.in-Ok.ensures.begins in (
      (i.0.0 ++ m.0, subst (HasAsked (wants_list q r) s b c.args.self.now new (i.0.0 ++ m.0)) (sym m.2) m.1),
      ap (λ (p : Pending). p.definition) m.2 ∙ i.1,
      c.in_ok-_came-in-Unknown-2.ensures.counted
          ∙ ap (λ (o : Option InputFault). failures_after o new.fault n) i.0.1.sound
          ∙ ap (λ (o : Option InputFault). failures_after None o n) m.1.sound
          ∙ i.2,
      omega (arith, longer, within),
    )

pub looks-preserved-then-others : goal.looks-preserved-then-others
looks-preserved-then-others g c =
    let i = c.looks.invariant in
    (i.0, i.1, i.2, front_within c.self-in-looks.inside c.looks.self c.in-Ok.text.now c.self-in-looks.view_is c.in-Ok.ensures.begins)

pub looks-smaller : goal.looks-smaller
looks-smaller g c =
    let q = c.args.delims.now.quotes.now in
    let r = c.args.delims.now.comments.now in
    let h : Held = c.looks.self in
    let i = c.looks.invariant in
    let new : Held = c.more.new.self in
    let a = g.R.ByteSource.script c.looks.reader in
    let b = g.R.ByteSource.script c.more.new.reader in
    let came = c.in_ok-_came-in-Unknown-2._came in
    let gives = c.in_ok-_came-in-Unknown-2.ensures.gives in
    let seen : paren_in q r (h.pending).may_follow (text_of h.pending) ≡ Unknown =
    list_seen q r c.self-in-looks.inside h c.in-Ok.others c.in-Ok.text.now Unknown c.self-in-looks.view_is
    c.in-Ok.ensures.begins c.in-Ok.ensures.all c.in-Unknown.ensures (λ o e. absurd cc) in
    let may = paren_open q r (h.pending).may_follow (text_of h.pending) seen in
    let fewer : blocks_left (new.pending).may_follow (g.R.ByteSource.takes_left c.more.new.reader)
    < blocks_left (h.pending).may_follow (g.R.ByteSource.takes_left c.looks.reader) =
    blocks_fall (h.pending).may_follow (new.pending).may_follow (g.R.ByteSource.takes_left c.looks.reader)
    (g.R.ByteSource.takes_left c.more.new.reader) may
    (λ e. c.in_ok-_came-in-Unknown-2.ensures.falls (ap Ok (sym (came_is a b h new came gives) ∙ e))) in
    let longer : length (text_of new.pending) ≡ length (text_of h.pending) + length gives.0 = block_length a b h new came gives in
    let most : length gives.0 ≤ 4096 = gives.2 in
    let all : length c.in-Ok.text.now ≡ length (text_of h.pending) = ap length (c.in-Ok.ensures.all c.if-others.false)
    ∙ ap (λ (k : Held). length (text_of k.pending)) c.self-in-looks.view_is in
    omega (arith, fewer, longer, most, all)

pub looks-smaller-then-others : goal.looks-smaller-then-others
looks-smaller-then-others g c =
    let q = c.args.delims.now.quotes.now in
    let r = c.args.delims.now.comments.now in
    let h : Held = c.looks.self in
    let i = c.looks.invariant in
    let within : length c.in-Ok.text.now ≤ length (text_of h.pending) =
    front_within c.self-in-looks.inside h c.in-Ok.text.now c.self-in-looks.view_is c.in-Ok.ensures.begins in
    let more : c.looks.looked < length c.in-Ok.text.now = c.in-Ok.ensures.longer c.if-others.true in
    omega (arith, within, more)

pub returns-in-Yes-clause-gives : goal.returns-in-Yes-clause-gives
returns-in-Yes-clause-gives g c =
    let q = c.args.delims.now.quotes.now in
    let r = c.args.delims.now.comments.now in
    let h : Held = c.looks.self in
    let i = c.looks.invariant in
    let seen : paren_in q r (h.pending).may_follow (text_of h.pending) ≡ Yes =
    list_seen q r c.self-in-looks.inside h c.in-Ok.others c.in-Ok.text.now Yes c.self-in-looks.view_is
    c.in-Ok.ensures.begins c.in-Ok.ensures.all c.in-Yes.ensures (λ o e. absurd cc) in
    let k = i.0.1 in (
      i.0.0,
      h.pending,
      k.reads,
      (ap (λ (o : Option Def). paren_from o q r h.pending) i.1 ∙ seen, refl),
      k.first,
      k.sound,
      k.asks,
    )

pub returns-in-No-clause-gives : goal.returns-in-No-clause-gives
returns-in-No-clause-gives g c =
    let q = c.args.delims.now.quotes.now in
    let r = c.args.delims.now.comments.now in
    let h : Held = c.looks.self in
    let i = c.looks.invariant in
    let seen : paren_in q r (h.pending).may_follow (text_of h.pending) ≡ No =
    list_seen q r c.self-in-looks.inside h c.in-Ok.others c.in-Ok.text.now No c.self-in-looks.view_is
    c.in-Ok.ensures.begins c.in-Ok.ensures.all c.in-No.ensures (λ o e. absurd cc) in
    let k = i.0.1 in (
      i.0.0,
      h.pending,
      k.reads,
      (ap (λ (o : Option Def). paren_from o q r h.pending) i.1 ∙ seen, refl),
      k.first,
      k.sound,
      k.asks,
    )

pub returns-in_err-_came-in-Unknown-2-clause-gives : goal.returns-in_err-_came-in-Unknown-2-clause-gives
returns-in_err-_came-in-Unknown-2-clause-gives g c =
    let q = c.args.delims.now.quotes.now in
    let r = c.args.delims.now.comments.now in
    let h : Held = c.looks.self in
    let i = c.looks.invariant in
    let new : Held = c.more.new.self in
    let s = g.R.ByteSource.script c.args.reader.now in
    let a = g.R.ByteSource.script c.looks.reader in
    let b = g.R.ByteSource.script c.more.new.reader in
    let f : InputFault = c.in_err-_came-in-Unknown-2.field-0.0 in
    let seen : paren_in q r (h.pending).may_follow (text_of h.pending) ≡ Unknown =
    list_seen q r c.self-in-looks.inside h c.in-Ok.others c.in-Ok.text.now Unknown c.self-in-looks.view_is
    c.in-Ok.ensures.begins c.in-Ok.ensures.all c.in-Unknown.ensures (λ o e. absurd cc) in
    let w : wants_list q r h.pending = ap (λ (o : Option Def). paren_from o q r h.pending) i.1 ∙ seen in
    let m = asked_stops (wants_list q r) s a b c.args.self.now h new i.0.0 h.pending f i.0.1
    (paren_open q r (h.pending).may_follow (text_of h.pending) seen) w c.in_err-_came-in-Unknown-2.ensures.gives in
    let k : Stopped f s b c.args.self.now new i.0.0 new.pending × StopAsks (wants_list q r) f c.args.self.now i.0.0 new.pending =
    subst (λ (p : Pending). Stopped f s b c.args.self.now new i.0.0 p × StopAsks (wants_list q r) f c.args.self.now i.0.0 p) (sym m.2) (m.0, m.1) in
    let stops : ParenGives q r s b c.args.self.now new (Err f) = (i.0.0, new.pending, k.0, k.1, refl) in
    let same : Err f ≡ c.from_residual.result = search rules in
    subst (ParenGives q r s b c.args.self.now new) same stops

pub returns-then-is_some-clause-gives : goal.returns-then-is_some-clause-gives
returns-then-is_some-clause-gives g c =
    let q = c.args.delims.now.quotes.now in
    let r = c.args.delims.now.comments.now in
    let h : Held = c.args.self.now in
    let sound : h.fault ≡ None = ap (λ (i : Held). i.fault) (sym c.self.view_is) ∙ c.in_default.is in
    let k = none_asked (wants_list q r) (g.R.ByteSource.script c.args.reader.now) h sound in
    let none : paren_at q r h.pending ≡ No = search rules in
    ([], h.pending, k.reads, (none, refl), sound, sound, k.asks)
