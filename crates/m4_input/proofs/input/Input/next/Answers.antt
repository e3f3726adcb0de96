use Rattle.std.proofs.Common.{◌≡◌, Option, Some, None, Ok, sym, ap, subst}
use Rattle.m4_state.specs.declared.definition.Def.{Def}
use Rattle.m4_input.specs.declared.token.Token.TheVariants.{Definition}
use Rattle.m4_input.specs.Input.{Held, NextGives}
use Rattle.m4_input.specs.InputView.{view_of}
use Rattle.m4_input.proofs.Calls.{definition_taken}
use Rattle.std.proofs.Common.{ℕ, [], refl, ◌∙◌, rules}
use Rattle.std.specs.Prelude.{Err, IfSome}
use Rattle.m4_input.specs.declared.fault.InputFault.{InputFault}
use Rattle.m4_input.specs.Input.{IsLasting, wants_token, failures_after}
use Rattle.m4_input.proofs.Blocks.{HasAsked, none_asked, token_open, token_found, token_more, token_stops, next_again}
use Rattle.m4_input.proofs.Blocks.{blocks_left, blocks_fall, came_is, block_length, token_broken}
use Rattle.std.proofs.Common.{◌+◌, ◌<◌, ◌≤◌, length, arith}
use Rattle.m4_input.specs.Pending.{text_of}
use Rattle.m4_input.specs.Token.{scan}
use Rattle.m4_input.proofs.Fronts.{token_seen, front_within}
use Rattle.m4_input.proofs.input.Input.next.Goals as goal

-- the first token was a definition
pub returns-in-Some-take-clause-gives : goal.returns-in-Some-take-clause-gives
returns-in-Some-take-clause-gives g c =
    let q = c.args.delims.now.quotes.now in
    let r = c.args.delims.now.comments.now in
    let s = g.R.ByteSource.script c.args.reader.now in
    let old : Held = view_of c.self.inside in
    let new : Held = record old { pending = record old.pending { definition = c.take.new.self } } in
    let there : c.self.inside.definition ≡ Some c.in-Some-take.def = sym c.in-Some-take.ensures.value in
    let sound : c.self.inside.fault ≡ None = c.in_default.is in
    let gone : new ≡ record old { pending = record old.pending { definition = None } } =
    ap (λ (d : Option Def). record old { pending = record old.pending { definition = d } }) c.in-Some-take.ensures.after in
    subst (λ (h : Held). NextGives q r s s h new (Ok (Definition c.in-Some-take.def))) c.self.view_is
    (definition_taken q r s old new c.in-Some-take.def there gone sound)

-- the fault of an earlier call
pub returns-in-Some-clause-gives : goal.returns-in-Some-clause-gives
returns-in-Some-clause-gives g c =
    let e : (c.args.self.now).fault ≡ Some c.in-Some.fault = ap (λ (h : Held). h.fault) (sym c.self.view_is) ∙ c.in-Some.is in
    let l : IsLasting c.in-Some.fault = subst (λ (o : Option InputFault). IfSome o IsLasting) c.in-Some.is c.self.invariant in
    next_again c.args.delims.now.quotes.now c.args.delims.now.comments.now (g.R.ByteSource.script c.args.reader.now) c.args.self.now c.in-Some.fault e l

pub returns-in-Ok-Found-clause-gives : goal.returns-in-Ok-Found-clause-gives
returns-in-Ok-Found-clause-gives g c =
    let q = c.args.delims.now.quotes.now in
    let r = c.args.delims.now.comments.now in
    let s = g.R.ByteSource.script c.args.reader.now in
    let a = g.R.ByteSource.script c.looks.reader in
    let h : Held = c.looks.self in
    let i = c.looks.invariant in
    let look : c.in-Ok-Found.field-0 ≡ scan q r (h.pending).may_follow (text_of h.pending) =
    token_seen q r c.self-in-looks.inside h c.in-Ok.others c.in-Ok.text.now c.in-Ok-Found.field-0
    c.self-in-looks.view_is c.in-Ok.ensures.begins c.in-Ok.ensures.all
    (c.look_by_kind-look.ensures.value ∙ sym c.in-Ok-Found.ensures.value) (λ o e. absurd cc) in
    token_found q r s a c.args.self.now h i.0.0 c.in-Ok-Found.field-0 i.0.1 i.1 look c.consume.new.self
    c.in-Ok-Found.token c.in-Ok-Found.len c.in-Ok-Found.field-0-is c.consume.ensures

pub looks-smaller : goal.looks-smaller
looks-smaller g c =
    let q = c.args.delims.now.quotes.now in
    let r = c.args.delims.now.comments.now in
    let s = g.R.ByteSource.script c.args.reader.now in
    let a = g.R.ByteSource.script c.looks.reader in
    let h : Held = c.looks.self in
    let i = c.looks.invariant in
    let look : c.in-Ok-NeedsMore.field-0 ≡ scan q r (h.pending).may_follow (text_of h.pending) =
    token_seen q r c.self-in-looks.inside h c.in-Ok.others c.in-Ok.text.now c.in-Ok-NeedsMore.field-0
    c.self-in-looks.view_is c.in-Ok.ensures.begins c.in-Ok.ensures.all
    (c.look_by_kind-look.ensures.value ∙ sym c.in-Ok-NeedsMore.ensures.value) (λ o e. absurd cc) in
    let new : Held = c.more.new.self in
    let b = g.R.ByteSource.script c.more.new.reader in
    let came = c.in_ok-_came-in-Ok-NeedsMore-2._came in
    let gives = c.in_ok-_came-in-Ok-NeedsMore-2.ensures.gives in
    let may = token_open q r s a c.args.self.now h i.0.0 c.in-Ok-NeedsMore.field-0 i.0.1 i.1 look c.in-Ok-NeedsMore.field-0-is in
    let fewer : blocks_left (new.pending).may_follow (g.R.ByteSource.takes_left c.more.new.reader)
    < blocks_left (h.pending).may_follow (g.R.ByteSource.takes_left c.looks.reader) =
    blocks_fall (h.pending).may_follow (new.pending).may_follow (g.R.ByteSource.takes_left c.looks.reader)
    (g.R.ByteSource.takes_left c.more.new.reader) may
    (λ e. c.in_ok-_came-in-Ok-NeedsMore-2.ensures.falls (ap Ok (sym (came_is a b h new came gives) ∙ e))) in
    let longer : length (text_of new.pending) ≡ length (text_of h.pending) + length gives.0 = block_length a b h new came gives in
    let most : length gives.0 ≤ 4096 = gives.2 in
    let all : length c.in-Ok.text.now ≡ length (text_of h.pending) = ap length (c.in-Ok.ensures.all c.if-others.false)
    ∙ ap (λ (k : Held). length (text_of k.pending)) c.self-in-looks.view_is in
    omega (arith, fewer, longer, most, all)

pub looks-preserved : goal.looks-preserved
looks-preserved g c =
    let q = c.args.delims.now.quotes.now in
    let r = c.args.delims.now.comments.now in
    let s = g.R.ByteSource.script c.args.reader.now in
    let a = g.R.ByteSource.script c.looks.reader in
    let h : Held = c.looks.self in
    let i = c.looks.invariant in
    let look : c.in-Ok-NeedsMore.field-0 ≡ scan q r (h.pending).may_follow (text_of h.pending) =
    token_seen q r c.self-in-looks.inside h c.in-Ok.others c.in-Ok.text.now c.in-Ok-NeedsMore.field-0
    c.self-in-looks.view_is c.in-Ok.ensures.begins c.in-Ok.ensures.all
    (c.look_by_kind-look.ensures.value ∙ sym c.in-Ok-NeedsMore.ensures.value) (λ o e. absurd cc) in
    let new : Held = c.more.new.self in
    let b = g.R.ByteSource.script c.more.new.reader in
    let n : ℕ = g.R.ByteSource.failures c.looks.reader in
    let came = c.in_ok-_came-in-Ok-NeedsMore-2._came in
    let gives = c.in_ok-_came-in-Ok-NeedsMore-2.ensures.gives in
    let m = token_more q r s a c.args.self.now h i.0.0 c.in-Ok-NeedsMore.field-0 i.0.1 i.1 look b new came c.in-Ok-NeedsMore.field-0-is gives in
    let longer : length (text_of new.pending) ≡ length (text_of h.pending) + length gives.0 = block_length a b h new came gives in
    let within : length c.in-Ok.text.now ≤ length (text_of h.pending) =
    front_within c.self-in-looks.inside h c.in-Ok.text.now c.self-in-looks.view_is c.in-Ok.ensures.begins in (
      (m.0, m.1),
      m.2,
      c.in_ok-_came-in-Ok-NeedsMore-2.ensures.counted
          ∙ ap (λ (o : Option InputFault). failures_after o new.fault n) i.0.1.sound
          ∙ ap (λ (o : Option InputFault). failures_after None o n) m.1.sound
          ∙ i.2,
      omega (arith, longer, within),
    )

pub looks-init : goal.looks-init
looks-init g c =
    let q = c.args.delims.now.quotes.now in
    let r = c.args.delims.now.comments.now in
    let s = g.R.ByteSource.script c.args.reader.now in
    let v : Held = view_of c.self.inside in
    let h : Held = record v { pending = record v.pending { definition = c.take.new.self } } in
    let none : c.self.inside.definition ≡ None = sym c.take.ensures.value ∙ c.in_default-take.is in
    let gone : c.take.new.self ≡ None = c.take.ensures.after in
    let e : h ≡ c.args.self.now = ap (λ (d : Option Def). let i : Held =
    record v { pending = record v.pending { definition = d } } in i) (gone ∙ sym none) ∙ c.self.view_is in
    let sound : (c.args.self.now).fault ≡ None = ap (λ (i : Held). i.fault) (sym c.self.view_is) ∙ c.in_default.is in (
      ([], subst (λ (i : Held). HasAsked (wants_token q r) s s c.args.self.now i [] i.pending) (sym e) (none_asked (wants_token q r) s c.args.self.now sound)),
      gone,
      refl,
      omega arith,
    )

-- the question failed
pub returns-in_err-_came-in-Ok-NeedsMore-2-clause-gives : goal.returns-in_err-_came-in-Ok-NeedsMore-2-clause-gives
returns-in_err-_came-in-Ok-NeedsMore-2-clause-gives g c =
    let q = c.args.delims.now.quotes.now in
    let r = c.args.delims.now.comments.now in
    let s = g.R.ByteSource.script c.args.reader.now in
    let a = g.R.ByteSource.script c.looks.reader in
    let h : Held = c.looks.self in
    let i = c.looks.invariant in
    let look : c.in-Ok-NeedsMore.field-0 ≡ scan q r (h.pending).may_follow (text_of h.pending) =
    token_seen q r c.self-in-looks.inside h c.in-Ok.others c.in-Ok.text.now c.in-Ok-NeedsMore.field-0
    c.self-in-looks.view_is c.in-Ok.ensures.begins c.in-Ok.ensures.all
    (c.look_by_kind-look.ensures.value ∙ sym c.in-Ok-NeedsMore.ensures.value) (λ o e. absurd cc) in
    let new : Held = c.more.new.self in
    let b = g.R.ByteSource.script c.more.new.reader in
    let f : InputFault = c.in_err-_came-in-Ok-NeedsMore-2.field-0.0 in
    let stops : NextGives q r s b c.args.self.now new (Err f) =
    token_stops q r s a c.args.self.now h i.0.0 c.in-Ok-NeedsMore.field-0 i.0.1 i.1 look b new f
    c.in-Ok-NeedsMore.field-0-is c.in_err-_came-in-Ok-NeedsMore-2.ensures.gives in
    let same : Err f ≡ c.from_residual.result = search rules in
    subst (NextGives q r s b c.args.self.now new) same stops

pub returns-in-Ok-Broken-clause-gives : goal.returns-in-Ok-Broken-clause-gives
returns-in-Ok-Broken-clause-gives g c =
    let q = c.args.delims.now.quotes.now in
    let r = c.args.delims.now.comments.now in
    let s = g.R.ByteSource.script c.args.reader.now in
    let a = g.R.ByteSource.script c.looks.reader in
    let h : Held = c.looks.self in
    let i = c.looks.invariant in
    let look : c.in-Ok-Broken.field-0 ≡ scan q r (h.pending).may_follow (text_of h.pending) =
    token_seen q r c.self-in-looks.inside h c.in-Ok.others c.in-Ok.text.now c.in-Ok-Broken.field-0
    c.self-in-looks.view_is c.in-Ok.ensures.begins c.in-Ok.ensures.all
    (c.look_by_kind-look.ensures.value ∙ sym c.in-Ok-Broken.ensures.value) (λ o e. absurd cc) in
    let gives = token_broken q r s a c.args.self.now h i.0.0 c.in-Ok-Broken.field-0 i.0.1 i.1 look c.end_inside.new.self
    c.in-Ok-Broken.what c.in-Ok-Broken.field-0-is c.end_inside.ensures.nothing in
    subst (λ (f : InputFault). NextGives q r s a c.args.self.now c.end_inside.new.self (Err f)) (sym c.end_inside.ensures.fault) gives

pub looks-smaller-then-others : goal.looks-smaller-then-others
looks-smaller-then-others g c =
    let h : Held = c.looks.self in
    let within : length c.in-Ok.text.now ≤ length (text_of h.pending) =
    front_within c.self-in-looks.inside h c.in-Ok.text.now c.self-in-looks.view_is c.in-Ok.ensures.begins in
    let more : c.looks.looked < length c.in-Ok.text.now = c.in-Ok.ensures.longer c.if-others.true in
    omega (arith, within, more)

pub more-requires-clause-open : goal.more-requires-clause-open
more-requires-clause-open g c =
    let q = c.args.delims.now.quotes.now in
    let r = c.args.delims.now.comments.now in
    let s = g.R.ByteSource.script c.args.reader.now in
    let a = g.R.ByteSource.script c.looks.reader in
    let h : Held = c.looks.self in
    let i = c.looks.invariant in
    let look : c.in-Ok-NeedsMore.field-0 ≡ scan q r (h.pending).may_follow (text_of h.pending) =
    token_seen q r c.self-in-looks.inside h c.in-Ok.others c.in-Ok.text.now c.in-Ok-NeedsMore.field-0
    c.self-in-looks.view_is c.in-Ok.ensures.begins c.in-Ok.ensures.all
    (c.look_by_kind-look.ensures.value ∙ sym c.in-Ok-NeedsMore.ensures.value) (λ o e. absurd cc) in
    token_open q r s a c.args.self.now h i.0.0 c.in-Ok-NeedsMore.field-0 i.0.1 i.1 look c.in-Ok-NeedsMore.field-0-is

pub looks-preserved-then-others : goal.looks-preserved-then-others
looks-preserved-then-others g c =
    let i = c.looks.invariant in
    let h : Held = c.looks.self in
    (i.0, i.1, i.2, front_within c.self-in-looks.inside h c.in-Ok.text.now c.self-in-looks.view_is c.in-Ok.ensures.begins)
