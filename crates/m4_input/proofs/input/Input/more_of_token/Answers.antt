use Rattle.std.proofs.Common.{◌≡◌, ◌<◌, ◌≤◌, ℕ, Bool, true, [], Option, Some, None, Ok, refl, sym, ap, ◌∙◌, subst, arith, rules}
use Rattle.std.specs.Prelude.{IfSome}
use Rattle.m4_input.specs.declared.open_token.OpenToken.{OpenToken}
use Rattle.m4_input.specs.Pending.{text_of}
use Rattle.m4_input.specs.Text.{text_in}
use Rattle.m4_input.specs.Token.{scan}
use Rattle.m4_input.specs.Input.{Held, failures_after}
use Rattle.m4_input.specs.OpenToken.{IsOpenAt}
use Rattle.m4_input.specs.InputView.{view_of}
use Rattle.m4_input.proofs.TokenBlocks.{none_came, come_more, open_then, still_none, come_open}
use Rattle.m4_input.proofs.input.Input.more_of_token.Goals.{in-Some, in-None}
use Rattle.m4_input.proofs.input.Input.more_of_token.Goals as goal

-- the token that was open, in the bytes in hand with the block
pub still_open-requires : goal.still_open-requires
still_open-requires g c =
    let q = c.args.delims.now.quotes.now in
    let d = c.args.delims.now.comments.now in
    let i = c.blocks-2.invariant in
    let o : IsOpenAt q d c.blocks-2.token (text_of c.more-in-blocks-2.new.self.pending) =
    open_then q d (g.R.ByteSource.script c.args.reader.now) (g.R.ByteSource.script c.blocks-2.reader) (g.R.ByteSource.script c.more-in-blocks-2.new.reader)
    c.args.self.now c.blocks-2.self c.more-in-blocks-2.new.self i.0.0 c.in_ok-more.field-0 i.0.1 i.1 c.in_ok-more.ensures.gives c.blocks-2.token i.2 in
    subst (IsOpenAt q d c.blocks-2.token) (sym (ap (λ (h : Held). text_of h.pending) c.self-in-blocks-2.view_is)) o

-- the token is open, since no definition comes first
pub blocks-2-init : goal.blocks-2-init
blocks-2-init g c =
    let q = c.args.delims.now.quotes.now in
    let d = c.args.delims.now.comments.now in
    let h : Held = c.args.self.now in
    let same : view_of c.self.inside ≡ h = c.self.view_is in
    let some : c.match-self.open ≡ Some c.in-Some-open.token = c.in-Some-open.is in
    let first : (h.pending.definition ≡ None) × IsOpenAt q d c.in-Some-open.token (text_of h.pending) = elim c.match-self.branch [
      | in-Some w ↦ let none : c.match-self.open ≡ None = search rules in absurd cc
      | in-None w ↦
          let found : w.open_token-open.result ≡ Some c.in-Some-open.token = sym w.open-is ∙ some in
          let is : IsOpenAt q d c.in-Some-open.token (text_in c.self.inside.text) =
          subst (λ (o : Option OpenToken). IfSome o (λ t. IsOpenAt q d t (text_in c.self.inside.text))) found
          w.open_token-open.ensures in (
            ap (λ (k : Held). k.pending.definition) (sym same) ∙ w.in-None.is,
            subst (IsOpenAt q d c.in-Some-open.token) (ap (λ (k : Held). text_of k.pending) same) is,
          )
    ] in
    (([], none_came q d (g.R.ByteSource.script c.args.reader.now) h c.requires.open c.requires.sound), first.0, first.1, refl, omega arith)

pub blocks-2-preserved : goal.blocks-2-preserved
blocks-2-preserved g c =
    let q = c.args.delims.now.quotes.now in
    let d = c.args.delims.now.comments.now in
    let i = c.blocks-2.invariant in
    let n : ℕ = g.R.ByteSource.failures c.blocks-2.reader in
    let new : Held = c.more-in-blocks-2.new.self in
    let text : text_in c.self-in-blocks-2.inside.text ≡ text_of new.pending = ap (λ (h : Held). text_of h.pending) c.self-in-blocks-2.view_is in
    let k = come_open q d (g.R.ByteSource.script c.args.reader.now) (g.R.ByteSource.script c.blocks-2.reader)
    (g.R.ByteSource.script c.more-in-blocks-2.new.reader)
    c.args.self.now c.blocks-2.self new i.0.0 c.in_ok-more.field-0 i.0.1 i.1 c.in_ok-more.ensures.gives c.if-branch.true
    (ap (scan q d true) (sym text) ∙ c.in-Some-still_open.ensures.1) in
    let falls : g.R.ByteSource.takes_left c.more-in-blocks-2.new.reader < g.R.ByteSource.takes_left c.blocks-2.reader =
    c.in_ok-more.ensures.falls (ap (λ (v : Bool). Ok v) c.if-branch.true) in
    let before : g.R.ByteSource.takes_left c.blocks-2.reader ≤ g.R.ByteSource.takes_left c.args.reader.now = i.4 in (
      k,
      still_none q d (g.R.ByteSource.script c.args.reader.now) (g.R.ByteSource.script c.blocks-2.reader) (g.R.ByteSource.script c.more-in-blocks-2.new.reader)
          c.args.self.now c.blocks-2.self new i.0.0 c.in_ok-more.field-0 i.0.1 i.1 c.in_ok-more.ensures.gives,
      subst (IsOpenAt q d c.in-Some-still_open.longer) text c.in-Some-still_open.ensures.0,
      c.in_ok-more.ensures.counted
          ∙ ap (λ o. failures_after o new.fault n) (i.0.1).read.sound
          ∙ ap (λ o. failures_after None o n) (k.1).read.sound
          ∙ i.3,
      omega arith,
    )

-- no token was open
pub returns-in_default-clause-gives : goal.returns-in_default-clause-gives
returns-in_default-clause-gives g c =
    let q = c.args.delims.now.quotes.now in
    let d = c.args.delims.now.comments.now in
    let s = g.R.ByteSource.script c.args.reader.now in
    come_more q d s s (g.R.ByteSource.script c.more.new.reader) c.args.self.now c.args.self.now c.more.new.self _ c.in_ok-_came._came
    (none_came q d s c.args.self.now c.requires.open c.requires.sound) c.in_ok-_came.ensures.gives

-- the reader is at its end
pub returns-else-branch-clause-gives : goal.returns-else-branch-clause-gives
returns-else-branch-clause-gives g c =
    let i = c.blocks-2.invariant in
    come_more c.args.delims.now.quotes.now c.args.delims.now.comments.now (g.R.ByteSource.script c.args.reader.now)
    (g.R.ByteSource.script c.blocks-2.reader) (g.R.ByteSource.script c.more-in-blocks-2.new.reader)
    c.args.self.now c.blocks-2.self c.more-in-blocks-2.new.self i.0.0 c.in_ok-more.field-0 i.0.1 c.in_ok-more.ensures.gives

-- the token is closed
pub returns-in-None-still_open-clause-gives : goal.returns-in-None-still_open-clause-gives
returns-in-None-still_open-clause-gives g c =
    let i = c.blocks-2.invariant in
    come_more c.args.delims.now.quotes.now c.args.delims.now.comments.now (g.R.ByteSource.script c.args.reader.now)
    (g.R.ByteSource.script c.blocks-2.reader) (g.R.ByteSource.script c.more-in-blocks-2.new.reader)
    c.args.self.now c.blocks-2.self c.more-in-blocks-2.new.self i.0.0 c.in_ok-more.field-0 i.0.1 c.in_ok-more.ensures.gives

pub returns-in-None-still_open-clause-falls : goal.returns-in-None-still_open-clause-falls
returns-in-None-still_open-clause-falls g c e f =
    let falls : g.R.ByteSource.takes_left c.more-in-blocks-2.new.reader < g.R.ByteSource.takes_left c.blocks-2.reader =
    c.in_ok-more.ensures.falls (ap (λ (v : Bool). Ok v) c.if-branch.true) in
    let before : g.R.ByteSource.takes_left c.blocks-2.reader ≤ g.R.ByteSource.takes_left c.args.reader.now = c.blocks-2.invariant.4 in
    omega arith
