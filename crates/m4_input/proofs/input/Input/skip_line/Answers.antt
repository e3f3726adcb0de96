use Rattle.std.proofs.Common.{◌≡◌, inl, ℕ, [], Option, Some, None, refl, sym, ap, ◌∙◌, false, subst}
use Rattle.std.specs.Prelude.{Ok, IfSome}
use Rattle.m4_input.specs.declared.fault.InputFault.{InputFault}
use Rattle.m4_input.specs.Blocks.{BlockGives, LineGives}
use Rattle.m4_input.specs.Input.{Held, IsLasting, wants_line, failures_after}
use Rattle.m4_input.proofs.Blocks.{none_skipped, skipped_more, stopped_before}
use Rattle.m4_input.proofs.input.Input.skip_line.Goals as goal

pub returns-in-Some-clause-gives : goal.returns-in-Some-clause-gives
returns-in-Some-clause-gives g c =
    let e : (c.args.self.now).fault ≡ Some c.in-Some.fault = ap (λ (h : Held). h.fault) (sym c.self.view_is) ∙ c.in-Some.is in
    let l : IsLasting c.in-Some.fault = subst (λ (o : Option InputFault). IfSome o IsLasting) c.in-Some.is c.self.invariant in
    let k = stopped_before wants_line (g.R.ByteSource.script c.args.reader.now) c.args.self.now c.in-Some.fault e l in
    ([], (c.args.self.now).pending, k.0, k.1, inl refl)

pub blocks-2-init : goal.blocks-2-init
blocks-2-init g c = (
  (
    [],
    (c.args.self.now).pending,
    none_skipped (g.R.ByteSource.script c.args.reader.now) c.args.self.now
        (ap (λ (h : Held). h.fault) (sym c.self.view_is) ∙ c.in_default.is),
  ),
  refl,
)

pub blocks-2-preserved : goal.blocks-2-preserved
blocks-2-preserved g c =
    let i = c.blocks-2.invariant in
    let h : Held = c.blocks-2.self in
    let k : Held = c.skip_in_hand.new.self in
    let new : Held = c.more.new.self in
    let s = g.R.ByteSource.script c.args.reader.now in
    let a = g.R.ByteSource.script c.blocks-2.reader in
    let b = g.R.ByteSource.script c.more.new.reader in
    let n : ℕ = g.R.ByteSource.failures c.blocks-2.reader in
    let l : LineGives h k false = subst (LineGives h k) c.if-skip_in_hand.false c.skip_in_hand.ensures in
    let gives : BlockGives a b k new (Ok c.in_ok-_came._came) = c.in_ok-_came.ensures.gives in
    let m = skipped_more s a b c.args.self.now h k new i.0.0 i.0.1 c.in_ok-_came._came i.0.2 l gives in
    let kept : k.fault ≡ None = ap (λ (j : Held). j.fault) l.1 ∙ i.0.2.asked.sound in (
      (m.0, m.1, m.2),
      c.in_ok-_came.ensures.counted
          ∙ ap (λ (o : Option InputFault). failures_after o new.fault n) kept
          ∙ ap (λ (o : Option InputFault). failures_after None o n) m.2.asked.sound
          ∙ i.1,
    )
