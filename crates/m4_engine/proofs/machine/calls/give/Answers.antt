use Rattle.std.proofs.Common.{◌≡◌, Bor, List, ℕ, Option, Some, ap, subst, sym}
use Rattle.std.specs.Prelude.{IfSome, option_copied}
use Rattle.m4_state.specs.declared.bytes.Bytes.{Bytes}
use Rattle.m4_builtins.specs.Acted.{nothing}
use Rattle.m4_builtins.specs.declared.effect.Effect.{Effect}
use Rattle.m4_engine.specs.Turns.{IsGiven, with_own}
use Rattle.m4_engine.specs.declared.turned.Turned.TheVariants as turns
use Rattle.m4_engine.proofs.machine.calls.give.Goals as goal

-- a text that is its own expansion is all that is left to do
pub returns-in-Some-clause-given : goal.returns-in-Some-clause-given
returns-in-Some-clause-given c =
    let clear : c.args.effect.now ≡ nothing =
    subst (λ (o : Option (Bor Bytes)). IfSome o (λ text. c.args.effect.now ≡ nothing)) c.in-Some.is c.requires.own in
    let own : option_copied c.args.own ≡ Some c.in-Some.text.now = ap (λ (o : Option (Bor Bytes)). option_copied o) c.in-Some.is in
    subst (λ (o : Option (List ℕ)). IsGiven turns.GoesOn (with_own o c.args.effect.now) c.args.input.now c.push_text.new.input) (sym own) (
      ap (λ (v : Effect). v.exit) clear,
      ap (λ (v : Effect). v.skip) clear,
      c.in_ok-push_text.ensures.pushes,
      c.in_ok-push_text.ensures.stays,
    )
