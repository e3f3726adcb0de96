use Rattle.std.proofs.Common.{◌≡◌, Option, subst, rules}
use Rattle.m4_input.specs.declared.pushed.Pushed.{Pushed}
use Rattle.m4_engine.specs.Turns.{Pushes}
use Rattle.m4_engine.proofs.machine.calls.give_more.Goals as goal

-- the saved text was taken, and the value is as it was
pub returns-clause-given : goal.returns-clause-given
returns-clause-given c =
    let value : c.take_wrap.new.self.push ≡ c.args.effect.now.push = search rules in (
      search rules,
      search rules,
      subst (λ (v : Option Pushed). Pushes c.args.input.now.pending c.push_value.new.input.pending v) value
          c.in_ok-push_value.ensures.pushes,
      c.in_ok-push_value.ensures.stays,
    )
