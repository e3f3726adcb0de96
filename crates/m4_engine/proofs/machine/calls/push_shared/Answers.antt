use Rattle.std.proofs.Common.{◌≡◌, List, ℕ, Some, OnOk, subst, rules}
use Rattle.m4_input.specs.declared.pushed.Pushed.TheVariants as pushes
use Rattle.m4_engine.specs.Turns.{Pushes}
use Rattle.m4_engine.proofs.machine.calls.push_shared.Goals as goal

pub returns-clause-pushes : goal.returns-clause-pushes
returns-clause-pushes c =
    let shared : c.in_ok-share.field-0 ≡ c.args.text.now = search rules in
    subst (λ (x : List ℕ). OnOk c.push.result (Pushes c.args.input.now.pending c.push.new.input.pending (Some (pushes.Text x))))
    shared c.push.ensures.pushes
