use Rattle.std.proofs.Common.{◌≡◌, Some, OnOk, refl, subst}
use Rattle.m4_input.specs.Input.{Held}
use Rattle.m4_input.specs.declared.pushed.Pushed.TheVariants as pushes
use Rattle.m4_engine.specs.Turns.{Pushes}
use Rattle.m4_engine.proofs.machine.calls.push_text.Goals as goal

pub returns-clause-pushes : goal.returns-clause-pushes
returns-clause-pushes c =
    let same : c.push_in_place.new.self ≡ c.args.input.now = c.if-push_in_place.ensures.left refl in
    subst (λ (i : Held). OnOk c.push_shared.result
    (Pushes i.pending c.push_shared.new.input.pending (Some (pushes.Text c.args.text.now)))) same c.push_shared.ensures.pushes
