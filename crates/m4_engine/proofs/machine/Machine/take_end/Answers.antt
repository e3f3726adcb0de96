use Rattle.std.proofs.Common.{◌≡◌, ◌∙◌, ◌<◌, ◌-◌, ◌∷◌, List, ℕ, ap, sym, arith, rules}
use Rattle.std.specs.Prelude.{codes}
use Rattle.m4_builtins.specs.declared.place.Place.{Place}
use Rattle.m4_builtins.specs.Messages.{error}
use Rattle.m4_engine.specs.Engine.{Engine, with_engine_message}
use Rattle.m4_engine.specs.Expansion.{Call}
use Rattle.m4_engine.specs.MachineView.{open_of}
use Rattle.m4_engine.proofs.Calling.{list_unended}
use Rattle.m4_engine.proofs.Stack.{innermost_is}
use Rattle.m4_engine.proofs.machine.Machine.take_end.Goals as goal

pub returns-clause-makes : goal.returns-clause-makes
returns-clause-makes c =
    let e = c.args.self.now in
    let xs : List Call = c.self.inside.stack.items in
    let n = c.self.inside.depth in
    let d : Call = c.index.result.now in
    let some : 0 < n = omega (arith, c.if-self-eq0.false) in
    let inside : e.open_calls ≡ d ∷ open_of (n - 1) xs =
    ap (λ (x : Engine). x.open_calls) (sym c.self.view_is) ∙ innermost_is xs n d some c.self.invariant c.index.ensures in
    let told : c.add_message.new.self ≡ with_engine_message (error d.place (codes "end of input in argument list")) e =
    c.in_ok-add_message.ensures.engine ∙ ap (λ (x : List ℕ). with_engine_message x e) (c.as_slice.ensures.value ∙ c.in_ok-message.ensures
    ∙ ap (λ (p : Place). error p (codes "end of input in argument list")) c.place-place.ensures) in
    record { moves = list_unended e c.add_message.new.self d (open_of (n - 1) xs) inside told; limits = search rules; made = search rules }
