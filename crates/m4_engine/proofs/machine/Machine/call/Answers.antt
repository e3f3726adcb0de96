use Rattle.std.proofs.Common.{◌≡◌, ◌∷◌, ◌-◌, Bor, List, ℕ, Option, None, Some, ap, refl, sym, ◌∙◌, rules}
use Rattle.std.specs.Prelude.{slice_set, IfSome, IfNone, option_copied}
use Rattle.m4_state.specs.State.{State}
use Rattle.m4_state.specs.declared.bytes.Bytes.{Bytes}
use Rattle.m4_input.specs.declared.pushed.Pushed.TheVariants as pushes
use Rattle.m4_builtins.specs.Act.{act}
use Rattle.m4_builtins.specs.Acted.{Acted}
use Rattle.m4_builtins.specs.declared.args.Arg.{Arg}
use Rattle.m4_builtins.specs.declared.effect.Effect.{Effect}
use Rattle.m4_builtins.specs.declared.place.Place.{Place}
use Rattle.m4_engine.specs.Engine.{Engine, with_made}
use Rattle.m4_engine.specs.Expansion.{Call}
use Rattle.m4_engine.specs.MachineView.{open_of, engine_view}
use Rattle.m4_engine.specs.Turns.{with_own}
use Rattle.m4_engine.proofs.Acts.{made_closed, given_steps}
use Rattle.m4_engine.proofs.Stack.{above_set, innermost_is, same_first, same_rest, some_open}
use Rattle.m4_engine.proofs.machine.Machine.call.Goals as goal

-- the effect has all but a text that was left to be pushed
own_acts : (o : Option (Bor Bytes)) (x : Acted) (s : State) (v : Effect)
    → IfNone o (let a : Acted = record { state = s; effect = v } in x ≡ a)
    → IfSome o (λ t. let a : Acted = record { state = s; effect = record v { push = Some (pushes.Text t.now) } } in x ≡ a)
    → (let a : Acted = record { state = s; effect = with_own (option_copied o) v } in x ≡ a)
own_acts None x s v h k = h
own_acts (Some t) x s v h k = k

own_made : (o : Option (List ℕ)) (v : Effect) (e : Engine)
    → with_made v.messages v.output v.wrap e ≡ with_made (with_own o v).messages (with_own o v).output (with_own o v).wrap e
own_made None v e = refl
own_made (Some t) v e = refl

pub returns-clause-steps : goal.returns-clause-steps
returns-clause-steps c = λ call e is.
    let old : Engine = engine_view c.self.inside in
    let xs : List Call = c.self.inside.stack.items in
    let n = c.self.inside.depth in
    let d : Call = c.index_mut-call.result.now in
    let was = c.self.view_is ∙ is in
    let opens : open_of n xs ≡ call ∷ e.open_calls = ap (λ (x : Engine). x.open_calls) was in
    let inner : d ∷ open_of (n - 1) xs ≡ call ∷ e.open_calls =
    sym (innermost_is xs n d (some_open xs n call e.open_calls opens) c.self.invariant c.index_mut-call.ensures.value) ∙ opens in
    let v : Effect = with_own (option_copied c.in_ok-own.own) c.act_on.new.effect in
    let a : Acted = record { state = c.act_on.new.state; effect = v } in
    let acts : act d.definition d.name d.done d.place c.self.inside.state ≡ a =
    ap (λ x. act x d.name d.done d.place c.self.inside.state) (sym c.definition.ensures.value)
    ∙ ap (λ (x : List ℕ). act c.definition.result.now x d.done d.place c.self.inside.state) (sym c.name.ensures)
    ∙ ap (λ (x : List Arg). act c.definition.result.now c.name.result.now x d.place c.self.inside.state) (sym c.arguments.ensures.list)
    ∙ ap (λ (x : Place). act c.definition.result.now c.name.result.now c.arguments.result.now x c.self.inside.state) (sym c.place.ensures)
    ∙ own_acts c.in_ok-own.own _ _ _ c.in_ok-own.ensures.acts c.in_ok-own.ensures.own in
    let acted : act call.definition call.name call.done call.place e.state ≡ a =
    ap (λ (x : Engine). act call.definition call.name call.done call.place x.state) (sym was)
    ∙ ap (λ (x : Call). act x.definition x.name x.done x.place c.self.inside.state) (sym (same_first _ _ _ _ inner)) ∙ acts in
    let made = made_closed old e c.begin_argument.new.self call a.state c.act_on.new.effect
    (open_of (n - 1) (slice_set xs (n - 1) c.shed.new.self)) _ _ _ was
    (above_set xs (n - 1) c.shed.new.self ∙ same_rest _ _ _ _ inner)
    c.in_ok-turned.ensures.messages c.in_ok-turned.ensures.output c.in_ok-turned.ensures.saved (search rules) in
    given_steps e c.begin_argument.new.self call a c.args.input.now c.give.new.input c.in_ok-turned.turned acted
    (made ∙ own_made (option_copied c.in_ok-own.own) c.act_on.new.effect (record e { state = a.state })) c.requires.taken
    c.in_ok-turned.ensures.given
