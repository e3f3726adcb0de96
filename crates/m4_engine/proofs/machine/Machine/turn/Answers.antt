use Rattle.std.proofs.Common.{◌≡◌, ◌∙◌, ℕ, List, [], ◌∷◌, Option, None, OnErr, sym, ap, subst}
use Rattle.m4_input.specs.Input.{Held}
use Rattle.m4_engine.specs.Engine.{Engine, HasFront}
use Rattle.m4_engine.specs.declared.turned.Turned.{Turned}
use Rattle.m4_engine.specs.Turns.{Begins, Completes}
use Rattle.m4_engine.proofs.machine.Machine.turn.Goals as goal

-- a call is left to be made
abbrev completes : (o : Option Turned) (old new : Engine) (i j : Held) → o ≡ None → Begins o old new i j → Completes old new i j
completes o old new i j e b = subst (λ (o : Option Turned). Begins o old new i j) e b

pub call-requires-clause-taken : goal.call-requires-clause-taken
call-requires-clause-taken c =
    (completes c.in_ok-turned.field-0 c.args.self.now c.begin_turn.new.self c.requires.seen.0 c.begin_turn.new.input c.in-None.is
    (c.in_ok-turned.ensures.begins c.requires.seen.0 c.requires.seen.1)).taken

pub call-requires-clause-inside : goal.call-requires-clause-inside
call-requires-clause-inside c = λ e.
    let b = completes c.in_ok-turned.field-0 c.args.self.now c.begin_turn.new.self c.requires.seen.0 c.begin_turn.new.input c.in-None.is
    (c.in_ok-turned.ensures.begins c.requires.seen.0 c.requires.seen.1) in
    let none : b.call ∷ b.around.open_calls ≡ [] = sym (ap (λ (x : Engine). x.open_calls) b.innermost) ∙ e in
    cc

pub returns-in-Some-clause-turns : goal.returns-in-Some-clause-turns
returns-in-Some-clause-turns c = λ i w.
    subst (λ (o : Option Turned). Begins o c.args.self.now c.begin_turn.new.self i c.begin_turn.new.input) c.in-Some.is
    (c.in_ok-turned.ensures.begins i w)

pub returns-in-None-clause-turns : goal.returns-in-None-clause-turns
returns-in-None-clause-turns c = λ i w.
    let b = completes c.in_ok-turned.field-0 c.args.self.now c.begin_turn.new.self i c.begin_turn.new.input c.in-None.is
    (c.in_ok-turned.ensures.begins i w) in
    b.turns c.call.result c.call.new.self c.call.new.input (c.call.ensures.steps b.call b.around b.innermost)

pub returns-in-None-clause-kept : goal.returns-in-None-clause-kept
returns-in-None-clause-kept c =
    let b = completes c.in_ok-turned.field-0 c.args.self.now c.begin_turn.new.self c.requires.seen.0 c.begin_turn.new.input c.in-None.is
    (c.in_ok-turned.ensures.begins c.requires.seen.0 c.requires.seen.1) in
    subst (λ (x : List ℕ). OnErr c.call.result (HasFront x c.call.new.self.output)) b.output c.call.ensures.kept
