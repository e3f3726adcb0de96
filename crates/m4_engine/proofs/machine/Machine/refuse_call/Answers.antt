use Rattle.std.proofs.Common.{◌≡◌, List, ℕ, true, rules, refl, ap, ◌∙◌, take}
use Rattle.std.specs.Prelude.{Ok, codes}
use Rattle.m4_input.specs.Pending.{text_of}
use Rattle.m4_input.specs.Input.{Held, longer}
use Rattle.m4_input.specs.declared.token.Token.TheVariants.{Name}
use Rattle.m4_builtins.specs.declared.place.Place.{Place}
use Rattle.m4_builtins.specs.Messages.{error}
use Rattle.m4_engine.specs.Engine.{Engine, with_engine_message, is_deep_in, calls_text, nested_text}
use Rattle.m4_engine.specs.Expansion.{Call, place_at}
use Rattle.m4_engine.specs.Lookahead.{Recognises}
use Rattle.m4_engine.specs.declared.turned.Turned.TheVariants as turns
use Rattle.m4_engine.specs.declared.turned.TurnEnd.TheVariants as ends
use Rattle.m4_engine.proofs.Calling.{limit_reported, refused_calls, depth_refused}
use Rattle.m4_engine.proofs.Seen.{name_there, made_moves, recognised_call, room_refused}
use Rattle.m4_engine.proofs.Passing.{past}
use Rattle.m4_engine.proofs.Taken.{place_of_name}
use Rattle.m4_engine.proofs.Turning.{found_steps_at}
use Rattle.m4_engine.proofs.machine.Machine.refuse_call.Goals as goal

-- the count of calls has reached its limit
pub returns-then-self-clause-turns : goal.returns-then-self-clause-turns
returns-then-self-clause-turns c = λ i listed w.
    let e = c.args.self.now in
    let p = i.pending in
    let k : Held = past w.len i in
    let q = k.pending in
    let j = c.args.input.now in
    let name : List ℕ = take w.len (text_of p) in
    let d = recognised_call listed e.state name (place_at p) w.called in
    let at : Place = c.set_place.new.self.place in
    let placed : at ≡ place_at p = ap (λ (x : Call). x.place) c.in_ok-set_place.ensures ∙ place_of_name listed (Recognises listed e.state) e.state i j w in
    let new : Engine = c.report_limit-then-self.new.self in
    found_steps_at e new (Name name) w.len i k j (Ok (turns.Ends ends.ExpansionLimit))
    w.first (w.named).scanned refl
    (made_moves e new d.0 listed name p q j.pending (Ok (turns.Ends ends.ExpansionLimit)) refl
    (name_there w.len listed e.state p w.named) d.3 d.1 d.2
    (λ before z more u o m. refused_calls e new d.0 listed (longer z more q) (before z more) o m (search rules)
    (limit_reported e new at _ _ (codes " calls") (ap (λ (x : Engine). (x.limits).calls) c.report_limit.view_is) c.in_ok-report_limit.ensures.engine
    ∙ ap (λ (a : Place). with_engine_message (error a (calls_text (e.limits).calls)) e) placed)))
    {to = λ t. Unit {0}} (record { moves = tt; ready = tt; limits = search rules; made = tt })

-- too many calls are open
pub returns-clause-turns : goal.returns-clause-turns
returns-clause-turns c = λ i listed w.
    let e = c.args.self.now in
    let p = i.pending in
    let k : Held = past w.len i in
    let q = k.pending in
    let j = c.args.input.now in
    let name : List ℕ = take w.len (text_of p) in
    let d = recognised_call listed e.state name (place_at p) w.called in
    let at : Place = c.set_place.new.self.place in
    let placed : at ≡ place_at p = ap (λ (x : Call). x.place) c.in_ok-set_place.ensures ∙ place_of_name listed (Recognises listed e.state) e.state i j w in
    let v : Engine = c.count.new.self in
    let new : Engine = c.report_limit-3.new.self in
    let deep : is_deep_in v ≡ true = ap is_deep_in c.count.ensures ∙ room_refused e c.requires.refused (search rules) in
    found_steps_at e new (Name name) w.len i k j (Ok (turns.Ends ends.NestingLimit))
    w.first (w.named).scanned refl
    (made_moves e new d.0 listed name p q j.pending (Ok (turns.Ends ends.NestingLimit)) refl
    (name_there w.len listed e.state p w.named) d.3 d.1 d.2
    (λ before z more u o m. depth_refused e v new d.0 listed (longer z more q) (before z more) o m (search rules) c.count.ensures deep
    (limit_reported v new at _ _ (codes " nested calls")
    (ap (λ (x : Engine). (x.limits).nesting) c.report_limit-2.view_is) c.in_ok-report_limit-2.ensures.engine
    ∙ ap (λ (a : Place). with_engine_message (error a (nested_text (v.limits).nesting)) v) placed)))
    {to = λ t. Unit {0}} (record { moves = tt; ready = tt; limits = search rules; made = tt })
