use Rattle.std.proofs.Common.{◌≡◌, List, ℕ, Bool, true, false, rules, refl, sym, ap, ◌∙◌, subst, take}
use Rattle.std.specs.Prelude.{Ok, Result}
use Rattle.m4_input.specs.Pending.{Pending, text_of}
use Rattle.m4_input.specs.Input.{Held, answer_of, longer}
use Rattle.m4_input.specs.Paren.{paren_at}
use Rattle.m4_input.specs.declared.token.Token.TheVariants.{Name}
use Rattle.m4_input.proofs.Consumed.{consumed_twice}
use Rattle.m4_builtins.specs.declared.fault.BuiltinFault.{BuiltinFault as TurnFault}
use Rattle.m4_builtins.specs.declared.place.Place.{Place}
use Rattle.m4_engine.specs.Engine.{Engine, HasFront, IsReady, is_deep_in, with_open_call}
use Rattle.m4_engine.specs.Expand.{call_of}
use Rattle.m4_engine.specs.declared.turned.Turned.{Turned}
use Rattle.m4_engine.specs.declared.turned.Turned.TheVariants as turns
use Rattle.m4_engine.specs.Expansion.{Call, place_at}
use Rattle.m4_engine.specs.Lookahead.{IsCalled, len_with}
use Rattle.m4_engine.specs.Turns.{StepsBy, Turns, called_within}
use Rattle.m4_engine.proofs.Acts.{limits_by}
use Rattle.m4_engine.proofs.Calling.{bare_made, list_begins_so}
use Rattle.m4_engine.proofs.Fronts.{at_error}
use Rattle.m4_engine.proofs.Passing.{past}
use Rattle.m4_engine.proofs.Seen.{name_there, list_text, made_moves, bare_moves}
use Rattle.m4_engine.proofs.Taken.{place_of_name}
use Rattle.m4_engine.proofs.Turning.{found_steps_at}
use Rattle.m4_engine.proofs.machine.Machine.begin_call.Goals as goal

pub returns-then-needs_list-clause-begins : goal.returns-then-needs_list-clause-begins
returns-then-needs_list-clause-begins c = λ i w.
    let e = c.args.self.now in
    let p = i.pending in
    let k : Held = past w.len i in
    let j = c.args.input.now in
    let name : List ℕ = take w.len (text_of p) in
    let d = c.args.next.now in
    let none : c.args.listed ≡ false = search rules in
    let same : j ≡ k = w.after ∙ ap (λ (v : Bool). past (len_with v w.len) i) none in
    let list : paren_at e.state.quotes e.state.comments k.pending ≡ answer_of false =
    name_there w.len c.args.listed e.state p w.named ∙ ap answer_of none in
    subst (λ (v : Held). Turns (Ok turns.GoesOn) e c.put_text.new.self i v) (sym same)
    (found_steps_at e c.put_text.new.self (Name name) w.len i k k (Ok turns.GoesOn) w.first (w.named).scanned refl
    (bare_moves e c.put_text.new.self d name p k.pending refl list (search rules) (search rules) w.called)
    {to = λ t. Unit {0}} (record {
      moves = tt;
      ready = record { ready = subst IsReady same c.requires.taken.ready; follows = refl; file = refl };
      limits = search rules;
      made = tt;
    }))

pub returns-then-not-listed-2-clause-begins : goal.returns-then-not-listed-2-clause-begins
returns-then-not-listed-2-clause-begins c = λ i w.
    let e = c.args.self.now in
    let p = i.pending in
    let k : Held = past w.len i in
    let q = k.pending in
    let j = c.args.input.now in
    let name : List ℕ = take w.len (text_of p) in
    let n = c.args.next.now in
    let d : Call = call_of n.definition n.name (place_at p) in
    let v : Engine = c.count.new.self in
    let none : c.args.listed ≡ false = search rules in
    let after : j ≡ k = w.after ∙ ap (λ (v : Bool). past (len_with v w.len) i) none in
    let placed : place_at j.pending ≡ place_at p = place_of_name c.args.listed (IsCalled n e.state) e.state i j w in
    let same : d ≡ call_of d.definition name (place_at p) = ap (λ (x : List ℕ). call_of n.definition x (place_at p)) w.called.1 in
    let shallow : is_deep_in v ≡ false = search rules in
    let opened = c.in_ok-open_list.ensures.engine ∙ ap (λ (x : Place). with_open_call (call_of n.definition n.name x) v) placed in
    record {
      call = d;
      around = v;
      innermost = opened;
      output = ap (λ (x : Engine). x.output) opened ∙ ap (λ (x : Engine). x.output) c.count.ensures;
      taken = c.requires.taken;
      turns = λ r new l s.
          let steps : StepsBy r v new k l (called_within v.open_calls d) =
          subst (λ (x : Held). StepsBy r v new x l (called_within v.open_calls d)) after s in
          found_steps_at e new (Name name) w.len i k l r w.first (w.named).scanned refl
          (made_moves e new d c.args.listed name p q l.pending r refl
          (name_there w.len c.args.listed e.state p w.named) (search rules) w.called.0 same
          (bare_made q.may_follow e v new d c.args.listed (λ z more. longer z more q) l.pending r
          (search rules) (search rules) c.count.ensures shallow steps.moves))
          (record {
            moves = steps.moves;
            ready = steps.ready;
            limits = limits_by r _ _ _ steps.limits (ap (λ (x : Engine). x.limits) c.count.ensures);
            made = steps.made;
          });
    }

pub returns-clause-begins : goal.returns-clause-begins
returns-clause-begins c = λ i w.
    let e = c.args.self.now in
    let p = i.pending in
    let k : Held = past w.len i in
    let q = k.pending in
    let j = c.args.input.now in
    let name : List ℕ = take w.len (text_of p) in
    let n = c.args.next.now in
    let d : Call = call_of n.definition n.name (place_at p) in
    let v : Engine = c.count.new.self in
    let listed : c.args.listed ≡ true = c.if-not-listed-2.false in
    let after : j ≡ past 1 k =
    w.after ∙ ap (λ (v : Bool). past (len_with v w.len) i) listed
    ∙ ap (λ (x : Pending). let y : Held = record i { pending = x } in y) (sym (consumed_twice w.len 1 p)) in
    let placed : place_at j.pending ≡ place_at p = place_of_name c.args.listed (IsCalled n e.state) e.state i j w in
    let list : paren_at e.state.quotes e.state.comments q ≡ answer_of c.args.listed = name_there w.len c.args.listed e.state p w.named in
    let same : d ≡ call_of d.definition name (place_at p) = ap (λ (x : List ℕ). call_of n.definition x (place_at p)) w.called.1 in
    let shallow : is_deep_in v ≡ false = search rules in
    found_steps_at e c.open_list.new.self (Name name) w.len i k j (Ok turns.GoesOn) w.first (w.named).scanned refl
    (made_moves e c.open_list.new.self d c.args.listed name p q j.pending (Ok turns.GoesOn) refl list (search rules) w.called.0 same
    (λ before z more u o m. list_begins_so e v c.open_list.new.self d c.args.listed q j.pending (before z more) z more o m
    (search rules) (search rules) c.count.ensures shallow (ap (λ (x : Held). x.pending) after)
    (list_text e.state.quotes e.state.comments q (list ∙ ap answer_of listed))
    (c.in_ok-open_list.ensures.engine ∙ ap (λ (x : Place). with_open_call (call_of n.definition n.name x) v) placed)))
    {to = λ t. Unit {0}} (record {
      moves = tt;
      ready = record {
        ready = c.requires.taken.ready;
        follows = ap (λ (x : Held). (x.pending).may_follow) after;
        file = ap (λ (x : Held). (x.pending).file) after;
      };
      limits = search rules;
      made = tt;
    })

-- the limits allow no call
pub returns-then-not-allows_call-clause-begins : goal.returns-then-not-allows_call-clause-begins
returns-then-not-allows_call-clause-begins c = λ i w.
    subst (λ (r : Result Turned TurnFault). Turns r c.args.self.now c.refuse_call.new.self i c.args.input.now) c.in_ok-refuse_call.was
    (c.refuse_call.ensures.turns i c.args.listed (record {
      len = w.len;
      first = w.first;
      named = w.named;
      called = (c.args.next.now.definition, w.called.0, search rules);
      after = w.after;
    }))

-- there is no memory for one more call: the call was counted
pub returns-in_err-open_list-clause-kept : goal.returns-in_err-open_list-clause-kept
returns-in_err-open_list-clause-kept c = at_error c.from_residual-in_err-open_list.result
    (subst (λ (x : List ℕ). HasFront x c.open_list.new.self.output) (ap (λ (d : Engine). d.output) c.count.ensures) c.in_err-open_list.ensures.kept)
