use Rattle.std.proofs.Common.{◌≡◌, ◌∙◌, List, [], ℕ, None, Some, false, rules, refl, sym, ap, subst, take}
use Rattle.m4_state.specs.declared.definition.Def.TheVariants.{Text, Builtin}
use Rattle.m4_state.specs.declared.builtin.Builtin.TheVariants.{Dnl}
use Rattle.m4_input.specs.declared.pushed.Pushed.TheVariants as pushes
use Rattle.m4_input.specs.Pending.{text_of}
use Rattle.m4_input.specs.Input.{Held, longer}
use Rattle.m4_input.specs.declared.token.Token.TheVariants.{Name}
use Rattle.std.specs.Prelude.{Ok, Result}
use Rattle.m4_engine.specs.declared.role.ListEnd.TheVariants as ends
use Rattle.m4_engine.specs.declared.turned.Turned.{Turned}
use Rattle.m4_engine.specs.declared.turned.Turned.TheVariants as turns
use Rattle.m4_builtins.specs.declared.fault.BuiltinFault.{BuiltinFault as TurnFault}
use Rattle.m4_engine.specs.declared.lookahead.Lookahead.TheVariants as aheads
use Rattle.m4_engine.specs.Engine.{Engine, with_made}
use Rattle.m4_engine.specs.Turns.{Pushes, Turns, Stays}
use Rattle.m4_engine.proofs.Bare.{expanded_goes, text_goes}
use Rattle.m4_engine.proofs.Fronts.{at_error, front_same}
use Rattle.m4_engine.proofs.ListEnds.{closing_completes, end_inside}
use Rattle.m4_engine.proofs.Passing.{past, past_taken, seen_as}
use Rattle.m4_engine.proofs.Seen.{room_allows, name_there, expansion_moves, line_skips}
use Rattle.m4_engine.proofs.Turning.{found_steps_at}
use Rattle.m4_engine.proofs.machine.Machine.begin_turn.Goals as goal

-- the innermost call has no open parenthesis in its argument
pub end_argument-requires : goal.end_argument-requires
end_argument-requires c =
    let e = c.args.self.now in
    let k = c.args.input.now in
    let i = c.requires.seen.0 in
    let w = c.requires.seen.1 in
    let w = seen_as c.args.lookahead aheads.ClosesList c.args.next.now e i k c.in-ClosesList.is w in
    (end_inside ends.List e.open_calls e.state i.pending.may_follow (text_of i.pending) w.token.1.1).0

-- a parenthesis that closes a list
pub returns-in_ok-end_argument-in-ClosesList-clause-begins : goal.returns-in_ok-end_argument-in-ClosesList-clause-begins
returns-in_ok-end_argument-in-ClosesList-clause-begins c = λ i w.
    let e = c.args.self.now in
    let k = c.args.input.now in
    let w = seen_as c.args.lookahead aheads.ClosesList c.args.next.now e i k c.in-ClosesList.is w in
    closing_completes e c.end_argument.new.self i k w.token.0 w.token.1.1 (past_taken w.len i k w.ready w.after)
    (w.after ∙ ap (λ n. past n i) w.token.1.0) c.in_ok-end_argument-in-ClosesList.ensures.engine

text_same : (x y : List ℕ) → Text x ≡ Text y → x ≡ y
text_same x y e = cc

pub push_text-requires : goal.push_text-requires
push_text-requires c =
    let e = c.args.self.now in
    let k = c.args.input.now in
    let i = c.requires.seen.0 in
    let w = c.requires.seen.1 in
    let w = seen_as c.args.lookahead aheads.Expansion c.args.next.now e i k c.in-Expansion.is w in
    record { input = past_taken w.len i k w.ready w.after }

pub returns-in_ok-push_text-in-Expansion-clause-begins : goal.returns-in_ok-push_text-in-Expansion-clause-begins
returns-in_ok-push_text-in-Expansion-clause-begins c = λ i w.
    let e = c.args.self.now in
    let k = c.args.input.now in
    let w = seen_as c.args.lookahead aheads.Expansion c.args.next.now e i k c.in-Expansion.is w in
    let p = i.pending in
    let q = (past w.len i).pending in
    let r = c.push_text.new.input.pending in
    let name : List ℕ = take w.len (text_of p) in
    let counted = c.count.new.self in
    let new = c.begin_argument.new.self in
    let h = w.token in
    let text : List ℕ = h.1.1.0 in
    let same : c.in-Text.text ≡ text = text_same _ _ (sym c.in-Text.is ∙ c.definition.ensures.value ∙ h.1.1.3) in
    let room = room_allows e (search rules) in
    let made : new ≡ with_made [] [] None counted = c.begin_argument.ensures in
    let pushes : Pushes q r (Some (pushes.Text text)) = subst (λ (x : List ℕ). Pushes q r (Some (pushes.Text x))) same
    (subst (λ (v : Held). Pushes v.pending r (Some (pushes.Text c.in-Text.text))) w.after c.in_ok-push_text-in-Expansion.ensures.pushes) in
    found_steps_at e new (Name name) w.len i (past w.len i) c.push_text.new.input (Ok turns.GoesOn) h.0 (h.1.0).scanned refl
    (expansion_moves e new c.args.next.now name p q r (Ok turns.GoesOn) refl (name_there w.len false e.state p h.1.0) h.1.1
    (expanded_goes q.may_follow e counted new text (λ z more. longer z more q) r (Ok turns.GoesOn) room.0 room.1 c.count.ensures
    (λ a x d g. text_goes q.may_follow counted new a x text q r d g made pushes)))
    {to = λ t. Unit {0}} (record {
      moves = tt;
      ready = subst (λ (v : Held). Stays v c.push_text.new.input) w.after c.in_ok-push_text-in-Expansion.ensures.stays;
      limits = search rules;
      made = tt;
    })

pub returns-else-not-allows_call-2-clause-begins : goal.returns-else-not-allows_call-2-clause-begins
returns-else-not-allows_call-2-clause-begins c = λ i w.
    let e = c.args.self.now in
    let k = c.args.input.now in
    let w = seen_as c.args.lookahead aheads.LineSkip c.args.next.now e i k c.in-LineSkip.is w in
    let p = i.pending in
    let j : Held = past w.len i in
    let name : List ℕ = take w.len (text_of p) in
    let new = c.begin_argument-in-LineSkip.new.self in
    let h = w.token in
    let room = room_allows e (search rules) in
    subst (λ (v : Held). Turns (Ok turns.SkipsLine) e new i v) (sym w.after)
    (found_steps_at e new (Name name) w.len i j j (Ok turns.SkipsLine) h.0 (h.1.0).scanned refl
    (line_skips e new name p j.pending refl (name_there w.len false e.state p h.1.0) room.0 room.1
    (c.begin_argument-in-LineSkip.ensures ∙ ap (λ (x : Engine). with_made [] [] None x) c.count-in-LineSkip.ensures) h.1.1)
    {to = λ t. Unit {0}} (record {
      moves = tt;
      ready = record { ready = record { sound = (w.ready).sound; front = tt }; follows = refl; file = refl };
      limits = search rules;
      made = tt;
    }))

-- the limits allow no call
pub refuse_call-requires-clause-taken : goal.refuse_call-requires-clause-taken
refuse_call-requires-clause-taken c =
    let e = c.args.self.now in
    let k = c.args.input.now in
    let i = c.requires.seen.0 in
    let w = c.requires.seen.1 in
    let w = seen_as c.args.lookahead aheads.Expansion c.args.next.now e i k c.in-Expansion.is w in
    past_taken w.len i k w.ready w.after

pub refuse_call-requires-then-not-allows_call-2-clause-taken : goal.refuse_call-requires-then-not-allows_call-2-clause-taken
refuse_call-requires-then-not-allows_call-2-clause-taken c =
    let e = c.args.self.now in
    let k = c.args.input.now in
    let i = c.requires.seen.0 in
    let w = c.requires.seen.1 in
    let w = seen_as c.args.lookahead aheads.LineSkip c.args.next.now e i k c.in-LineSkip.is w in
    past_taken w.len i k w.ready w.after

pub returns-then-not-allows_call-clause-begins : goal.returns-then-not-allows_call-clause-begins
returns-then-not-allows_call-clause-begins c = λ i w.
    let e = c.args.self.now in
    let k = c.args.input.now in
    let w = seen_as c.args.lookahead aheads.Expansion c.args.next.now e i k c.in-Expansion.is w in
    let h = w.token in
    subst (λ (r : Result Turned TurnFault). Turns r e c.refuse_call.new.self i k) c.in_ok-refuse_call-in-Expansion.was
    (c.refuse_call.ensures.turns i false (record {
      len = w.len;
      first = h.0;
      named = h.1.0;
      called = (Text h.1.1.0, h.1.1.1, λ u. refl);
      after = w.after;
    }))

pub returns-then-not-allows_call-2-clause-begins : goal.returns-then-not-allows_call-2-clause-begins
returns-then-not-allows_call-2-clause-begins c = λ i w.
    let e = c.args.self.now in
    let k = c.args.input.now in
    let w = seen_as c.args.lookahead aheads.LineSkip c.args.next.now e i k c.in-LineSkip.is w in
    let h = w.token in
    subst (λ (r : Result Turned TurnFault). Turns r e c.refuse_call-then-not-allows_call-2.new.self i k)
    c.in_ok-refuse_call-in-LineSkip.was
    (c.refuse_call-then-not-allows_call-2.ensures.turns i false (record {
      len = w.len;
      first = h.0;
      named = h.1.0;
      called = (Builtin Dnl, h.1.1, λ u. refl);
      after = w.after;
    }))

pub begin_call-requires : goal.begin_call-requires
begin_call-requires c =
    let e = c.args.self.now in
    let k = c.args.input.now in
    let i = c.requires.seen.0 in
    let w = c.requires.seen.1 in
    let w = seen_as c.args.lookahead aheads.Call c.args.next.now e i k c.in-Call.is w in
    record { taken = past_taken w.len i k w.ready w.after }

pub begin_call-requires-in-List : goal.begin_call-requires-in-List
begin_call-requires-in-List c =
    let e = c.args.self.now in
    let k = c.args.input.now in
    let i = c.requires.seen.0 in
    let w = c.requires.seen.1 in
    let w = seen_as c.args.lookahead aheads.List c.args.next.now e i k c.in-List.is w in
    record { taken = past_taken w.len i k w.ready w.after }

pub returns-in-Call-clause-begins : goal.returns-in-Call-clause-begins
returns-in-Call-clause-begins c = λ i w.
    let e = c.args.self.now in
    let k = c.args.input.now in
    let w = seen_as c.args.lookahead aheads.Call c.args.next.now e i k c.in-Call.is w in
    let h = w.token in
    c.begin_call.ensures.begins i (record { len = w.len; first = h.0; named = h.1.0; called = h.1.1; after = w.after })

pub returns-in-List-clause-begins : goal.returns-in-List-clause-begins
returns-in-List-clause-begins c = λ i w.
    let e = c.args.self.now in
    let k = c.args.input.now in
    let w = seen_as c.args.lookahead aheads.List c.args.next.now e i k c.in-List.is w in
    let h = w.token in
    c.begin_call-in-List.ensures.begins i (record {
      len = h.1.0;
      first = h.0;
      named = h.1.2;
      called = h.1.3;
      after = w.after ∙ ap (λ n. past n i) h.1.1;
    })

-- there is no memory for the text: the call was counted
pub returns-in_err-push_text-in-Expansion-clause-kept : goal.returns-in_err-push_text-in-Expansion-clause-kept
returns-in_err-push_text-in-Expansion-clause-kept c = at_error c.from_residual-in_err-push_text-in-Expansion.result
    (front_same _ _ (ap (λ (d : Engine). d.output) c.count.ensures))
