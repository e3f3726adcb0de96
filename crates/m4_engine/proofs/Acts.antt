-- Acts: what a call leaves is what the definitions' move leaves.
use Rattle.std.proofs.Common.{◌≡◌, Bool, true, false, Some, None, ◌++◌, length, ℕ, List, [], ◌∷◌, refl, sym, ap, ◌∙◌, subst}
use Rattle.std.proofs.Common.{append-nil, append_assoc}
use Rattle.m4_state.specs.State.{State}
use Rattle.m4_input.specs.Pending.{Pending, text_of, line_length}
use Rattle.m4_input.specs.Input.{Held, longer}
use Rattle.m4_builtins.specs.Act.{Acted, act}
use Rattle.m4_builtins.specs.declared.effect.Effect.{Effect}
use Rattle.std.specs.Prelude.{◌≢◌, Result, Ok, Err, IfOk, OnOk}
use Rattle.m4_engine.specs.declared.turned.Turned.{Turned}
use Rattle.m4_builtins.specs.declared.fault.BuiltinFault.{BuiltinFault as TurnFault}
use Rattle.m4_engine.specs.declared.turned.Turned.TheVariants as turns
use Rattle.m4_engine.specs.declared.turned.TurnEnd.{TurnEnd}
use Rattle.m4_engine.specs.declared.role.Role.{Role}
use Rattle.m4_engine.specs.declared.role.Role.TheVariants.{Closing}
use Rattle.m4_engine.specs.Args.{dropped_if_any, with_argument, end_argument, role_of, take_byte, take_closing}
use Rattle.m4_engine.specs.declared.ending.Cause.TheVariants as causes
use Rattle.m4_engine.specs.Expansion.{RunSoFar, Ends}
use Rattle.m4_engine.specs.Nesting.{Turn, Halted, Close, Outcome, Closed}
use Rattle.m4_engine.specs.OpenCalls.{Stops, Stacked, Move, Goes, pop}
use Rattle.m4_engine.specs.Expansion.{Call, Limits, Expansion, Kept, Ended, reading}
use Rattle.m4_engine.specs.Expand.{turn, join, effected, skip_line, with_saved, with_value, with_acted}
use Rattle.m4_engine.specs.Expand.{take_other}
use Rattle.m4_engine.specs.Engine.{Engine, so_far_of, mode_of, kept_in, outer_of, here_of, configuration, begun_in}
use Rattle.m4_engine.specs.Engine.{with_made, ending_in, ending_argument, with_open_call}
use Rattle.m4_engine.specs.Engine.{IsReady}
use Rattle.m4_engine.specs.Turns.{called_within, cause_of_end, close_in, step, moved, Makes, IsGiven, IsMade, IsTaken, StaysBy, Steps, StepsBy}
use Rattle.m4_engine.specs.Turns.{Turns, IsTurned, MayFollow, Moving, Extended, line_move, Moves, Stays}
use Rattle.m4_engine.proofs.Cases.{skip_or_push, mode_after_call}
use Rattle.m4_engine.proofs.Inputs.{unpushed}

-- the state of an expansion after a call with these effects
abbrev after : Acted → List ℕ → List ℕ → Engine → Pending → Expansion
after a o m e p = record {
  limits = e.limits;
  so_far = with_acted a (so_far_of o m e);
  pending = p;
  open_calls = length e.open_calls;
  mode = mode_after_call (mode_of e.open_calls);
}

abbrev popped : List Call → Outcome Expansion Ended → Move Expansion Kept Ended
popped cs v = pop Expansion Kept Ended turn join (outer_of cs) v

-- the call is a token of the argument around it
around : (a : Acted) (o m : List ℕ) (limits : Limits) (s : State) (saved : List (List ℕ)) (n : ℕ) (cs : List Call)
    (output messages : List ℕ) (p p' : Pending)
    → let e : Engine = record {
      limits = limits;
      state = s;
      saved = saved;
      calls = n;
      open_calls = cs;
      output = output;
      messages = messages;
    } in let c : Stacked Expansion Kept =
    record { outer = outer_of cs; here = reading p' (after a o m e p) } in c
    ≡ configuration o m
    (with_made (a.effect).messages (a.effect).output (a.effect).wrap (record e { state = a.state })) p'
around a o m limits s saved n [] output messages p p' = rw (append_assoc o output (a.effect).output, append_assoc m messages (a.effect).messages) refl
around a o m limits s saved n (c ∷ cs) output messages p p' = rw (append_assoc o output (a.effect).output, append_assoc m messages (a.effect).messages) refl

abbrev effect_at : Acted → List ℕ → List ℕ → Engine → Pending → Outcome Expansion Ended
effect_at a o m e p = effected (a.effect).exit (a.effect).skip (a.effect).push (after a o m e p)

called_is : (e : Engine) (c : Call) (a : Acted) (p : Pending) (o m : List ℕ)
    → act c.definition c.name c.done c.place e.state ≡ a
    → called_within e.open_calls c (here_of o m e p) ≡ popped e.open_calls (effect_at a o m e p)
called_is e c a p o m h = ap (λ (a : Acted). popped e.open_calls (effect_at a o m e p)) h

-- what a call made was added, and then the argument around it begun
pub made_and_begun : (e : Engine) (s : State) (v : Effect) (messages output : List ℕ) (saved : List (List ℕ))
    → messages ≡ e.messages ++ v.messages → output ≡ e.output ++ v.output → saved ≡ with_saved v.wrap e.saved
    → with_made [] [] None (record e { state = s; messages = messages; output = output; saved = saved })
    ≡ with_made v.messages v.output v.wrap (record e { state = s })
made_and_begun e s v messages output saved h i j =
    ap (λ (x : List ℕ). let d : Engine =
    record e {
      state = s;
      output = x;
      messages = messages ++ [];
      saved = saved;
      open_calls = begun_in e.open_calls;
    } in d) (append-nil output ∙ i)
    ∙ ap (λ (x : List ℕ). let d : Engine =
    record e {
      state = s;
      output = e.output ++ v.output;
      messages = x;
      saved = saved;
      open_calls = begun_in e.open_calls;
    } in d) (append-nil messages ∙ h)
    ∙ ap (λ (x : List (List ℕ)). let d : Engine =
    record e {
      state = s;
      output = e.output ++ v.output;
      messages = e.messages ++ v.messages;
      saved = x;
      open_calls = begun_in e.open_calls;
    } in d) j

-- the same of a call that was the innermost
pub made_closed : (old e new : Engine) (c : Call) (s : State) (v : Effect) (cs : List Call) (messages output : List ℕ)
    (saved : List (List ℕ)) → old ≡ with_open_call c e → cs ≡ e.open_calls
    → messages ≡ old.messages ++ v.messages → output ≡ old.output ++ v.output → saved ≡ with_saved v.wrap old.saved
    → new ≡ with_made [] [] None (record old { state = s; open_calls = cs; messages = messages; output = output; saved = saved })
    → new ≡ with_made v.messages v.output v.wrap (record e { state = s })
made_closed old e new c s v cs messages output saved h k f g i n =
    n
    ∙ ap (λ (x : Engine). with_made [] [] None
    (let d : Engine = record x { state = s; open_calls = cs; messages = messages; output = output; saved = saved } in d)) h
    ∙ ap (λ (x : List Call). with_made [] [] None
    (let d : Engine = record e { state = s; open_calls = x; messages = messages; output = output; saved = saved } in d)) k
    ∙ made_and_begun e s v messages output saved
    (f ∙ ap (λ (x : Engine). x.messages ++ v.messages) h)
    (g ∙ ap (λ (x : Engine). x.output ++ v.output) h)
    (i ∙ ap (λ (x : Engine). with_saved v.wrap x.saved) h)

-- a call after which the expansion continues
pub called_goes : (e e1 : Engine) (c : Call) (a : Acted) (p p' : Pending)
    → act c.definition c.name c.done c.place e.state ≡ a → (a.effect).exit ≡ None → (a.effect).skip ≡ false
    → e1 ≡ with_made (a.effect).messages (a.effect).output (a.effect).wrap (record e { state = a.state })
    → with_value (a.effect).push p ≡ p' → (o m : List ℕ)
    → called_within e.open_calls c (here_of o m e p) ≡ Goes (configuration o m e1 p')
called_goes e e1 c a p p' h x k i r o m =
    called_is e c a p o m h
    ∙ ap (λ v. popped e.open_calls (effected v (a.effect).skip (a.effect).push (after a o m e p))) x
    ∙ ap (λ v. popped e.open_calls (skip_or_push v (a.effect).push (after a o m e p))) k
    ∙ ap (λ (q : Pending). popped e.open_calls (Closed (reading q (after a o m e p)))) r
    ∙ ap Goes (around a o m e.limits e.state e.saved e.calls e.open_calls e.output e.messages p p' ∙ ap (λ (d : Engine). configuration o m d p') (sym i))

-- a call that discards the rest of the line
pub called_skips : (e e1 : Engine) (c : Call) (a : Acted) (p : Pending)
    → act c.definition c.name c.done c.place e.state ≡ a → (a.effect).exit ≡ None → (a.effect).skip ≡ true
    → e1 ≡ with_made (a.effect).messages (a.effect).output (a.effect).wrap (record e { state = a.state })
    → (o m : List ℕ) → called_within e.open_calls c (here_of o m e p) ≡ line_move e1.open_calls (here_of o m e1 p)
called_skips e e1 c a p h x k i o m =
    called_is e c a p o m h
    ∙ ap (λ v. popped e.open_calls (effected v (a.effect).skip (a.effect).push (after a o m e p))) x
    ∙ ap (λ v. popped e.open_calls (skip_or_push v (a.effect).push (after a o m e p))) k
    ∙ ap (λ (s : Stacked Expansion Kept). pop Expansion Kept Ended turn join s.outer (skip_line (line_length (text_of (s.here).pending)) s.here))
    (around a o m e.limits e.state e.saved e.calls e.open_calls e.output e.messages p p)
    ∙ ap (λ (d : Engine). line_move d.open_calls (here_of o m d p)) (sym i)

-- a call that ends the run
pub called_exits : (e e1 : Engine) (c : Call) (a : Acted) (p : Pending) (code : ℕ)
    → act c.definition c.name c.done c.place e.state ≡ a → (a.effect).exit ≡ Some code
    → e1 ≡ with_made (a.effect).messages (a.effect).output (a.effect).wrap (record e { state = a.state })
    → (o m : List ℕ)
    → called_within e.open_calls c (here_of o m e p)
    ≡ Stops (Halted (record { so_far = so_far_of o m e1; reason = Ends (causes.Exited code) }))
called_exits e e1 c a p code h x i o m =
    called_is e c a p o m h
    ∙ ap (λ v. popped e.open_calls (effected v (a.effect).skip (a.effect).push (after a o m e p))) x
    ∙ ap (λ (r : RunSoFar). Stops (Halted (let d : Ended = record { so_far = r; reason = Ends (causes.Exited code) } in d)))
    (ap (λ (k : Stacked Expansion Kept). (k.here).so_far)
    (around a o m e.limits e.state e.saved e.calls e.open_calls e.output e.messages p p)
    ∙ ap (λ (d : Engine). so_far_of o m d) (sym i))

-- a call that was made, and whose effect was given, as its move
pub given_steps : (e e1 : Engine) (c : Call) (a : Acted) (i j : Held) (t : Turned)
    → act c.definition c.name c.done c.place e.state ≡ a
    → e1 ≡ with_made (a.effect).messages (a.effect).output (a.effect).wrap (record e { state = a.state })
    → IsTaken i → IsGiven t a.effect i j → StepsBy (Ok t) e e1 i j (called_within e.open_calls c)
given_steps e e1 c a i j turns.GoesOn h m k g = record {
  moves = λ z more u o l. called_goes e e1 c a (longer z more i.pending) (longer z more j.pending) h g.0 g.1 m (g.2 z more) o l;
  ready = g.3;
  limits = ap (λ (x : Engine). x.limits) m;
  made = tt;
}
given_steps e e1 c a i j turns.SkipsLine h m k g = record {
  moves = λ z more u o l.
      subst (λ (x : Held). called_within e.open_calls c (here_of o l e (longer z more i.pending))
      ≡ line_move e1.open_calls (here_of o l e1 (longer z more x.pending))) (sym g.2)
      (called_skips e e1 c a (longer z more i.pending) h g.0 g.1 m o l);
  ready = subst (Stays i) (sym g.2) (unpushed i k).1;
  limits = ap (λ (x : Engine). x.limits) m;
  made = tt;
}
given_steps e e1 c a i j turns.NeedsMore h m k g = absurd g
given_steps e e1 c a i j (turns.Ends end) h m k g = record {
  moves = λ z more u o l.
      called_exits e e1 c a (longer z more i.pending) g.0 h g.2 m o l
      ∙ ap (λ (x : TurnEnd). let d : Ended = record { so_far = so_far_of o l e1; reason = Ends (cause_of_end x) } in Stops (Halted d)) (sym g.1);
  ready = tt;
  limits = ap (λ (x : Engine). x.limits) m;
  made = tt;
}

abbrev head_or : Call → List Call → Call
head_or c [] = c
head_or c (d ∷ ds) = d

abbrev tail_of : List Call → List Call
tail_of [] = []
tail_of (d ∷ ds) = ds

abbrev without_innermost : Engine → Engine
without_innermost e = record e { open_calls = tail_of e.open_calls }

-- the innermost call is made where its list is closed
joined_is : (d : Call) (ds : List Call) (o m : List ℕ) (e : Engine) (p : Pending) (s : Expansion)
    → s ≡ here_of o m e p
    → step (kept_in ds ∷ outer_of ds) (Close (end_argument d s))
    ≡ called_within ds (with_argument d)
    (here_of o m (record e { messages = e.messages ++ dropped_if_any d.place d.bytes d.tokens; open_calls = ds })
    p)
joined_is d ds o m e p s h = ap (λ (s : Expansion). step (kept_in ds ∷ outer_of ds) (Close (end_argument d s))) h
    ∙ (rw (append_assoc m e.messages (dropped_if_any d.place d.bytes d.tokens)) refl)

closing_in : (cs : List Call) (e e2 : Engine) (c : Call) (p : Pending) → ending_in cs e ≡ with_open_call c e2
    → e.open_calls ≡ cs → (o m : List ℕ)
    → step (outer_of cs) (close_in cs (here_of o m e p)) ≡ called_within e2.open_calls c (here_of o m e2 p)
closing_in [] e e2 c p h i o m =
    let f : [] ≡ c ∷ e2.open_calls = sym i ∙ ap (λ (x : Engine). x.open_calls) h in
    cc
closing_in (d ∷ ds) e e2 c p h i o m =
    let f : with_argument d ≡ c = ap (λ (x : Engine). head_or c x.open_calls) h in
    let e1 : Engine = record e { messages = e.messages ++ dropped_if_any d.place d.bytes d.tokens; open_calls = ds } in
    let g : e1 ≡ e2 = ap without_innermost h in
    joined_is d ds o m e p (here_of o m e p) refl
    ∙ ap (λ (x : Call). called_within ds x (here_of o m e1 p)) f
    ∙ ap (λ (x : Engine). called_within x.open_calls c (here_of o m x p)) g

pub moves_by : (may : Bool) (e : Engine) (p : Pending) (t : Turned) (f g : Moving)
    → ((z : List ℕ) (more : Bool) → MayFollow may z more → (o m : List ℕ) → g z more o m ≡ f z more o m)
    → Moves may e p t f → Moves may e p t g
moves_by may e p turns.GoesOn f g h k = λ z more c o m. h z more c o m ∙ k z more c o m
moves_by may e p turns.SkipsLine f g h k = λ z more c o m. h z more c o m ∙ k z more c o m
moves_by may e p turns.NeedsMore f g h k = tt
moves_by may e p (turns.Ends cause) f g h k = λ z more c o m. h z more c o m ∙ k z more c o m

-- the same of an answer
pub result_by : (may : Bool) (e : Engine) (p : Pending) (r : Result Turned TurnFault) (f g : Moving)
    → ((z : List ℕ) (more : Bool) → MayFollow may z more → (o m : List ℕ) → g z more o m ≡ f z more o m)
    → IfOk r (λ t. Moves may e p t f) → IfOk r (λ t. Moves may e p t g)
result_by may e p (Ok t) f g h k = moves_by may e p t f g h k
result_by may e p (Err x) f g h k = tt

pub closing_result : (may : Bool) (e e2 e3 : Engine) (c : Call) (p : Extended) (p' : Pending)
    (r : Result Turned TurnFault) → ending_argument e ≡ with_open_call c e2
    → IfOk r (λ t. Moves may e3 p' t (λ z more o m. called_within e2.open_calls c (here_of o m e2 (p z more))))
    → IfOk r (λ t. Moves may e3 p' t
    (λ z more o m. step (outer_of e.open_calls) (close_in e.open_calls (here_of o m e (p z more)))))
closing_result may e e2 e3 c p p' r h k = result_by may e3 p' r _ _ (λ z more w o m. closing_in e.open_calls e e2 c (p z more) h refl o m) k

-- a byte that closes the innermost list
pub closed_by : (cs : List Call) (d : Call) (ds : List Call) (b : ℕ) (s : Expansion) → cs ≡ d ∷ ds → role_of b d ≡ Closing
    → d.parentheses ≡ 0 → take_other (mode_of cs) b s ≡ close_in cs s
closed_by cs d ds b s i h n =
    ap (λ (x : List Call). take_other (mode_of x) b s) i
    ∙ ap (λ (r : Role). take_byte r b d s) h
    ∙ ap (λ (k : ℕ). take_closing k b d s) n
    ∙ sym (ap (λ (x : List Call). close_in x s) i)

pub closing_byte : (e e1 : Engine) (i j : Held) (r : Result Turned TurnFault) (d : Call) (ds : List Call) (b : ℕ)
    → e.open_calls ≡ d ∷ ds → role_of b d ≡ Closing → d.parentheses ≡ 0
    → StepsBy r e e1 i j (λ s. step (outer_of e.open_calls) (close_in e.open_calls s))
    → StepsBy r e e1 i j (λ s. step (outer_of e.open_calls) (take_other (mode_of e.open_calls) b s))
closing_byte e e1 i j r d ds b h k n s = record {
  moves = result_by (i.pending).may_follow e1 j.pending r _ _
      (λ z more u o m. ap (λ (v : Turn Expansion Kept Ended). step (outer_of e.open_calls) v)
      (closed_by e.open_calls d ds b (here_of o m e (longer z more i.pending)) h k n)) s.moves;
  ready = s.ready;
  limits = s.limits;
  made = s.made;
}

-- an argument ends, and leaves its call the innermost
pub ending_opens : (e : Engine) → e.open_calls ≢ []
    → (c : Call) × (e2 : Engine) × (ending_argument e ≡ with_open_call c e2) × (e2.limits ≡ e.limits)
ending_opens e n = by e.open_calls n
  where
    by : (cs : List Call) → cs ≢ [] → (c : Call) × (e2 : Engine) × (ending_in cs e ≡ with_open_call c e2) × (e2.limits ≡ e.limits)
    by [] n = absurd (n refl)
    by (d ∷ ds) n =
        (with_argument d, (let x : Engine = record e { messages = e.messages ++ dropped_if_any d.place d.bytes d.tokens; open_calls = ds } in x), refl, refl)

pub limits_by : (r : Result Turned TurnFault) (a b c : Limits) → OnOk r (a ≡ b) → b ≡ c → OnOk r (a ≡ c)
limits_by (Ok t) a b c h k = h ∙ k
limits_by (Err x) a b c h k = tt

-- a step is a turn, if the token before it was consumed
stays_back : (i k j : Held) (t : Turned) → (k.pending).may_follow ≡ (i.pending).may_follow → (k.pending).file ≡ (i.pending).file → StaysBy k j t → StaysBy i j t
stays_back i k j turns.GoesOn f g h = record { ready = h.ready; follows = h.follows ∙ f; file = h.file ∙ g }
stays_back i k j turns.SkipsLine f g h = record { ready = h.ready; follows = h.follows ∙ f; file = h.file ∙ g }
stays_back i k j turns.NeedsMore f g h = record { ready = h.ready; follows = h.follows ∙ f; file = h.file ∙ g }
stays_back i k j (turns.Ends cause) f g h = tt

made_turn : (e e1 : Engine) (i j : Held) (t : Turned) → IsMade t → IsTurned e e1 i j t
made_turn e e1 i j turns.GoesOn h = h
made_turn e e1 i j turns.SkipsLine h = h
made_turn e e1 i j turns.NeedsMore h = absurd h
made_turn e e1 i j (turns.Ends cause) h = h

pub turned_steps : (e e1 : Engine) (i k j : Held) (r : Result Turned TurnFault)
    → (k.pending).may_follow ≡ (i.pending).may_follow → (k.pending).file ≡ (i.pending).file
    → IfOk r (λ t. Moves (i.pending).may_follow e1 j.pending t
    (λ z more o m. moved (configuration o m e (longer z more i.pending)))) → {to : Turned → Type 0} {old : Engine}
    → old.limits ≡ e.limits → Steps r old e1 k j to → Turns r e e1 i j
turned_steps e e1 i k j (Ok t) f g h l s = record {
  moves = h;
  ready = stays_back i k j t f g s.ready;
  limits = s.limits ∙ l;
  made = made_turn e e1 i j t s.made;
}
turned_steps e e1 i k j (Err x) f g h l s = record { moves = tt; ready = tt; limits = tt; made = tt }

-- a turn that ends the expansion, or fails
stays_same : (i : Held) (t : Turned) → IsReady i → StaysBy i i t
stays_same i turns.GoesOn r = record { ready = r; follows = refl; file = refl }
stays_same i turns.SkipsLine r = record { ready = r; follows = refl; file = refl }
stays_same i turns.NeedsMore r = record { ready = r; follows = refl; file = refl }
stays_same i (turns.Ends cause) r = tt

pub turned_makes : (e e1 : Engine) (i : Held) (r : Result Turned TurnFault) → IsReady i
    → IfOk r (λ t. Moves (i.pending).may_follow e1 i.pending t
    (λ z more o m. moved (configuration o m e (longer z more i.pending)))) → {to : Turned → Type 0} → Makes r e e1 to
    → Turns r e e1 i i
turned_makes e e1 i (Ok t) r h m = record { moves = h; ready = stays_same i t r; limits = m.limits; made = made_turn e e1 i i t m.made }
turned_makes e e1 i (Err x) r h m = record { moves = tt; ready = tt; limits = tt; made = tt }
