-- Turning: a turn is what the token at the front makes of it, whatever follows the bytes in hand.
use Rattle.std.proofs.Common.{◌≡◌, inl, inr, ℕ, Bool, List, take, drop, Some, None, refl, sym, ap}
use Rattle.std.proofs.Common.{◌∙◌, subst}
use Rattle.std.specs.Prelude.{Result, Ok, Err, IfOk}
use Rattle.m4_state.specs.declared.definition.Def.{Def}
use Rattle.m4_state.specs.State.{top_of}
use Rattle.m4_input.specs.declared.front.Answer.TheVariants.{Unknown}
use Rattle.m4_input.specs.declared.front.Scan.TheVariants.{Found, Broken, NeedsMore}
use Rattle.m4_input.specs.declared.front.Unended.{Unended}
use Rattle.m4_input.specs.declared.token.Token.{Token}
use Rattle.m4_input.specs.declared.token.Token.TheVariants.{Name, End}
use Rattle.m4_input.specs.Pending.{Pending, text_of, line_of, name_of, consumed}
use Rattle.m4_input.specs.Token.{scan, Taken, Refused, front_by, front_from, token_at}
use Rattle.m4_input.specs.Paren.{paren_in}
use Rattle.m4_input.specs.Input.{Held, longer}
use Rattle.m4_input.proofs.Decided.{scan_open, paren_open}
use Rattle.m4_builtins.specs.declared.place.Place.{Place}
use Rattle.m4_builtins.proofs.Cases.{or_empty}
use Rattle.m4_builtins.specs.Messages.{error}
use Rattle.m4_engine.specs.declared.turned.Turned.{Turned}
use Rattle.m4_builtins.specs.declared.fault.BuiltinFault.{BuiltinFault as TurnFault}
use Rattle.m4_engine.specs.declared.turned.Turned.TheVariants as turns
use Rattle.m4_engine.specs.Nesting.{Halted}
use Rattle.m4_engine.specs.OpenCalls.{Stops}
use Rattle.m4_engine.specs.Expansion.{Call, Ends, place_at}
use Rattle.m4_engine.specs.Expand.{take_call, take_end, take_name, take_token, take_front, call_of, unended_text}
use Rattle.m4_engine.specs.Expand.{unended_cause}
use Rattle.m4_engine.specs.Engine.{Engine, so_far_of, mode_of, outer_of, here_of, configuration, with_engine_message}
use Rattle.m4_engine.specs.Engine.{IsReady}
use Rattle.m4_engine.specs.Plain.{IsUndecided}
use Rattle.m4_engine.specs.Turns.{step, moved, MayFollow, Extended, Moves, Makes, Steps, Turns, Needs}
use Rattle.m4_engine.proofs.Acts.{result_by, turned_steps, turned_makes}
use Rattle.m4_engine.proofs.Calling.{failed_at}
use Rattle.m4_engine.proofs.Longer.{found_longer, broken_longer}
use Rattle.m4_engine.proofs.Named.{place_of_file}
use Rattle.m4_engine.proofs.Seen.{list_there}

-- what has no end
pub unended_moves : (e e1 : Engine) (what w : Unended) (line : ℕ) (at : Place) (p before : Pending) (o m : List ℕ)
    → what ≡ w → at.file ≡ name_of p → at.line ≡ line → before.file ≡ p.file
    → e1 ≡ with_engine_message (error at (unended_text w)) e
    → step (outer_of e.open_calls) (take_front (Refused what line) (here_of o m e before))
    ≡ Stops (Halted (record { so_far = so_far_of o m e1; reason = Ends (unended_cause w) }))
unended_moves e e1 what w line at p before o m h i l f g =
    let j : at ≡ record { file = or_empty before.file; line = line } = place_of_file at before p line i l f in
    ap (λ (x : Unended). step (outer_of e.open_calls) (take_front (Refused x line) (here_of o m e before))) h
    ∙ failed_at o m e e1 before (record { file = or_empty before.file; line = line }) (unended_text w) (unended_cause w)
    (outer_of e.open_calls) (g ∙ ap (λ (x : Place). with_engine_message (error x (unended_text w)) e) j)

-- a turn that takes a token
pub turn_taken : (e e1 : Engine) (t : Token) (p q p' : Pending) (r : Result Turned TurnFault)
    → ((z : List ℕ) (more : Bool) → MayFollow p.may_follow z more
    → token_at (e.state).quotes (e.state).comments (longer z more p) ≡ Taken t (longer z more q))
    → IfOk r (λ u. Moves p.may_follow e1 p' u
    (λ z more o m. step (outer_of e.open_calls) (take_token t (longer z more q) (here_of o m e (longer z more p)))))
    → IfOk r (λ u. Moves p.may_follow e1 p' u (λ z more o m. moved (configuration o m e (longer z more p))))
turn_taken e e1 t p q p' r front k =
    result_by p.may_follow e1 p' r _ _ (λ z more c o m.
    ap (λ v. step (outer_of e.open_calls) (take_front v (here_of o m e (longer z more p)))) (front z more c)) k

-- a token of so many bytes
pub turn_found : (e e1 : Engine) (t : Token) (n : ℕ) (p q p' : Pending) (r : Result Turned TurnFault)
    → p.definition ≡ None → scan (e.state).quotes (e.state).comments p.may_follow (text_of p) ≡ Found t n
    → q ≡ consumed n p
    → IfOk r (λ u. Moves p.may_follow e1 p' u
    (λ z more o m. step (outer_of e.open_calls) (take_token t (longer z more q) (here_of o m e (longer z more p)))))
    → IfOk r (λ u. Moves p.may_follow e1 p' u (λ z more o m. moved (configuration o m e (longer z more p))))
turn_found e e1 t n p q p' r d s g k =
    turn_taken e e1 t p q p' r (λ z more c. found_longer (e.state).quotes (e.state).comments p t n z more d s c
    ∙ ap (λ (x : Pending). Taken t (longer z more x)) (sym g)) k

-- a turn that meets what has no end
pub turn_unended : (e e1 : Engine) (what : Unended) (line : ℕ) (p p1 p' : Pending) (r : Result Turned TurnFault)
    → p.definition ≡ None → scan (e.state).quotes (e.state).comments p.may_follow (text_of p) ≡ Broken what
    → line ≡ line_of p → p1.file ≡ p.file
    → IfOk r (λ u. (may : Bool) (q : Pending) (before : Extended)
    → ((z : List ℕ) (more : Bool) → (before z more).file ≡ p1.file)
    → Moves may e1 q u (λ z more o m. step (outer_of e.open_calls)
    (take_front (Refused what line) (here_of o m e (before z more)))))
    → IfOk r (λ u. Moves p.may_follow e1 p' u (λ z more o m. moved (configuration o m e (longer z more p))))
turn_unended e e1 what line p p1 p' (Ok u) d s i g k =
    result_by p.may_follow e1 p' (Ok u) _ _ (λ z more c o m. ap (λ v. step (outer_of e.open_calls) (take_front v (here_of o m e (longer z more p))))
    (broken_longer (e.state).quotes (e.state).comments p what z more d s c ∙ ap (Refused what) (sym i)))
    (k p.may_follow p' (λ z more. longer z more p) (λ z more. sym g))
turn_unended e e1 what line p p1 p' (Err x) d s i g k = tt

-- the bytes in hand don't decide the token
pub token_undecided : (e : Engine) (i : Held) → (i.pending).definition ≡ None
    → scan (e.state).quotes (e.state).comments (i.pending).may_follow (text_of i.pending) ≡ NeedsMore → Needs e e i i
token_undecided e i d s = record {
  engine = refl;
  input = refl;
  follows = scan_open (e.state).quotes (e.state).comments (i.pending).may_follow (text_of i.pending) s;
  undecided = λ o m.
      ap (λ v. step (outer_of e.open_calls) (take_front v (here_of o m e i.pending)))
      (ap (λ x. front_from x (e.state).quotes (e.state).comments i.pending) d ∙ ap (front_by i.pending) s);
}

-- they don't decide whether a list follows a name that has a definition
pub list_undecided : (e : Engine) (i : Held) (d : Def) (name : List ℕ) (n : ℕ) → (i.pending).definition ≡ None
    → scan (e.state).quotes (e.state).comments (i.pending).may_follow (text_of i.pending) ≡ Found (Name name) n
    → top_of e.state name ≡ Some d
    → paren_in (e.state).quotes (e.state).comments (i.pending).may_follow (drop n (text_of i.pending)) ≡ Unknown
    → Needs e e i i
list_undecided e i d name n f s t u = record {
  engine = refl;
  input = refl;
  follows = paren_open (e.state).quotes (e.state).comments (i.pending).may_follow (drop n (text_of i.pending)) u;
  undecided = λ o m.
      let p : Pending = i.pending in
      let q : Pending = consumed n p in
      let front : token_at (e.state).quotes (e.state).comments p ≡ Taken (Name name) q =
      ap (λ x. front_from x (e.state).quotes (e.state).comments p) f ∙ ap (front_by p) s in
      let c : Call = call_of d name (place_at p) in
      ap (λ v. step (outer_of e.open_calls) (take_front v (here_of o m e p))) front
      ∙ ap (λ v. step (outer_of e.open_calls) (take_name v name q (here_of o m e p))) t
      ∙ ap (λ v. step (outer_of e.open_calls) (take_call v c q (here_of o m e p))) (list_there (e.state).quotes (e.state).comments p q n Unknown refl u);
}

-- ---- whole turns

-- a token of so many bytes was consumed, and a step acted on it
pub found_steps : (e e1 : Engine) (t : Token) (n : ℕ) (i k j : Held) (r : Result Turned TurnFault)
    → (i.pending).definition ≡ None
    → scan (e.state).quotes (e.state).comments (i.pending).may_follow (text_of i.pending) ≡ Found t n
    → k ≡ record i { pending = consumed n i.pending }
    → IfOk r (λ u. Moves (i.pending).may_follow e1 j.pending u
    (λ z more o m. step (outer_of e.open_calls)
    (take_token t (longer z more k.pending) (here_of o m e (longer z more i.pending))))) → {to : Turned → Type 0}
    → Steps r e e1 k j to → Turns r e e1 i j
found_steps e e1 t n i k j r d s g m st =
    turned_steps e e1 i k j r (ap (λ (h : Held). (h.pending).may_follow) g) (ap (λ (h : Held). (h.pending).file) g)
    (turn_found e e1 t n i.pending k.pending j.pending r d s (ap (λ (h : Held). h.pending) g) m) refl st

-- the same by the flag of the input after the token
pub found_steps_at : (e e1 : Engine) (t : Token) (n : ℕ) (i k j : Held) (r : Result Turned TurnFault)
    → (i.pending).definition ≡ None
    → scan (e.state).quotes (e.state).comments (i.pending).may_follow (text_of i.pending) ≡ Found t n
    → k ≡ record i { pending = consumed n i.pending }
    → IfOk r (λ u. Moves (k.pending).may_follow e1 j.pending u
    (λ z more o m. step (outer_of e.open_calls)
    (take_token t (longer z more k.pending) (here_of o m e (longer z more i.pending))))) → {to : Turned → Type 0}
    → Steps r e e1 k j to → Turns r e e1 i j
found_steps_at e e1 t n i k j r d s g m st =
    found_steps e e1 t n i k j r d s g (subst
    (λ (v : Bool). IfOk r (λ u. Moves v e1 j.pending u
    (λ z more o m. step (outer_of e.open_calls)
    (take_token t (longer z more k.pending) (here_of o m e (longer z more i.pending))))))
    (ap (λ (h : Held). (h.pending).may_follow) g) m) st

-- the end of the input
pub end_turn : (e e1 : Engine) (n : ℕ) (i : Held) (r : Result Turned TurnFault) → IsReady i
    → (i.pending).definition ≡ None
    → scan (e.state).quotes (e.state).comments (i.pending).may_follow (text_of i.pending) ≡ Found End n
    → Makes r e e1 (λ t. (may : Bool) (p : Pending) (before : Extended)
    → Moves may e1 p t (λ z more o m. step (outer_of e.open_calls)
    (take_end (mode_of e.open_calls) (here_of o m e (before z more))))) → Turns r e e1 i i
end_turn e e1 n i r q d s k = turned_makes e e1 i r q (turn_found e e1 End n i.pending (consumed n i.pending) i.pending r d s refl (at_it r k.moves)) k
  where
    at_it : (r : Result Turned TurnFault)
        → IfOk r (λ t. (may : Bool) (p : Pending) (before : Extended)
        → Moves may e1 p t (λ z more o m. step (outer_of e.open_calls)
        (take_end (mode_of e.open_calls) (here_of o m e (before z more)))))
        → IfOk r (λ t. Moves (i.pending).may_follow e1 i.pending t
        (λ z more o m. step (outer_of e.open_calls)
        (take_token End (longer z more (consumed n i.pending)) (here_of o m e (longer z more i.pending)))))
    at_it (Ok t) h = h (i.pending).may_follow i.pending (λ z more. longer z more i.pending)
    at_it (Err x) h = tt

-- a string or a comment without an end
pub broken_turn : (e e1 : Engine) (what : Unended) (line : ℕ) (i : Held) (r : Result Turned TurnFault) → IsReady i
    → (i.pending).definition ≡ None
    → scan (e.state).quotes (e.state).comments (i.pending).may_follow (text_of i.pending) ≡ Broken what
    → line ≡ line_of i.pending
    → Makes r e e1 (λ t. (may : Bool) (p : Pending) (before : Extended)
    → ((z : List ℕ) (more : Bool) → (before z more).file ≡ (i.pending).file)
    → Moves may e1 p t (λ z more o m. step (outer_of e.open_calls)
    (take_front (Refused what line) (here_of o m e (before z more))))) → Turns r e e1 i i
broken_turn e e1 what line i r q d s l k =
    turned_makes e e1 i r q (turn_unended e e1 what line i.pending i.pending i.pending r d s l refl k.moves) k

-- more bytes are needed
needs_turn : (e : Engine) (i : Held) → IsReady i → Needs e e i i → Turns (Ok turns.NeedsMore) e e i i
needs_turn e i r n = record { moves = tt; ready = record { ready = r; follows = refl; file = refl }; limits = refl; made = n }

-- the bytes in hand don't decide the token, or whether a list follows
pub undecided_turn : (e : Engine) (i : Held) → IsReady i → (i.pending).definition ≡ None
    → IsUndecided e.state (i.pending).may_follow (text_of i.pending) → Turns (Ok turns.NeedsMore) e e i i
undecided_turn e i r d (inl s) = needs_turn e i r (token_undecided e i d s)
undecided_turn e i r d (inr s) = needs_turn e i r (list_undecided e i s.1 (take s.0 (text_of i.pending)) s.0 d s.2 s.3 s.4)
