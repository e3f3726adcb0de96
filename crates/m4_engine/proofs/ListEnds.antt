-- ListEnds: turns on a byte that ends an argument of the innermost call, or closes its list.
use Rattle.std.proofs.Common.{◌≡◌, ◌≢◌, ◌⊎◌, ◌∙◌, ℕ, Bool, true, false, List, [], ◌∷◌, None, inl, inr, refl, sym, ap, subst, append_assoc, take}
use Rattle.std.specs.Prelude.{Result, Ok, ◌==◌, ◌&&◌, not, if◌then◌else◌}
use Rattle.std.proofs.lemmas.Bool.{eqb-true}
use Rattle.m4_input.specs.Ascii.{newline, is_space}
use Rattle.m4_input.specs.declared.token.Token.TheVariants.{Byte}
use Rattle.m4_input.specs.Pending.{Pending, text_of, consumed, newlines_in}
use Rattle.m4_input.specs.Input.{Held, longer}
use Rattle.m4_input.proofs.Scanned.{byte_first}
use Rattle.m4_state.specs.State.{State}
use Rattle.m4_builtins.specs.declared.fault.BuiltinFault.{BuiltinFault as TurnFault}
use Rattle.m4_engine.specs.declared.role.Role.{Role}
use Rattle.m4_engine.specs.declared.role.Role.TheVariants.{Closing, Separator, Blank, Other}
use Rattle.m4_engine.specs.declared.role.ListEnd.{ListEnd}
use Rattle.m4_engine.specs.declared.role.ListEnd.TheVariants as ends
use Rattle.m4_engine.specs.declared.turned.Turned.{Turned}
use Rattle.m4_engine.specs.declared.turned.Turned.TheVariants as turns
use Rattle.m4_engine.specs.Args.{role_of, dropped_if_any, take_byte}
use Rattle.m4_engine.specs.Expansion.{Call}
use Rattle.m4_engine.specs.Expand.{take_other}
use Rattle.m4_engine.specs.OpenCalls.{Goes}
use Rattle.m4_engine.specs.Engine.{Engine, outer_of, mode_of, here_of, configuration, ending_in, ending_argument, IfHead, IsReady}
use Rattle.m4_engine.specs.Turns.{step, close_in, Completes, IsTaken, StepsBy, Turns}
use Rattle.m4_engine.specs.Lookahead.{IsEndByte, IsEndIn}
use Rattle.m4_engine.proofs.Acts.{closing_byte, closing_result, ending_opens, limits_by}
use Rattle.m4_engine.proofs.Seen.{byte_has_none}
use Rattle.m4_engine.proofs.Turning.{found_steps_at}

-- an argument ends in a list, in which no parenthesis of the argument is open
pub end_inside : (end : ListEnd) (cs : List Call) (s : State) (m : Bool) (x : List ℕ) → IsEndIn end cs s m x
    → IfHead cs (λ c. c.parentheses ≡ 0) × (cs ≢ [])
end_inside end [] s m x h = absurd h
end_inside ends.Argument (d ∷ ds) s m x h = ((h.ends).1, λ e. cc)
end_inside ends.List (d ∷ ds) s m x h = ((h.ends).1, λ e. cc)

newline_role : (d : Call) → (role_of newline d ≡ Blank) ⊎ (role_of newline d ≡ Other)
newline_role d = by d.begun refl
  where
    by : (v : Bool) → d.begun ≡ v → (role_of newline d ≡ Blank) ⊎ (role_of newline d ≡ Other)
    by true h = inr (ap (λ (b : Bool). if is_space newline && not b then Blank else Other) h)
    by false h = inl (ap (λ (b : Bool). if is_space newline && not b then Blank else Other) h)

-- a byte with another role is no newline
no_newline : (b : ℕ) (d : Call) → (role_of b d ≡ Blank → ⊥) → (role_of b d ≡ Other → ⊥) → (b == newline) ≡ false
no_newline b d f g = by (b == newline) refl
  where
    either : (role_of newline d ≡ Blank) ⊎ (role_of newline d ≡ Other) → newline ≡ b → ⊥
    either (inl h) e = f (subst (λ (a : ℕ). role_of a d ≡ Blank) e h)
    either (inr h) e = g (subst (λ (a : ℕ). role_of a d ≡ Other) e h)

    by : (v : Bool) → (b == newline) ≡ v → (b == newline) ≡ false
    by false h = h
    by true h = absurd (either (newline_role d) (sym (eqb-true b newline h)))

ends_lines : (end : ListEnd) (d : Call) (s : State) (m : Bool) (x : List ℕ) → (h : IsEndByte end d s m x) → (h.byte == newline) ≡ false
ends_lines ends.Argument d s m x h =
    no_newline h.byte d (λ e. let f : Separator ≡ Blank = sym (h.ends).0 ∙ e in cc) (λ e. let f : Separator ≡ Other = sym (h.ends).0 ∙ e in cc)
ends_lines ends.List d s m x h =
    no_newline h.byte d (λ e. let f : Closing ≡ Blank = sym (h.ends).0 ∙ e in cc) (λ e. let f : Closing ≡ Other = sym (h.ends).0 ∙ e in cc)

pub end_has_none : (end : ListEnd) (cs : List Call) (s : State) (m : Bool) (x : List ℕ) → IsEndIn end cs s m x → newlines_in (take 1 x) ≡ 0
end_has_none end [] s m x h = absurd h
end_has_none end (d ∷ ds) s m x h =
    byte_has_none h.byte x (byte_first s.quotes s.comments m x h.byte 1 h.scanned) (ends_lines end d s m x h)

-- a byte that ends an argument
argument_goes : (d : Call) (ds : List Call) (b : ℕ) (e : Engine) (p : Pending) (o m : List ℕ) → e.open_calls ≡ d ∷ ds
    → role_of b d ≡ Separator
    → step (outer_of e.open_calls) (take_other (mode_of e.open_calls) b (here_of o m e p)) ≡ Goes (configuration o m (ending_argument e) p)
argument_goes d ds b e p o m i h =
    let v : Engine = record e { open_calls = d ∷ ds } in
    let same : v ≡ e = ap (λ (cs : List Call). let x : Engine = record e { open_calls = cs } in x) (sym i) in
    subst (λ (x : Engine). step (outer_of x.open_calls) (take_other (mode_of x.open_calls) b (here_of o m x p))
    ≡ Goes (configuration o m (ending_argument x) p)) same
    (ap (λ (r : Role). step (outer_of (d ∷ ds)) (take_byte r b d (here_of o m v p))) h
    ∙ (rw (append_assoc m e.messages (dropped_if_any d.place d.bytes d.tokens)) refl))

ending_limits : (cs : List Call) (e : Engine) → (ending_in cs e).limits ≡ e.limits
ending_limits [] e = refl
ending_limits (d ∷ ds) e = refl

pub argument_turn : (e e1 : Engine) (i k : Held) → IsReady i → (i.pending).definition ≡ None
    → IsEndIn ends.Argument e.open_calls e.state (i.pending).may_follow (text_of i.pending)
    → k ≡ record i { pending = consumed 1 i.pending } → e1 ≡ ending_argument e → Turns (Ok turns.GoesOn) e e1 i k
argument_turn e e1 i k r f h g j = by e.open_calls refl h
  where
    ready : IsReady k
    ready = subst IsReady (sym g) (record { sound = r.sound; front = tt })

    by : (cs : List Call) → e.open_calls ≡ cs → IsEndIn ends.Argument cs e.state (i.pending).may_follow (text_of i.pending)
        → Turns (Ok turns.GoesOn) e e1 i k
    by [] c h = absurd h
    by (d ∷ ds) c h =
        found_steps_at e e1 (Byte h.byte) 1 i k k (Ok turns.GoesOn) f h.scanned g
        (λ z more y o m. argument_goes d ds h.byte e (longer z more k.pending) o m c (h.ends).0
        ∙ ap (λ (x : Engine). Goes (configuration o m x (longer z more k.pending))) (sym j))
        {to = λ t. Unit {0}}
        (record {
          moves = tt;
          ready = record { ready = ready; follows = refl; file = refl };
          limits = ap (λ (x : Engine). x.limits) j ∙ ending_limits e.open_calls e;
          made = tt;
        })

-- a byte that closes a list
pub closing_turn : (e e1 : Engine) (i k j : Held) (r : Result Turned TurnFault) → (i.pending).definition ≡ None
    → IsEndIn ends.List e.open_calls e.state (i.pending).may_follow (text_of i.pending)
    → k ≡ record i { pending = consumed 1 i.pending }
    → StepsBy r e e1 k j (λ s. step (outer_of e.open_calls) (close_in e.open_calls s)) → Turns r e e1 i j
closing_turn e e1 i k j r f h g s = by e.open_calls refl h
  where
    by : (cs : List Call) → e.open_calls ≡ cs → IsEndIn ends.List cs e.state (i.pending).may_follow (text_of i.pending) → Turns r e e1 i j
    by [] c h = absurd h
    by (d ∷ ds) c h =
        let t = closing_byte e e1 k j r d ds h.byte c (h.ends).0 (h.ends).1 s in
        found_steps_at e e1 (Byte h.byte) 1 i k j r f h.scanned g t.moves t

ending_output : (cs : List Call) (e : Engine) → (ending_in cs e).output ≡ e.output
ending_output [] e = refl
ending_output (d ∷ ds) e = refl

-- the same with the call that is then to be made
pub closing_completes : (e e1 : Engine) (i k : Held) → (i.pending).definition ≡ None
    → IsEndIn ends.List e.open_calls e.state (i.pending).may_follow (text_of i.pending) → IsTaken k
    → k ≡ record i { pending = consumed 1 i.pending } → e1 ≡ ending_argument e → Completes e e1 i k
closing_completes e e1 i k f h t g a =
    let n = ending_opens e (end_inside ends.List e.open_calls e.state (i.pending).may_follow (text_of i.pending) h).1 in
    record {
      call = n.0;
      around = n.1;
      innermost = a ∙ n.2;
      output = ap (λ (x : Engine). x.output) a ∙ ending_output e.open_calls e;
      taken = t;
      turns = λ r new j s. closing_turn e new i k j r f h g (record {
        moves = closing_result (k.pending).may_follow e n.1 new n.0 (λ z more. longer z more k.pending) j.pending r n.2 s.moves;
        ready = s.ready;
        limits = limits_by r _ _ _ s.limits n.3;
        made = s.made;
      });
    }
