-- LoopKeeps: what the machine's loop keeps, and what falls at each of its turns.
use Rattle.std.proofs.Common.{◌≡◌, Bool, inl, inr, ℕ, ◌+◌, ◌<◌, List, [], ◌++◌, refl, sym, ap, ◌∙◌, subst, arith}
use Rattle.std.proofs.Common.{append-nil}
use Rattle.m4_input.specs.Pending.{Pending}
use Rattle.m4_input.specs.Input.{longer}
use Rattle.m4_engine.specs.declared.turned.Turned.TheVariants as turns
use Rattle.m4_engine.specs.declared.turned.TurnEnd.{TurnEnd}
use Rattle.m4_engine.specs.Nesting.{Turn, Halt, Close, GoOn, Bare, Opens, Outcome, Halted, Closed}
use Rattle.m4_engine.specs.OpenCalls.{Goes, meaning, moved_meaning}
use Rattle.m4_engine.specs.Expansion.{Expansion, Kept, Ended, Ends}
use Rattle.m4_engine.specs.Expand.{turn, join, out_of_bound_at, size_of, calls_left, expand}
use Rattle.m4_engine.specs.Engine.{Engine, so_far_of, outer_of, here_of, configuration, after_flush}
use Rattle.m4_engine.specs.Turns.{moved, MayFollow, Moves, cause_of_end}
use Rattle.m4_engine.proofs.Longer.{nothing_more, nothing_follows}
use Rattle.m4_engine.proofs.CallsFall.{falls}
use Rattle.m4_engine.proofs.MachineIsNesting.{move_keeps}
use Rattle.m4_engine.proofs.Shifts.{B, HasLimits, Meets, MeetsOut, turn_meets, join_meets}
use Rattle.m4_engine.proofs.TurnsCounted.{turns_left, turns_fall, AlikeTurns, AlikeOuts, same_turns}

room_same : (calls k : ℕ) → 0 + k < calls → k < calls
room_same calls k h = omega arith

-- the same place, with output and messages in front
module _ (o m : List ℕ) (calls nesting : ℕ) where
  abbrev B' : Expansion → Expansion
  B' = B o m 0 calls calls nesting nesting (room_same calls) (λ k h. h) (λ h. ⊥) (inr (refl, refl)) (inr refl)

  abbrev HasLimits' : Expansion → Type 0
  HasLimits' = HasLimits o m 0 calls calls nesting nesting (room_same calls) (λ k h. h) (λ h. ⊥) (inr (refl, refl)) (inr refl)

  abbrev Meets' : Turn Expansion Kept Ended → Turn Expansion Kept Ended → Type 0
  Meets' = Meets o m 0 calls calls nesting nesting (room_same calls) (λ k h. h) (λ h. ⊥) (inr (refl, refl)) (inr refl)

  abbrev MeetsOut' : Outcome Expansion Ended → Outcome Expansion Ended → Type 0
  MeetsOut' = MeetsOut o m 0 calls calls nesting nesting (room_same calls) (λ k h. h) (λ h. ⊥) (inr (refl, refl)) (inr refl)

  -- s is t with these in front
  abbrev Prefixed : Expansion → Expansion → Type 0
  Prefixed s t = (s ≡ B' t) × HasLimits' t

  alike_of : (v w : Turn Expansion Kept Ended) → Meets' v w → AlikeTurns Expansion Kept Ended Prefixed v w
  unfolding Meets AlikeTurns
  alike_of (Halt d) w (inl h) = absurd h
  alike_of (Halt d) w (inr h) = (h.0, h.1)
  alike_of (Close u) w h = (h.0, h.1, (h.2, h.3))
  alike_of (GoOn u) w h = (h.0, h.1, (h.2, h.3))
  alike_of (Bare u) w h = (h.0, h.1, (h.2, h.3))
  alike_of (Opens f u) w h = (h.0, h.1, (h.2, h.3))

  alike_out_of : (v w : Outcome Expansion Ended) → MeetsOut' v w → AlikeOuts Expansion Kept Ended Prefixed v w
  unfolding MeetsOut AlikeOuts
  alike_out_of (Halted d) w (inl h) = absurd h
  alike_out_of (Halted d) w (inr h) = (h.0, h.1)
  alike_out_of (Closed u) w h = (h.0, h.1, (h.2, h.3))

  alike : (s t : Expansion) → Prefixed s t → AlikeTurns Expansion Kept Ended Prefixed (turn s) (turn t)
  alike s t r =
      subst (λ (x : Expansion). AlikeTurns Expansion Kept Ended Prefixed (turn x) (turn t)) (sym r.0)
      (alike_of (turn (B' t)) (turn t) (turn_meets o m 0 calls calls nesting nesting (room_same calls) (λ k h. h) (λ h. ⊥) (inr (refl, refl)) (inr refl) t r.1))

  alike_out : (f : Kept) (u w : Expansion) → Prefixed u w → AlikeOuts Expansion Kept Ended Prefixed (join f u) (join f w)
  alike_out f u w r =
      subst (λ (x : Expansion). AlikeOuts Expansion Kept Ended Prefixed (join f x) (join f w)) (sym r.0)
      (alike_out_of (join f (B' w)) (join f w)
      (join_meets o m 0 calls calls nesting nesting (room_same calls) (λ k h. h) (λ h. ⊥) (inr (refl, refl))
      (inr refl) w.mode f w r.1))

-- how many turns a machine still has
abbrev pub turns_of : Engine → Pending → ℕ
turns_of e p = turns_left Expansion Kept Ended turn join out_of_bound_at size_of calls_left falls (configuration [] [] e p)

-- the output and the messages are flushed
still_after : (e : Engine) (p : Pending) → here_of [] [] e p ≡ B' e.output e.messages (e.limits).calls (e.limits).nesting (here_of [] [] (after_flush e) p)
still_after e p =
    let n : 0 + e.calls ≡ e.calls = omega arith in
    rw (append-nil e.output, append-nil e.messages, n) refl

pub same_left : (e : Engine) (p : Pending) → turns_of (after_flush e) p ≡ turns_of e p
same_left e p =
    same_turns Expansion Kept Ended turn join out_of_bound_at size_of calls_left falls
    (Prefixed e.output e.messages (e.limits).calls (e.limits).nesting)
    (alike e.output e.messages (e.limits).calls (e.limits).nesting)
    (alike_out e.output e.messages (e.limits).calls (e.limits).nesting)
    (outer_of e.open_calls) (here_of [] [] e p) (here_of [] [] (after_flush e) p) (still_after e p, (refl, refl))

-- prefixes of the output and the messages are flushed
some_left : (e e2 : Engine) (p : Pending) (x y : List ℕ) → e ≡ record e2 { output = x ++ e2.output; messages = y ++ e2.messages } → turns_of e2 p ≡ turns_of e p
some_left e e2 p x y h = sym (same_left e2 p) ∙ sym (ap (λ (d : Engine). turns_of (after_flush d) p) h) ∙ same_left e p

-- a move of the bytes in hand alone
move_alone : (e e' : Engine) (p p' : Pending) → p'.may_follow ≡ p.may_follow
    → Moves p.may_follow e' p' turns.GoesOn (λ z more o m. moved (configuration o m e (longer z more p)))
    → (o m : List ℕ) → moved (configuration o m e p) ≡ Goes (configuration o m e' p')
move_alone e e' p p' k h o m =
    ap (λ (q : Pending). moved (configuration o m e q)) (sym (nothing_more p))
    ∙ h [] p.may_follow (nothing_follows p.may_follow) o m
    ∙ ap (λ (b : Bool). Goes (configuration o m e' (longer [] b p'))) (sym k)
    ∙ ap (λ (q : Pending). Goes (configuration o m e' q)) (nothing_more p')

-- a move takes a turn
pub turn_falls : (e e' : Engine) (p p' : Pending) → p'.may_follow ≡ p.may_follow
    → Moves p.may_follow e' p' turns.GoesOn (λ z more o m. moved (configuration o m e (longer z more p)))
    → turns_of e' p' < turns_of e p
turn_falls e e' p p' k h =
    let f : turns_of e' p' + 1 ≡ turns_of e p =
    turns_fall Expansion Kept Ended turn join out_of_bound_at size_of calls_left falls (configuration [] [] e p)
    (configuration [] [] e' p') (move_alone e e' p p' k h [] []) in
    omega arith

pub move_falls : (e e' e2 : Engine) (p p' : Pending) (x y : List ℕ) → p'.may_follow ≡ p.may_follow
    → e' ≡ record e2 { output = x ++ e2.output; messages = y ++ e2.messages }
    → Moves p.may_follow e' p' turns.GoesOn (λ z more o m. moved (configuration o m e (longer z more p)))
    → turns_of e2 p' < turns_of e p
move_falls e e' e2 p p' x y k d h = subst (λ n. n < turns_of e p) (sym (some_left e' e2 p' x y d)) (turn_falls e e' p p' k h)

-- what a machine comes to, where so much was handed on
abbrev pub meaning_of : List ℕ → List ℕ → Engine → Pending → Outcome Expansion Ended
meaning_of o m e p = meaning Expansion Kept Ended turn join expand (configuration o m e p)

-- a move changes nothing of it
pub moved_on : (e e' : Engine) (p p' : Pending) (z : List ℕ) (more : Bool) (o m : List ℕ)
    → MayFollow p.may_follow z more
    → Moves p.may_follow e' p' turns.GoesOn (λ z more o m. moved (configuration o m e (longer z more p)))
    → meaning_of o m e' (longer z more p') ≡ meaning_of o m e (longer z more p)
moved_on e e' p p' z more o m c h =
    ap (moved_meaning Expansion Kept Ended turn join expand) (sym (h z more c o m))
    ∙ move_keeps Expansion Kept Ended turn join out_of_bound_at size_of calls_left falls (configuration o m e (longer z more p))

-- the end is what it came to
pub end_means : (e e' : Engine) (p p' : Pending) (z : List ℕ) (more : Bool) (o m : List ℕ) (end : TurnEnd)
    → MayFollow p.may_follow z more
    → Moves p.may_follow e' p' (turns.Ends end) (λ z more o m. moved (configuration o m e (longer z more p)))
    → meaning_of o m e (longer z more p)
    ≡ Halted (record { so_far = so_far_of o m e'; reason = Ends (cause_of_end end) })
end_means e e' p p' z more o m end c h =
    sym (move_keeps Expansion Kept Ended turn join out_of_bound_at size_of calls_left falls (configuration o m e (longer z more p)))
    ∙ ap (moved_meaning Expansion Kept Ended turn join expand) (h z more c o m)
