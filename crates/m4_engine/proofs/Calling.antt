-- Calling: a call that is refused, bare or listed, as the definitions' move.
use Rattle.std.proofs.Common.{◌≡◌, ◌≤◌, length, ℕ, Bool, true, false, List, ◌∷◌, refl, sym, ap, ◌∙◌, subst, append_assoc}
use Rattle.std.specs.Fmt.{decimal}
use Rattle.std.specs.Prelude.{Result, Ok, Err, IfOk, nat_lt, codes, ◌++◌}
use Rattle.m4_input.specs.Pending.{Pending, text_of, consumed}
use Rattle.m4_input.specs.Input.{longer}
use Rattle.m4_input.proofs.Consumed.{consumed_longer}
use Rattle.m4_builtins.specs.declared.place.Place.{Place}
use Rattle.m4_builtins.specs.Messages.{error}
use Rattle.m4_engine.specs.declared.ending.Cause.{Cause}
use Rattle.m4_engine.specs.declared.ending.Cause.TheVariants as causes
use Rattle.m4_engine.specs.declared.turned.Turned.{Turned}
use Rattle.m4_engine.specs.declared.turned.Turned.TheVariants as turns
use Rattle.m4_engine.specs.declared.turned.TurnEnd.TheVariants as turn_ends
use Rattle.m4_builtins.specs.declared.fault.BuiltinFault.{BuiltinFault as TurnFault}
use Rattle.m4_engine.specs.Nesting.{Outcome, Halted, Closed}
use Rattle.m4_engine.specs.OpenCalls.{Stops, Goes, pop}
use Rattle.m4_engine.specs.Expansion.{Call, Expansion, Kept, Ended, Ends, fail}
use Rattle.m4_engine.specs.Expand.{turn, join, called, bare, collect, call, take_end}
use Rattle.m4_engine.specs.Engine.{Engine, so_far_of, mode_of, kept_in, outer_of, here_of, configuration, with_engine_message}
use Rattle.m4_engine.specs.Engine.{with_one_call, calls_text, nested_text, with_open_call, is_deep_in}
use Rattle.m4_engine.specs.Turns.{called_within, step, Extended, Moves}
use Rattle.m4_engine.proofs.Acts.{moves_by}
use Rattle.m4_engine.proofs.Cases.{call_unless_deep, call_if_room}

-- an expansion that fails
pub failed_at : (o m : List ℕ) (e e1 : Engine) (p : Pending) (at : Place) (text : List ℕ) (cause : Cause)
    (fs : List Kept) → e1 ≡ with_engine_message (error at text) e
    → step fs (fail (here_of o m e p) at text cause) ≡ Stops (Halted (record { so_far = so_far_of o m e1; reason = Ends cause }))
failed_at o m e e1 p at text cause fs h =
    (rw (append_assoc m e.messages (error at text)) refl)
    ∙ ap (λ (x : Engine). Stops (Halted (let d : Ended = record { so_far = so_far_of o m x; reason = Ends cause } in d))) (sym h)

-- the input ends inside a list
pub list_unended : (e e1 : Engine) (c : Call) (cs : List Call) → e.open_calls ≡ c ∷ cs
    → e1 ≡ with_engine_message (error c.place (codes "end of input in argument list")) e
    → (may : Bool) (p : Pending) (before : Extended)
    → Moves may e1 p (turns.Ends turn_ends.EndInArguments)
    (λ z more o m. step (outer_of e.open_calls) (take_end (mode_of e.open_calls) (here_of o m e (before z more))))
list_unended e e1 c cs i h may p before = λ z more k o m.
    ap (λ (x : List Call). step (outer_of x) (take_end (mode_of x) (here_of o m e (before z more)))) i
    ∙ failed_at o m e e1 (before z more) c.place (codes "end of input in argument list") causes.EndInArguments (outer_of (c ∷ cs)) h

-- the error that names a limit, by the limit's value
pub limit_reported : (e e1 : Engine) (at : Place) (n limit : ℕ) (what : List ℕ) → n ≡ limit
    → e1 ≡ with_engine_message (error at (codes "more than " ++ decimal n ++ what)) e
    → e1 ≡ with_engine_message (error at (codes "more than " ++ decimal limit ++ what)) e
limit_reported e e1 at n limit what h k = subst (λ (i : ℕ). e1 ≡ with_engine_message (error at (codes "more than " ++ decimal i ++ what)) e) h k

pub refused_calls : (e e1 : Engine) (c : Call) (listed : Bool) (p before : Pending) (o m : List ℕ)
    → nat_lt e.calls (e.limits).calls ≡ false
    → e1 ≡ with_engine_message (error c.place (calls_text (e.limits).calls)) e
    → step (outer_of e.open_calls) (call listed c p (here_of o m e before))
    ≡ Stops (Halted (record { so_far = so_far_of o m e1; reason = Ends causes.ExpansionLimit }))
refused_calls e e1 c listed p before o m f h =
    ap (λ v. step (outer_of e.open_calls) (call_if_room v listed c p (here_of o m e before))) f
    ∙ failed_at o m e e1 before c.place (calls_text (e.limits).calls) causes.ExpansionLimit (outer_of e.open_calls) h

-- a call that was counted
counted_is : (e : Engine) (c : Call) (listed : Bool) (p before : Pending) (o m : List ℕ) (v : Bool)
    → nat_lt e.calls (e.limits).calls ≡ true → is_deep_in (with_one_call e) ≡ v
    → step (outer_of e.open_calls) (call listed c p (here_of o m e before))
    ≡ step (outer_of e.open_calls) (call_unless_deep v listed c p (here_of o m (with_one_call e) before))
counted_is e c listed p before o m v f h =
    ap (λ u. step (outer_of e.open_calls) (call_if_room u listed c p (here_of o m e before))) f
    ∙ ap (λ u. step (outer_of e.open_calls) (call_unless_deep u listed c p (here_of o m (with_one_call e) before))) h

pub refused_depth : (e e1 : Engine) (c : Call) (listed : Bool) (p before : Pending) (o m : List ℕ)
    → nat_lt e.calls (e.limits).calls ≡ true → is_deep_in (with_one_call e) ≡ true
    → e1 ≡ with_engine_message (error c.place (nested_text (e.limits).nesting)) (with_one_call e)
    → step (outer_of e.open_calls) (call listed c p (here_of o m e before))
    ≡ Stops (Halted (record { so_far = so_far_of o m e1; reason = Ends causes.NestingLimit }))
refused_depth e e1 c listed p before o m f h k =
    counted_is e c listed p before o m true f h
    ∙ failed_at o m (with_one_call e) e1 before c.place (nested_text (e.limits).nesting) causes.NestingLimit (outer_of e.open_calls) k

bare_is : (fs : List Kept) (v : Outcome Expansion Ended) → step fs (bare v) ≡ pop Expansion Kept Ended turn join fs v
bare_is fs (Halted d) = refl
bare_is fs (Closed u) = refl

pub bare_called : (e : Engine) (c : Call) (p before : Pending) (o m : List ℕ) → nat_lt e.calls (e.limits).calls ≡ true
    → is_deep_in (with_one_call e) ≡ false
    → step (outer_of e.open_calls) (call false c p (here_of o m e before))
    ≡ called_within e.open_calls c (here_of o m (with_one_call e) p)
bare_called e c p before o m f h =
    counted_is e c false p before o m false f h
    ∙ bare_is (outer_of e.open_calls) (called c (here_of o m (with_one_call e) p) (kept_in e.open_calls))

-- a call without a list is made
pub bare_result : (may : Bool) (e e1 : Engine) (c : Call) (listed : Bool) (p : Extended) (p' : Pending)
    (r : Result Turned TurnFault) → listed ≡ false → nat_lt e.calls (e.limits).calls ≡ true
    → is_deep_in (with_one_call e) ≡ false
    → IfOk r (λ t. Moves may e1 p' t
    (λ z more o m. called_within e.open_calls c (here_of o m (with_one_call e) (p z more))))
    → IfOk r (λ t. (before : Extended)
    → Moves may e1 p' t (λ z more o m. step (outer_of e.open_calls)
    (call listed c (p z more) (here_of o m e (before z more)))))
bare_result may e e1 c listed p p' (Ok t) b f h k =
    λ before. moves_by may e1 p' t _ _
    (λ z more w o m. ap (λ v. step (outer_of e.open_calls) (call v c (p z more) (here_of o m e (before z more)))) b
    ∙ bare_called e c (p z more) (before z more) o m f h) k
bare_result may e e1 c listed p p' (Err x) b f h k = tt

-- a call's list begins
pub listed_goes : (e e1 : Engine) (c : Call) (listed : Bool) (p p' before : Pending) (o m : List ℕ) → listed ≡ true
    → nat_lt e.calls (e.limits).calls ≡ true → is_deep_in (with_one_call e) ≡ false → p' ≡ consumed 1 p
    → e1 ≡ with_open_call c (with_one_call e)
    → step (outer_of e.open_calls) (call listed c p (here_of o m e before)) ≡ Goes (configuration o m e1 p')
listed_goes e e1 c listed p p' before o m b f h k i =
    counted_is e c listed p before o m false f h
    ∙ ap (λ v. step (outer_of e.open_calls) (collect v c p (here_of o m (with_one_call e) before))) b
    ∙ ap (λ (q : Pending). Goes (configuration o m (with_open_call c (with_one_call e)) q)) (sym k)
    ∙ ap (λ (x : Engine). Goes (configuration o m x p')) (sym i)

-- the same, if the engine after the count has a name
pub depth_refused : (e e2 e1 : Engine) (c : Call) (listed : Bool) (p before : Pending) (o m : List ℕ)
    → nat_lt e.calls (e.limits).calls ≡ true → e2 ≡ with_one_call e → is_deep_in e2 ≡ true
    → e1 ≡ with_engine_message (error c.place (nested_text (e2.limits).nesting)) e2
    → step (outer_of e.open_calls) (call listed c p (here_of o m e before))
    ≡ Stops (Halted (record { so_far = so_far_of o m e1; reason = Ends causes.NestingLimit }))
depth_refused e e2 e1 c listed p before o m f i h k =
    refused_depth e e1 c listed p before o m f (sym (ap is_deep_in i) ∙ h)
    (k ∙ ap (λ (x : Engine). with_engine_message (error c.place (nested_text (x.limits).nesting)) x) i)

pub bare_made : (may : Bool) (e e2 e1 : Engine) (c : Call) (listed : Bool) (p : Extended) (p' : Pending)
    (r : Result Turned TurnFault) → listed ≡ false → nat_lt e.calls (e.limits).calls ≡ true → e2 ≡ with_one_call e
    → is_deep_in e2 ≡ false
    → IfOk r (λ t. Moves may e1 p' t (λ z more o m. called_within e2.open_calls c (here_of o m e2 (p z more))))
    → IfOk r (λ t. (before : Extended)
    → Moves may e1 p' t (λ z more o m. step (outer_of e.open_calls)
    (call listed c (p z more) (here_of o m e (before z more)))))
bare_made may e e2 e1 c listed p p' r b f i h k =
    bare_result may e e1 c listed p p' r b f (sym (ap is_deep_in i) ∙ h)
    (subst (λ (x : Engine). IfOk r
    (λ t. Moves may e1 p' t (λ z more o m. called_within x.open_calls c (here_of o m x (p z more))))) i k)

pub list_begins : (e e2 e1 : Engine) (c : Call) (listed : Bool) (p p' before : Pending) (o m : List ℕ) → listed ≡ true
    → nat_lt e.calls (e.limits).calls ≡ true → e2 ≡ with_one_call e → is_deep_in e2 ≡ false → p' ≡ consumed 1 p
    → e1 ≡ with_open_call c e2
    → step (outer_of e.open_calls) (call listed c p (here_of o m e before)) ≡ Goes (configuration o m e1 p')
list_begins e e2 e1 c listed p p' before o m b f i h k j =
    listed_goes e e1 c listed p p' before o m b f (sym (ap is_deep_in i) ∙ h) k (j ∙ ap (with_open_call c) i)

-- the same, whatever follows the bytes in hand
pub list_begins_so : (e e2 e1 : Engine) (c : Call) (listed : Bool) (p p' before : Pending) (z : List ℕ) (more : Bool)
    (o m : List ℕ) → listed ≡ true → nat_lt e.calls (e.limits).calls ≡ true → e2 ≡ with_one_call e
    → is_deep_in e2 ≡ false → p' ≡ consumed 1 p → 1 ≤ length (text_of p) → e1 ≡ with_open_call c e2
    → step (outer_of e.open_calls) (call listed c (longer z more p) (here_of o m e before))
    ≡ Goes (configuration o m e1 (longer z more p'))
list_begins_so e e2 e1 c listed p p' before z more o m b f i h k l j =
    list_begins e e2 e1 c listed (longer z more p) (longer z more p') before o m b f i h
    (ap (longer z more) k ∙ sym (consumed_longer z more 1 p l)) j
