-- Bare: a text that is called with no list, as the definitions' move.
use Rattle.std.proofs.Common.{◌≡◌, ℕ, Bool, true, false, List, [], Some, None, refl, sym, ap, ◌∙◌}
use Rattle.std.specs.Prelude.{nat_lt, Result, Ok, Err, IfOk}
use Rattle.m4_state.specs.declared.definition.Def.{Def}
use Rattle.m4_state.specs.declared.definition.Def.TheVariants.{Text}
use Rattle.m4_input.specs.declared.pushed.Pushed.TheVariants as pushes
use Rattle.m4_input.specs.Pending.{Pending}
use Rattle.m4_input.specs.Input.{longer}
use Rattle.m4_builtins.specs.Act.{expands, leaves, act}
use Rattle.m4_builtins.specs.Subst.{subst as substituted}
use Rattle.m4_engine.specs.declared.turned.Turned.{Turned}
use Rattle.m4_builtins.specs.declared.fault.BuiltinFault.{BuiltinFault as TurnFault}
use Rattle.m4_engine.specs.declared.turned.Turned.TheVariants as turns
use Rattle.m4_engine.specs.Expansion.{Call}
use Rattle.m4_engine.specs.Expand.{call}
use Rattle.m4_engine.specs.Engine.{Engine, outer_of, here_of, with_one_call, with_made, is_deep_in}
use Rattle.m4_engine.specs.Turns.{called_within, step, Extended, Pushes, Moves}
use Rattle.m4_engine.proofs.Acts.{called_goes}
use Rattle.m4_engine.proofs.Calling.{bare_made}

acted_text : (c : Call) (t x : List ℕ) (e : Engine) → c.definition ≡ Text t
    → x ≡ substituted t c.name c.done (e.state).quotes
    → act c.definition c.name c.done c.place e.state ≡ leaves e.state (expands x)
acted_text c t x e d h =
    ap (λ (k : Def). act k c.name c.done c.place e.state) d
    ∙ ap (λ (y : List ℕ). leaves e.state (expands y)) (sym h)

-- what a text gives is read again
pub text_goes : (may : Bool) (e e1 : Engine) (c : Call) (t x : List ℕ) (p p' : Pending) → c.definition ≡ Text t
    → x ≡ substituted t c.name c.done (e.state).quotes → e1 ≡ with_made [] [] None e
    → Pushes p p' (Some (pushes.Text x))
    → Moves may e1 p' turns.GoesOn (λ z more o m. called_within e.open_calls c (here_of o m e (longer z more p)))
text_goes may e e1 c t x p p' d h m r =
    λ z more w o n. called_goes e e1 c (leaves e.state (expands x)) (longer z more p) (longer z more p')
    (acted_text c t x e d h) refl refl m (r z more) o n

-- the same of a call with no list
pub bare_goes : (may : Bool) (e e2 e1 : Engine) (c : Call) (p : Extended) (p' : Pending) (r : Result Turned TurnFault)
    → nat_lt e.calls (e.limits).calls ≡ true → is_deep_in e ≡ false → e2 ≡ with_one_call e
    → IfOk r (λ t. Moves may e1 p' t (λ z more o m. called_within e2.open_calls c (here_of o m e2 (p z more))))
    → IfOk r (λ t. (before : Extended)
    → Moves may e1 p' t (λ z more o m. step (outer_of e.open_calls)
    (call false c (p z more) (here_of o m e (before z more)))))
bare_goes may e e2 e1 c p p' r room shallow k h = bare_made may e e2 e1 c false p p' r refl room k (ap is_deep_in k ∙ shallow) h

-- the same after a call with no list, within the limits
pub expanded_goes : (may : Bool) (e e2 e1 : Engine) (x : List ℕ) (p : Extended) (p' : Pending)
    (r : Result Turned TurnFault) → nat_lt e.calls (e.limits).calls ≡ true → is_deep_in e ≡ false
    → e2 ≡ with_one_call e
    → IfOk r (λ t. (k : Call) (z : List ℕ) → k.definition ≡ Text z → x ≡ substituted z k.name k.done (e2.state).quotes
    → Moves may e1 p' t (λ z more o m. called_within e2.open_calls k (here_of o m e2 (p z more))))
    → IfOk r (λ t. (k : Call) (z : List ℕ) → k.definition ≡ Text z → x ≡ substituted z k.name k.done (e.state).quotes
    → (before : Extended)
    → Moves may e1 p' t (λ z more o m. step (outer_of e.open_calls)
    (call false k (p z more) (here_of o m e (before z more)))))
expanded_goes may e e2 e1 x p p' (Ok t) room shallow k h = λ c y d s.
    bare_goes may e e2 e1 c p p' (Ok t) room shallow k (h c y d (s ∙ sym (ap (λ (d : Engine). substituted y c.name c.done (d.state).quotes) k)))
expanded_goes may e e2 e1 x p p' (Err f) room shallow k h = tt
