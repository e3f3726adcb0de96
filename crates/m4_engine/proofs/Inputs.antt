-- Inputs: what is pushed in front of an input, whatever follows the bytes in hand.
use Rattle.std.proofs.Common.{◌≡◌, ℕ, Bool, List, [], Option, Some, None, refl, sym, ap, ◌∙◌, subst}
use Rattle.m4_state.specs.declared.definition.Def.{Def}
use Rattle.m4_input.specs.declared.pushed.Pushed.{Pushed}
use Rattle.m4_input.specs.declared.pushed.Pushed.TheVariants as pushes
use Rattle.m4_input.specs.Pending.{Pending}
use Rattle.m4_input.specs.Input.{Held, longer, with_pushed}
use Rattle.m4_builtins.specs.Act.{IsPushed}
use Rattle.m4_engine.specs.Engine.{IsFront, IsReady}
use Rattle.m4_engine.specs.Turns.{IsTaken, Stays, Pushes}

pub none_is_front : (o : Option Def) → o ≡ None → IsFront o
none_is_front o e = subst IsFront (sym e) tt

pushed_same : (z : List ℕ) (more : Bool) (v : Pushed) (p : Pending) → with_pushed v (longer z more p) ≡ longer z more (with_pushed v p)
pushed_same z more (pushes.Text x) p = refl
pushed_same z more (pushes.Definition d) p = refl

value_keeps : (v : Pushed) (old : Held) → IsReady old → (old.pending).definition ≡ None → IsPushed (Some v)
    → Stays old (record old { pending = with_pushed v old.pending })
value_keeps (pushes.Text x) old r n i = record { ready = record { sound = r.sound; front = r.front }; follows = refl; file = refl }
value_keeps (pushes.Definition d) old r n i = record { ready = record { sound = r.sound; front = i }; follows = refl; file = refl }

-- a value is pushed
pub pushed : (old new : Held) (v : Pushed) → IsReady old → (old.pending).definition ≡ None → IsPushed (Some v)
    → new ≡ record old { pending = with_pushed v old.pending } → Pushes old.pending new.pending (Some v) × Stays old new
pushed old new v r n i e = (
  (λ z more. pushed_same z more v old.pending ∙ sym (ap (λ (h : Held). longer z more h.pending) e)),
  subst (Stays old) (sym e) (value_keeps v old r n i),
)

-- nothing is pushed
pub unpushed : (i : Held) → IsTaken i → Pushes i.pending i.pending None × Stays i i
unpushed i t = (λ z more. refl, record { ready = t.ready; follows = refl; file = refl })

-- nor does an empty text change what is pending
pub no_text : (i : Held) → IsTaken i → Pushes i.pending i.pending (Some (pushes.Text [])) × Stays i i
no_text i t = (λ z more. refl, record { ready = t.ready; follows = refl; file = refl })
