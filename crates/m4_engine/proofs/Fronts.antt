-- Fronts: the buffered output stays while a turn is made, also where an allocation fails in it.
use Rattle.std.proofs.Common.{Bool, ◌≡◌, ℕ, List, [], ◌∷◌, ◌++◌, take, inl, inr, refl, sym, ap, subst, ◌∙◌, append-nil, append_assoc}
use Rattle.std.specs.Prelude.{Result, Ok, Err, OnErr}
use Rattle.m4_engine.specs.Engine.{Engine, HasFront, KeepsOutput, put_in}
use Rattle.m4_engine.specs.Expansion.{Call}
use Rattle.m4_engine.specs.Passes.{PassesText, PassesOnce, ArePasses, Passes}
use Rattle.m4_input.specs.Input.{Held}
use Rattle.m4_input.specs.Pending.{text_of}

pub front_same : (x y : List ℕ) → y ≡ x → HasFront x y
front_same x y e = record { more = []; parts = e ∙ sym (append-nil x) }

pub front_then : (x y z : List ℕ) → HasFront x y → HasFront y z → HasFront x z
front_then x y z h k = record {
  more = h.more ++ k.more;
  parts = k.parts ∙ ap (λ (v : List ℕ). v ++ k.more) h.parts ∙ append_assoc x h.more k.more;
}

-- nothing changed but what is no output
pub keeps_same : (e e' : Engine) → e'.output ≡ e.output → KeepsOutput e e'
keeps_same e e' h = front_same e.output e'.output h

-- text was put, and then an allocation failed
pub put_keeps : (cs : List Call) (x : List ℕ) (e : Engine) → KeepsOutput e (put_in cs x e)
put_keeps [] x e = record { more = _; parts = refl }
put_keeps (c ∷ cs) x e = front_same e.output e.output refl

pub keeps_after_put : (cs : List Call) (x : List ℕ) (e mid new : Engine) → mid ≡ put_in cs x e → KeepsOutput mid new → KeepsOutput e new
keeps_after_put cs x e mid new h k =
    front_then e.output mid.output new.output (subst (λ (d : Engine). KeepsOutput e d) (sym h) (put_keeps cs x e)) k

-- a fact that holds anyway holds at an error
pub at_error : {A E : Type 0} (r : Result A E) {P : Type 0} → P → OnErr r P
at_error (Ok x) h = tt
at_error (Err e) h = h

-- ---- over passes

text_keeps : (m : Bool) (n : ℕ) (x : List ℕ) (old new : Engine) → PassesText m n x old new → KeepsOutput old new
text_keeps m n x old new (inl h) = subst (λ (d : Engine). KeepsOutput old d) (sym h.engine) (put_keeps [] (take n x) old)
text_keeps m n x old new (inr (inl h)) = keeps_same old new (ap (λ (d : Engine). d.output) h.engine)
text_keeps m n x old new (inr (inr h)) =
    let mid : Engine = put_in [] (take h.before x) old in
    keeps_after_put [] (take h.before x) old mid new refl
    (subst (λ (d : Engine). KeepsOutput mid d) (sym h.engine) (put_keeps [] h.text mid))

once_keeps : (old new : Engine) (i j : Held) → PassesOnce old new i j → KeepsOutput old new
once_keeps old new i j (inl h) = keeps_same old new (ap (λ (d : Engine). d.output) h.0)
once_keeps old new i j (inr h) = text_keeps (i.pending).may_follow h.len (text_of i.pending) old new h.text

all_keep : (ss : List (Engine × Held)) (old new : Engine) (i j : Held) → ArePasses ss old new i j → KeepsOutput old new
all_keep [] old new i j h = keeps_same old new (ap (λ (d : Engine). d.output) h.0)
all_keep (s ∷ ss) old new i j h = front_then old.output (s.0).output new.output (once_keeps old s.0 i s.1 h.0) (all_keep ss s.0 new s.1 j h.1)

pub passes_keep : (old new : Engine) (i j : Held) → Passes old new i j → KeepsOutput old new
passes_keep old new i j h = all_keep h.0 old new i j h.1
