-- Named: a name that is called, as the definitions' move.
use Rattle.std.proofs.Common.{◌≡◌, [], ℕ, Bool, true, false, List, Option, Some, None, refl, sym, ap, ◌∙◌}
use Rattle.std.specs.Prelude.{unwrap_or}
use Rattle.m4_state.specs.declared.definition.Def.{Def}
use Rattle.m4_state.specs.State.{top_of}
use Rattle.m4_input.specs.Pending.{Pending, name_of, line_of}
use Rattle.m4_input.specs.Paren.{paren_at}
use Rattle.m4_input.specs.Input.{answer_of}
use Rattle.m4_builtins.specs.declared.place.Place.{Place}
use Rattle.m4_builtins.proofs.Cases.{or_empty}
use Rattle.m4_builtins.specs.Act.{needs_list}
use Rattle.m4_engine.specs.Expansion.{Expansion, Kept, place_at}
use Rattle.m4_engine.specs.Expand.{call, call_of, take_call, take_name}
use Rattle.m4_engine.specs.Engine.{Engine, outer_of, here_of}
use Rattle.m4_engine.specs.Turns.{step}
use Rattle.m4_engine.proofs.Cases.{call_without_list}

-- the file of a place, as two definitions give it
file_is : (o : Option (List ℕ)) → or_empty o ≡ unwrap_or o []
file_is None = refl
file_is (Some x) = refl

pub place_of_file : (at : Place) (before p : Pending) (line : ℕ) → at.file ≡ name_of p → at.line ≡ line
    → before.file ≡ p.file → at ≡ record { file = or_empty before.file; line = line }
place_of_file at before p line e f g =
    ap (λ (x : List ℕ). let q : Place = record { file = x; line = at.line } in q) (e ∙ ap (λ o. unwrap_or o []) (sym g) ∙ sym (file_is before.file))
    ∙ ap (λ (n : ℕ). let q : Place = record { file = or_empty before.file; line = n } in q) f

pub place_of : (p : Pending) → record { file = name_of p; line = line_of p } ≡ place_at p
place_of p = place_of_file (record { file = name_of p; line = line_of p }) p p (line_of p) refl refl refl

-- a list follows, or the definition needs none
recognised : (listed : Bool) (fs : List Kept) (d : Def) (name : List ℕ) (at : Place) (p : Pending) (s : Expansion)
    → (listed ≡ false → needs_list d ≡ false)
    → step fs (take_call (answer_of listed) (call_of d name at) p s) ≡ step fs (call listed (call_of d name at) p s)
recognised true fs d name at p s h = refl
recognised false fs d name at p s h = ap (λ v. step fs (call_without_list v (call_of d name at) p s)) (h refl)

pub named : (e : Engine) (d : Def) (name : List ℕ) (listed : Bool) (p before : Pending) (at : Place) (o m : List ℕ)
    → Some d ≡ top_of e.state name → paren_at (e.state).quotes (e.state).comments p ≡ answer_of listed
    → (listed ≡ false → needs_list d ≡ false) → at ≡ place_at before
    → step (outer_of e.open_calls) (take_name (top_of e.state name) name p (here_of o m e before))
    ≡ step (outer_of e.open_calls) (call listed (call_of d name at) p (here_of o m e before))
named e d name listed p before at o m h k i j =
    ap (λ v. step (outer_of e.open_calls) (take_name v name p (here_of o m e before))) (sym h)
    ∙ ap (λ v. step (outer_of e.open_calls) (take_call v (call_of d name (place_at before)) p (here_of o m e before))) k
    ∙ recognised listed (outer_of e.open_calls) d name (place_at before) p (here_of o m e before) i
    ∙ ap (λ (x : Place). step (outer_of e.open_calls) (call listed (call_of d name x) p (here_of o m e before))) (sym j)
