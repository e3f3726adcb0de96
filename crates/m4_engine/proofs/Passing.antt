-- Passing: tokens that are text are put where they go at once as turns would put them there.
use Rattle.std.specs.Prelude.{◌||◌}
use Rattle.m4_state.specs.State.{State, appended, holds_text}
use Rattle.std.proofs.Common.{◌≡◌, ◌⊎◌, inl, inr, Bool, true, false, cond, ℕ, zero, suc, ℤ, pos, negsuc}
use Rattle.std.proofs.Common.{◌+◌, ◌-◌, ◌<◌, ◌≤◌, List, [], ◌∷◌, ◌++◌, Option, None, take}
use Rattle.std.proofs.Common.{drop, length, refl, sym, ap, ◌∙◌, subst, arith, append-nil, append_assoc, length-append}
use Rattle.std.proofs.Math.Seq.{take-add}
use Rattle.std.proofs.lemmas.List.{length-drop, take-append-le}
use Rattle.m4_state.specs.declared.definition.Def.{Def}
use Rattle.m4_input.specs.declared.token.Token.TheVariants.{Name, Str, Comment, Byte}
use Rattle.m4_input.specs.Pending.{Pending, text_of, counted, consumed, newlines_in}
use Rattle.m4_engine.specs.Plain.{IsPut, total, ArePlain}
use Rattle.m4_engine.specs.Collected.{IsText, IsListToken, AreListTokens, bytes_in}
use Rattle.m4_input.specs.Input.{Held, longer}
use Rattle.m4_input.proofs.Consumed.{consumed_twice, text-consumed}
use Rattle.m4_input.proofs.Parts.{drop_parts, counted_none}
use Rattle.m4_engine.specs.declared.turned.Turned.TheVariants as turns
use Rattle.m4_engine.specs.Nesting.{GoOn}
use Rattle.m4_engine.specs.OpenCalls.{take_turn, Goes}
use Rattle.m4_engine.specs.Expansion.{Call, Expansion, Kept, Ended, reading, put_text, issued}
use Rattle.m4_engine.specs.Expand.{turn, join, take_front, take_name}
use Rattle.m4_engine.specs.Engine.{Engine, put_in, here_of, outer_of, configuration, IsReady}
use Rattle.m4_engine.specs.Moments.{Moment, Next, moved, Comes}
use Rattle.m4_engine.specs.Turns.{IsTaken, MayFollow, Moves}
use Rattle.m4_engine.specs.Passes.{PassesPlain, PassesInner, PassesToken, PassesOnce, ArePasses, Passes, PassesText}
use Rattle.m4_engine.specs.Passes.{PassesBy, PassesTo, IsFull, IsSeen}
use Rattle.std.specs.Prelude.{Some, IfSome}
use Rattle.std.specs.Borrow.{Bor}
use Rattle.m4_input.specs.Blocks.{IsInFront}
use Rattle.m4_engine.specs.declared.lookahead.Lookahead.{Lookahead}
use Rattle.m4_engine.specs.declared.lookahead.Lookahead.TheVariants as aheads
use Rattle.m4_engine.specs.Lookahead.{IsNext}
use Rattle.m4_engine.proofs.FrontRuns.{plain_front, list_front, put_after, take_in_front, next_front, after_next, front_left}
use Rattle.m4_engine.proofs.FrontRuns.{front_less, front_fits}
use Rattle.m4_engine.proofs.Taken.{IsInline, none_inline, next_inline}
use Rattle.m4_engine.proofs.Longer.{found_longer}
use Rattle.m4_engine.proofs.LoopKeeps.{turns_of, turn_falls}
use Rattle.m4_engine.proofs.Measures.{measure, measure_falls}
use Rattle.m4_engine.proofs.Moments.{on_from}
use Rattle.m4_state.proofs.CallerLaws.{appended-twice}

-- an engine outside of calls
abbrev at_top : Engine → Engine
at_top e = record e { open_calls = [] }

abbrev with_output : List ℕ → Engine → Engine
with_output x e = put_in [] x e

-- a turn puts a token that is text where text goes
text_turn : (e : Engine) (p : Pending) (n : ℕ) (t : List ℕ) → p.definition ≡ None
    → IsText e.state p.may_follow n t (text_of p) → (z : List ℕ) (more : Bool) → MayFollow p.may_follow z more
    → (o m : List ℕ)
    → turn (here_of o m e (longer z more p))
    ≡ GoOn (put_text t (reading (longer z more (consumed n p)) (here_of o m e (longer z more p))))
text_turn e p n t d (inl g) z more k o m =
    ap (λ v. take_front v (here_of o m e (longer z more p))) (found_longer (e.state).quotes (e.state).comments p (Str t) n z more d g k)
text_turn e p n t d (inr (inl g)) z more k o m =
    ap (λ v. take_front v (here_of o m e (longer z more p))) (found_longer (e.state).quotes (e.state).comments p (Name t) n z more d g.0 k)
    ∙ ap (λ v. take_name v t (longer z more (consumed n p)) (here_of o m e (longer z more p))) g.1
text_turn e p n t d (inr (inr g)) z more k o m =
    ap (λ v. take_front v (here_of o m e (longer z more p))) (found_longer (e.state).quotes (e.state).comments p (Comment t) n z more d g k)

text_moves : (e : Engine) (p : Pending) (t : List ℕ) (n : ℕ) → p.definition ≡ None
    → IsText e.state p.may_follow n t (text_of p)
    → Moves p.may_follow (with_output t (at_top e)) (consumed n p) turns.GoesOn (λ z more o m. moved (configuration o m (at_top e) (longer z more p)))
text_moves e p t n d h = λ z more c o m.
    ap (take_turn Expansion Kept Ended turn join []) (text_turn (at_top e) p n t d h z more c o m)
    ∙ (rw (append_assoc o e.output (issued (e.state).current t)) refl)

-- and so it puts a byte
put_moves : (e : Engine) (p : Pending) (t : List ℕ) (n : ℕ) → p.definition ≡ None → IsPut e.state p.may_follow n t (text_of p)
    → Moves p.may_follow (with_output t (at_top e)) (consumed n p) turns.GoesOn
    (λ z more o m. moved (configuration o m (at_top e) (longer z more p)))
put_moves e p t n d (inl h) = text_moves e p t n d h
put_moves e p t n d (inr h) = λ z more c o m.
    ap (λ v. take_turn Expansion Kept Ended turn join [] (take_front v (here_of o m (at_top e) (longer z more p))))
    (found_longer (e.state).quotes (e.state).comments p (Byte h.0) n z more d h.1 c)
    ∙ (rw (append_assoc o e.output (issued (e.state).current (h.0 ∷ []))) refl)
    ∙ ap (λ (x : List ℕ). Goes (configuration o m (with_output x (at_top e)) (longer z more (consumed n p)))) (sym h.2)

pub consumed_none : (p : Pending) → p.definition ≡ None → consumed 0 p ≡ p
consumed_none p d =
    let none : 0 - length p.pushed ≡ 0 = omega arith in
    ap (λ m. let q : Pending = record p
    { definition = None; unread = drop m p.unread; newlines = counted p.newlines (newlines_in (take m p.unread)) } in q) none
    ∙ ap (λ m. let q : Pending = record p { definition = None; newlines = m } in q) (counted_none p.newlines)
    ∙ ap (λ (o : Option Def). let q : Pending = record p { definition = o } in q) (sym d)

-- turns lead from the one to the other, whatever follows the bytes in hand, so that no more are left, and fewer if they
-- made any output
pub record Reaches (e : Engine) (p : Pending) (e1 : Engine) (p1 : Pending) : Type 0 where
  pub comes : (z : List ℕ) (more : Bool) → MayFollow p.may_follow z more → (o m : List ℕ)
      → (way : List Moment) × Comes way (Goes (configuration o m e (longer z more p))) (Goes (configuration o m e1 (longer z more p1)))
  pub turns : turns_of e1 p1 ≤ turns_of e p
  pub fewer : (e1.output ≡ e.output) ⊎ (turns_of e1 p1 < turns_of e p)

pub nothing_reaches : (e : Engine) (p : Pending) → Reaches e p e p
nothing_reaches e p = record { comes = λ z more c o m. ([], refl); turns = omega arith; fewer = inl refl }

pub move_reaches : (e e1 e2 : Engine) (p p1 p2 : Pending) → p1.may_follow ≡ p.may_follow
    → Moves p.may_follow e1 p1 turns.GoesOn (λ z more o m. moved (configuration o m e (longer z more p)))
    → Reaches e1 p1 e2 p2 → Reaches e p e2 p2
move_reaches e e1 e2 p p1 p2 k h r =
    let f : turns_of e1 p1 < turns_of e p = turn_falls e e1 p p1 k h in
    let g : turns_of e2 p2 ≤ turns_of e1 p1 = r.turns in
    record {
      comes = λ z more c o m.
          let rest = r.comes z more (subst (λ v. MayFollow v z more) (sym k) c) o m in (
            configuration o m e (longer z more p) ∷ rest.0,
            (
              refl,
              subst (λ (x : Next). Comes rest.0 x (Goes (configuration o m e2 (longer z more p2))))
                  (sym (h z more c o m)) rest.1,
            ),
          );
      turns = omega arith;
      fewer = inr (omega arith);
    }

-- and so on from there
both_reach : (e e1 e2 : Engine) (p p1 p2 : Pending) → p1.may_follow ≡ p.may_follow → Reaches e p e1 p1 → Reaches e1 p1 e2 p2 → Reaches e p e2 p2
both_reach e e1 e2 p p1 p2 f a b =
    let x : turns_of e1 p1 ≤ turns_of e p = a.turns in
    let y : turns_of e2 p2 ≤ turns_of e1 p1 = b.turns in
    record {
      comes = λ z more c o m.
          let first = a.comes z more c o m in
          let later = b.comes z more (subst (λ (v : Bool). MayFollow v z more) (sym f) c) o m in (
            first.0 ++ later.0,
            on_from first.0 later.0 (Goes (configuration o m e (longer z more p)))
                (Goes (configuration o m e1 (longer z more p1))) (Goes (configuration o m e2 (longer z more p2))) first.1 later.1,
          );
      turns = omega arith;
      fewer = by a.fewer b.fewer;
    }
  where
    by : (e1.output ≡ e.output) ⊎ (turns_of e1 p1 < turns_of e p) → (e2.output ≡ e1.output) ⊎ (turns_of e2 p2 < turns_of e1 p1)
        → (e2.output ≡ e.output) ⊎ (turns_of e2 p2 < turns_of e p)
    by (inl g) (inl k) = inl (k ∙ g)
    by (inl g) (inr k) = let x : turns_of e1 p1 ≤ turns_of e p = a.turns in inr (omega (arith, k, x))
    by (inr g) k = let y : turns_of e2 p2 ≤ turns_of e1 p1 = b.turns in inr (omega (arith, g, y))

-- ---- two texts that are put one after the other are put as one

appended-none : (s : State) → appended s [] ≡ s
appended-none s = by (holds_text s.current)
  where
    by : (h : Bool) → record s { diversions = cond h s.diversions s.diversions } ≡ s
    by true = refl
    by false = refl

issued-twice : (n : ℤ) (x y : List ℕ) → issued n x ++ issued n y ≡ issued n (x ++ y)
issued-twice (pos zero) x y = refl
issued-twice (pos (suc n)) x y = refl
issued-twice (negsuc n) x y = refl

issued-none : (n : ℤ) → issued n [] ≡ []
issued-none (pos zero) = refl
issued-none (pos (suc n)) = refl
issued-none (negsuc n) = refl

pub put_twice : (x y : List ℕ) (e : Engine) → with_output y (with_output x e) ≡ with_output (x ++ y) e
put_twice x y e =
    let n = (e.state).current in
    ap (λ (s : State). let d : Engine = record e { state = s; output = (e.output ++ issued n x) ++ issued n y } in d) (appended-twice e.state x y)
    ∙ ap (λ (o : List ℕ). let d : Engine = record e { state = appended e.state (x ++ y); output = o } in d)
    (append_assoc e.output (issued n x) (issued n y) ∙ ap (λ (v : List ℕ). e.output ++ v) (issued-twice n x y))

none_put : (e : Engine) → with_output [] e ≡ e
none_put e =
    ap (λ (s : State). let d : Engine = record e { state = s; output = e.output ++ issued (e.state).current [] } in d) (appended-none e.state)
    ∙ ap (λ (o : List ℕ). let d : Engine = record e { output = o } in d)
    (ap (λ (v : List ℕ). e.output ++ v) (issued-none (e.state).current) ∙ append-nil e.output)

-- the text of a token and of those after it
both_put : (n k : ℕ) (e : Engine) (p : Pending)
    → with_output (take k (text_of (consumed n p))) (with_output (take n (text_of p)) e)
    ≡ with_output (take (n + k) (text_of p)) e
both_put n k e p =
    ap (λ (x : List ℕ). with_output (take k x) (with_output (take n (text_of p)) e)) (sym (drop_parts n p.pushed p.unread))
    ∙ put_twice (take n (text_of p)) (take k (drop n (text_of p))) e
    ∙ ap (λ (x : List ℕ). with_output x e) (sym (take-add n k (text_of p)))

-- text that is put changes no name and no delimiter
plain_kept : (s : State) (t : List ℕ) (m : Bool) (lens x : List ℕ) → ArePlain s m lens x → ArePlain (appended s t) m lens x
plain_kept s t m [] x h = tt
plain_kept s t m (n ∷ lens) x h = (h.0, plain_kept s t m lens (drop n x) h.1)

run_reaches : (lens : List ℕ) (e : Engine) (p : Pending) → p.definition ≡ None
    → ArePlain e.state p.may_follow lens (text_of p)
    → Reaches (at_top e) p (with_output (take (total lens) (text_of p)) (at_top e)) (consumed (total lens) p)
run_reaches [] e p d h =
    subst (λ (q : Pending). Reaches (at_top e) p (with_output [] (at_top e)) q) (sym (consumed_none p d))
    (subst (λ (x : Engine). Reaches (at_top e) p x p) (sym (none_put (at_top e))) (nothing_reaches (at_top e) p))
run_reaches (n ∷ lens) e p d h =
    let e1 : Engine = with_output (take n (text_of p)) e in
    let r = run_reaches lens e1 (consumed n p) refl
    (plain_kept e.state (take n (text_of p)) p.may_follow lens (text_of (consumed n p))
    (subst (ArePlain e.state p.may_follow lens) (drop_parts n p.pushed p.unread) h.1)) in
    move_reaches (at_top e) (at_top e1) _ p (consumed n p) _ refl (put_moves e p (take n (text_of p)) n d h.0)
    (subst (λ (x : Engine). Reaches (at_top e1) (consumed n p) x (consumed (n + total lens) p)) (both_put n (total lens) (at_top e) p)
    (subst (λ (q : Pending). Reaches (at_top e1) (consumed n p)
    (with_output (take (total lens) (text_of (consumed n p))) (at_top e1)) q) (consumed_twice n (total lens) p) r))

-- the engine is at its top where it says so
top_is : (e : Engine) → e.open_calls ≡ [] → at_top e ≡ e
top_is e h = ap (λ (x : List Call). let d : Engine = record e { open_calls = x } in d) (sym h)

plain_reaches : (e e1 : Engine) (p : Pending) (n : ℕ) → p.definition ≡ None → PassesPlain p.may_follow n (text_of p) e e1
    → Reaches e p e1 (consumed n p)
plain_reaches e e1 p n f h =
    let t = run_reaches h.plain.0 e p f h.plain.1 in
    let x = subst (λ (d : Engine). Reaches d p (with_output (take (total h.plain.0) (text_of p)) d) (consumed (total h.plain.0) p)) (top_is e h.outside) t in
    subst (λ (d : Engine). Reaches e p d (consumed n p)) (sym h.engine)
    (subst (λ k. Reaches e p (with_output (take k (text_of p)) e) (consumed k p)) h.plain.2 x)

-- plain tokens and then one that is text
token_reaches : (e e1 : Engine) (p : Pending) (n : ℕ) → p.definition ≡ None → PassesToken p.may_follow n (text_of p) e e1
    → Reaches e p e1 (consumed n p)
token_reaches e e1 p n f h =
    let x : List ℕ = take h.before (text_of p) in
    let mid : Engine = with_output x (at_top e) in
    let q : Pending = consumed h.before p in
    let there : IsPut mid.state q.may_follow h.len h.text (text_of q) =
    subst (λ (y : List ℕ). IsPut e.state p.may_follow h.len h.text y) (drop_parts h.before p.pushed p.unread) h.found in
    let run : Reaches (at_top e) p mid q =
    subst (λ k. Reaches (at_top e) p (with_output (take k (text_of p)) (at_top e)) (consumed k p)) h.plain.2 (run_reaches h.plain.0 e p f h.plain.1) in
    let last : Reaches mid q (with_output h.text mid) (consumed h.len q) =
    move_reaches mid (with_output h.text mid) (with_output h.text mid) q (consumed h.len q) (consumed h.len q) refl
    (put_moves mid q h.text h.len refl there) (nothing_reaches (with_output h.text mid) (consumed h.len q)) in
    let all : Reaches (at_top e) p (with_output h.text mid) (consumed n p) =
    subst (λ (r : Pending). Reaches (at_top e) p (with_output h.text mid) r)
    (consumed_twice h.before h.len p ∙ ap (λ k. consumed k p) (sym h.all))
    (both_reach (at_top e) mid (with_output h.text mid) p q (consumed h.len q) refl run last) in
    subst (λ (d : Engine). Reaches e p d (consumed n p)) (sym h.engine)
    (subst (λ (d : Engine). Reaches d p (with_output h.text (with_output x d)) (consumed n p)) (top_is e h.outside) all)

-- the first bytes of a text that is in front of an input were passed
text_pending : (old new : Engine) (p : Pending) (m : Bool) (n : ℕ) (x : List ℕ) → IsInFront p x m → n ≤ length x
    → PassesText m n x old new → PassesText p.may_follow n (text_of p) old new
text_pending old new p m n x h k (inl r) = inl (record {
  plain = plain_front old.state p m n x h r.plain;
  outside = r.outside;
  engine = r.engine ∙ ap (λ (y : List ℕ). put_in [] y old) (sym (take_in_front p m n x h k));
})
text_pending old new p m n x h k (inr (inl r)) = inr (inl (record {
  innermost = r.innermost;
  after = r.after;
  around = r.around;
  collected = list_front old.state p m n r.innermost r.after x h r.collected;
  inside = r.inside;
  engine = r.engine;
}))
text_pending old new p m n x h k (inr (inr r)) =
    let le : r.before ≤ length x = let sum : n ≡ r.before + r.len = r.all in omega (arith, k, sum) in
    inr (inr (record {
      before = r.before;
      plain = plain_front old.state p m r.before x h r.plain;
      text = r.text;
      len = r.len;
      found = put_after old.state p m r.before x r.text r.len h le r.found;
      all = r.all;
      outside = r.outside;
      engine = r.engine ∙ ap (λ (y : List ℕ). put_in [] r.text (put_in [] y old)) (sym (take_in_front p m r.before x h le));
    }))

pub passes_text : (old new : Engine) (i j : Held) (m : Bool) (n : ℕ) (x : List ℕ) → IsInFront i.pending x m
    → (i.pending).definition ≡ None → n ≤ length x → PassesText m n x old new
    → j ≡ record i { pending = consumed n i.pending } → PassesOnce old new i j
passes_text old new i j m n x h f k r g =
    inr (record { len = n; first = f; text = text_pending old new i.pending m n x h k r; input = g })

-- an engine within a list
abbrev at_call : Call → List Call → Engine → Engine
at_call c cs e = record e { open_calls = c ∷ cs }

-- a turn takes such a token into the call
list_turn : (c d : Call) (cs : List Call) (e : Engine) (p : Pending) (n : ℕ) → p.definition ≡ None
    → IsListToken e.state p.may_follow n c d (text_of p) → (z : List ℕ) (more : Bool) → MayFollow p.may_follow z more
    → (o m : List ℕ)
    → take_turn Expansion Kept Ended turn join (outer_of (c ∷ cs)) (turn (here_of o m (at_call c cs e) (longer z more p)))
    ≡ Goes (configuration o m (at_call d cs e) (longer z more (consumed n p)))
list_turn c d cs e p n f (inl h) z more k o m =
    ap (λ v. take_turn Expansion Kept Ended turn join (outer_of (c ∷ cs)) v) (text_turn (at_call c cs e) p n h.0 f h.1 z more k o m)
    ∙ (rw (append-nil (o ++ e.output)) refl)
    ∙ ap (λ (a : Call). Goes (configuration o m (at_call a cs e) (longer z more (consumed n p)))) (sym h.2)
list_turn c d cs e p n f (inr h) z more k o m =
    ap (λ v. take_turn Expansion Kept Ended turn join (outer_of (c ∷ cs))
    (take_front v (here_of o m (at_call c cs e) (longer z more p))))
    (found_longer (e.state).quotes (e.state).comments p (Byte h.0) n z more f h.1 k)
    ∙ ap (λ v. take_turn Expansion Kept Ended turn join (outer_of (c ∷ cs)) v)
    (h.2 (reading (longer z more (consumed n p)) (here_of o m (at_call c cs e) (longer z more p))) refl)

list_reaches : (ts : List (ℕ × Call)) (c d : Call) (cs : List Call) (e : Engine) (p : Pending) → p.definition ≡ None
    → AreListTokens e.state p.may_follow ts c d (text_of p)
    → Reaches (at_call c cs e) p (at_call d cs e) (consumed (bytes_in ts) p)
list_reaches [] c d cs e p f h =
    subst (λ (q : Pending). Reaches (at_call c cs e) p (at_call d cs e) q) (sym (consumed_none p f))
    (subst (λ (a : Call). Reaches (at_call c cs e) p (at_call a cs e) p) (sym h) (nothing_reaches (at_call c cs e) p))
list_reaches (t ∷ ts) c d cs e p f h =
    let q : Pending = consumed t.0 p in
    let r = list_reaches ts t.1 d cs e q refl (subst (AreListTokens e.state p.may_follow ts t.1 d) (drop_parts t.0 p.pushed p.unread) h.1) in
    move_reaches (at_call c cs e) (at_call t.1 cs e) (at_call d cs e) p q (consumed (t.0 + bytes_in ts) p) refl (list_turn c t.1 cs e p t.0 f h.0)
    (subst (λ (x : Pending). Reaches (at_call t.1 cs e) q (at_call d cs e) x) (consumed_twice t.0 (bytes_in ts) p) r)

inner_reaches : (e e1 : Engine) (p : Pending) (n : ℕ) → p.definition ≡ None → PassesInner p.may_follow n (text_of p) e e1
    → Reaches e p e1 (consumed n p)
inner_reaches e e1 p n f h =
    let same : at_call h.innermost h.around e ≡ e = ap (λ (y : List Call). let k : Engine = record e { open_calls = y } in k) (sym h.inside) in
    let ts = h.collected.0 in
    let r = list_reaches ts h.innermost h.after h.around e p f h.collected.1 in
    subst (λ (d : Engine). Reaches e p d (consumed n p)) (sym h.engine)
    (subst (λ (n : ℕ). Reaches e p (at_call h.after h.around e) (consumed n p)) h.collected.2
    (subst (λ (k : Engine). Reaches k p (at_call h.after h.around e) (consumed (bytes_in ts) p)) same r))

-- where a list is open, its tokens were collected
text_reaches : (e e1 : Engine) (p : Pending) (n : ℕ) → p.definition ≡ None → PassesText p.may_follow n (text_of p) e e1
    → Reaches e p e1 (consumed n p)
text_reaches e e1 p n f (inl h) = plain_reaches e e1 p n f h
text_reaches e e1 p n f (inr (inl h)) = inner_reaches e e1 p n f h
text_reaches e e1 p n f (inr (inr h)) = token_reaches e e1 p n f h

once_reaches : (e e1 : Engine) (i i1 : Held) → PassesOnce e e1 i i1 → Reaches e i.pending e1 i1.pending
once_reaches e e1 i i1 (inl h) =
    subst (λ (d : Engine). Reaches e i.pending d i1.pending) (sym h.0)
    (subst (λ (j : Held). Reaches e i.pending e j.pending) (sym h.1) (nothing_reaches e i.pending))
once_reaches e e1 i i1 (inr h) =
    subst (λ (j : Held). Reaches e i.pending e1 j.pending) (sym h.input) (text_reaches e e1 i.pending h.len h.first h.text)

once_ready : (e e1 : Engine) (i i1 : Held) → IsReady i → PassesOnce e e1 i i1 → IsReady i1
once_ready e e1 i i1 r (inl h) = subst IsReady (sym h.1) r
once_ready e e1 i i1 r (inr h) = subst IsReady (sym h.input) (record { sound = r.sound; front = tt })

once_follows : (e e1 : Engine) (i i1 : Held) → PassesOnce e e1 i i1 → (i1.pending).may_follow ≡ (i.pending).may_follow
once_follows e e1 i i1 (inl h) = ap (λ (j : Held). (j.pending).may_follow) h.1
once_follows e e1 i i1 (inr h) = ap (λ (j : Held). (j.pending).may_follow) h.input

-- what text that is put, and what a list takes, leave as it was
text_leaves : {A : Type 0} (f : Engine → A) (m : Bool) (n : ℕ) (x : List ℕ) (old new : Engine)
    → ((y : List ℕ) (e : Engine) → f (put_in [] y e) ≡ f e)
    → ((cs : List Call) → f (record old { open_calls = cs }) ≡ f old) → PassesText m n x old new → f new ≡ f old
text_leaves f m n x old new put within (inl h) = ap f h.engine ∙ put (take n x) old
text_leaves f m n x old new put within (inr (inl h)) = ap f h.engine ∙ within (h.after ∷ h.around)
text_leaves f m n x old new put within (inr (inr h)) =
    ap f h.engine ∙ put h.text (put_in [] (take h.before x) old) ∙ put (take h.before x) old

once_limits : (e e1 : Engine) (i i1 : Held) → PassesOnce e e1 i i1 → e1.limits ≡ e.limits
once_limits e e1 i i1 (inl h) = ap (λ (d : Engine). d.limits) h.0
once_limits e e1 i i1 (inr h) = text_leaves (λ d. d.limits) _ _ _ e e1 (λ y d. refl) (λ cs. refl) h.text

once_messages : (e e1 : Engine) (i i1 : Held) → PassesOnce e e1 i i1 → e1.messages ≡ e.messages
once_messages e e1 i i1 (inl h) = ap (λ (d : Engine). d.messages) h.0
once_messages e e1 i i1 (inr h) = text_leaves (λ d. d.messages) _ _ _ e e1 (λ y d. refl) (λ cs. refl) h.text

reach : (ss : List (Engine × Held)) (e e1 : Engine) (i i1 : Held) → ArePasses ss e e1 i i1 → Reaches e i.pending e1 i1.pending
reach [] e e1 i i1 h =
    subst (λ (d : Engine). Reaches e i.pending d i1.pending) (sym h.0)
    (subst (λ (j : Held). Reaches e i.pending e j.pending) (sym h.1) (nothing_reaches e i.pending))
reach (s ∷ ss) e e1 i i1 h =
    both_reach e s.0 e1 i.pending (s.1).pending i1.pending (once_follows e s.0 i s.1 h.0) (once_reaches e s.0 i s.1 h.0) (reach ss s.0 e1 s.1 i1 h.1)

ready : (ss : List (Engine × Held)) (e e1 : Engine) (i i1 : Held) → IsReady i → ArePasses ss e e1 i i1 → IsReady i1
ready [] e e1 i i1 r h = subst IsReady (sym h.1) r
ready (s ∷ ss) e e1 i i1 r h = ready ss s.0 e1 s.1 i1 (once_ready e s.0 i s.1 r h.0) h.1

follows : (ss : List (Engine × Held)) (e e1 : Engine) (i i1 : Held) → ArePasses ss e e1 i i1 → (i1.pending).may_follow ≡ (i.pending).may_follow
follows [] e e1 i i1 h = ap (λ (j : Held). (j.pending).may_follow) h.1
follows (s ∷ ss) e e1 i i1 h = follows ss s.0 e1 s.1 i1 h.1 ∙ once_follows e s.0 i s.1 h.0

limits : (ss : List (Engine × Held)) (e e1 : Engine) (i i1 : Held) → ArePasses ss e e1 i i1 → e1.limits ≡ e.limits
limits [] e e1 i i1 h = ap (λ (d : Engine). d.limits) h.0
limits (s ∷ ss) e e1 i i1 h = limits ss s.0 e1 s.1 i1 h.1 ∙ once_limits e s.0 i s.1 h.0

messages : (ss : List (Engine × Held)) (e e1 : Engine) (i i1 : Held) → ArePasses ss e e1 i i1 → e1.messages ≡ e.messages
messages [] e e1 i i1 h = ap (λ (d : Engine). d.messages) h.0
messages (s ∷ ss) e e1 i i1 h = messages ss s.0 e1 s.1 i1 h.1 ∙ once_messages e s.0 i s.1 h.0

pub passes_reaches : (e e1 : Engine) (i i1 : Held) → Passes e e1 i i1 → Reaches e i.pending e1 i1.pending
passes_reaches e e1 i i1 h = reach h.0 e e1 i i1 h.1

pub passes_ready : (e e1 : Engine) (i i1 : Held) → IsReady i → Passes e e1 i i1 → IsReady i1
passes_ready e e1 i i1 r h = ready h.0 e e1 i i1 r h.1

pub passes_follows : (e e1 : Engine) (i i1 : Held) → Passes e e1 i i1 → (i1.pending).may_follow ≡ (i.pending).may_follow
passes_follows e e1 i i1 h = follows h.0 e e1 i i1 h.1

pub passes_limits : (e e1 : Engine) (i i1 : Held) → Passes e e1 i i1 → e1.limits ≡ e.limits
passes_limits e e1 i i1 h = limits h.0 e e1 i i1 h.1

pub passes_messages : (e e1 : Engine) (i i1 : Held) → Passes e e1 i i1 → e1.messages ≡ e.messages
passes_messages e e1 i i1 h = messages h.0 e e1 i i1 h.1

-- a further pass
further : (ss : List (Engine × Held)) (e e1 e2 : Engine) (i i1 i2 : Held) → ArePasses ss e e1 i i1 → PassesOnce e1 e2 i1 i2 → Passes e e2 i i2
further [] e e1 e2 i i1 i2 h g =
    let k = subst (λ (d : Engine). PassesOnce d e2 i i2) h.0 (subst (λ (j : Held). PassesOnce e1 e2 j i2) h.1 g) in
    ((e2, i2) ∷ [], (k, (refl, refl)))
further (s ∷ ss) e e1 e2 i i1 i2 h g =
    let r = further ss s.0 e1 e2 s.1 i1 i2 h.1 g in
    (s ∷ r.0, (h.0, r.1))

pub passes_on : (e e1 e2 : Engine) (i i1 i2 : Held) → Passes e e1 i i1 → PassesOnce e1 e2 i1 i2 → Passes e e2 i i2
passes_on e e1 e2 i i1 i2 h g = further h.0 e e1 e2 i i1 i2 h.1 g

-- after a pass fewer bytes are left, or more of them were looked at
abbrev pub IsFurther : ℕ → ℕ → Pending → Pending → Type 0
IsFurther k looked p q =
    (k ≤ length (text_of q))
    × ((length (text_of q) < length (text_of p)) ⊎ ((length (text_of q) ≡ length (text_of p)) × (looked < k)))

pub measure_less : (looked k : ℕ) (p q : Pending) → looked ≤ length (text_of p) → IsFurther k looked p q
    → measure (length (text_of q)) k < measure (length (text_of p)) looked
measure_less looked k p q l e = measure_falls (length (text_of q)) (length (text_of p)) looked k l e.0 e.1

-- a block of output is full, so turns put text
pub filled_fall : (e e1 : Engine) (i i1 : Held) → Passes e e1 i i1 → length e.output < 65536 → IsFull e1
    → turns_of e1 i1.pending < turns_of e i.pending
filled_fall e e1 i i1 h few full = by (passes_reaches e e1 i i1 h).fewer
  where
    by : (e1.output ≡ e.output) ⊎ (turns_of e1 i1.pending < turns_of e i.pending) → turns_of e1 i1.pending < turns_of e i.pending
    by (inl g) = let same : length e1.output ≡ length e.output = ap length g in omega (arith, few, full, same)
    by (inr k) = k

-- an input after so many bytes
abbrev pub past : ℕ → Held → Held
past n i = record i { pending = consumed n i.pending }

-- and after none
pub past_none : (n t : ℕ) (i j : Held) → t ≡ 0 → j ≡ past (n + t) i → j ≡ past n i
past_none n t i j e g = let same : n + t ≡ n = omega (arith, e) in g ∙ ap (λ k. past k i) same

pub past_nothing : (n : ℕ) (i j : Held) → n ≡ 0 → (i.pending).definition ≡ None → j ≡ past n i → j ≡ i
past_nothing n i j e d g =
    g ∙ ap (λ k. past k i) e ∙ ap (λ (p : Pending). let k : Held = record i { pending = p } in k) (consumed_none i.pending d)

-- a token was consumed
pub past_taken : (n : ℕ) (i j : Held) → IsReady i → j ≡ past n i → IsTaken j
past_taken n i j r g = record {
  ready = subst IsReady (sym g) (record { sound = r.sound; front = tt });
  taken = ap (λ (k : Held). (k.pending).definition) g;
}

-- the lookahead is this one
pub seen_as : (a b : Lookahead) (c : Call) (e : Engine) (i j : Held) → a ≡ b → IsSeen a c e i j → IsSeen b c e i j
seen_as a b c e i j h w = subst (λ (v : Lookahead). IsSeen v c e i j) h w

-- a pass over a text in front of an input
module _ (a : Option Lookahead) (t : ℕ) (c : Call) (old new : Engine) (i : Held) (looked n : ℕ) (x : List ℕ) (others more : Bool)
    (m : more ≡ (others || (i.pending).may_follow)) (h : IsInFront i.pending x (others || (i.pending).may_follow))
    (longer : others ≡ true → looked < length x) (d : (i.pending).definition ≡ None)
    (r : PassesBy n t a c x more old new) where
  front_once : PassesOnce old new i (past n i)
  front_once = passes_text old new i (past n i) (others || (i.pending).may_follow) n x h d r.within
      (subst (λ (v : Bool). PassesText v n x old new) m r.passes) refl

  -- others come after the bytes that were looked at
  front_open : others ≡ true → IsFurther (length x - n) looked i.pending (consumed n i.pending)
  front_open o =
      let l = front_left i.pending (others || (i.pending).may_follow) n x h r.within in
      let left : length (text_of (consumed n i.pending)) ≡ length (drop n x) + length l.0 = ap length l.1 ∙ length-append (drop n x) l.0 in
      let rest : length (drop n x) ≡ length x - n = length-drop n x in
      (omega (arith, left, rest), by n h r.within)
    where
      by : (n : ℕ) → IsInFront i.pending x (others || (i.pending).may_follow) → n ≤ length x
          → (length (text_of (consumed n i.pending)) < length (text_of i.pending))
          ⊎ ((length (text_of (consumed n i.pending)) ≡ length (text_of i.pending)) × (looked < length x - n))
      by zero h k =
          let more : looked < length x = longer o in
          inr (ap (λ (r : Pending). length (text_of r)) (consumed_none i.pending d), omega (arith, more))
      by (suc n) h k = inl (front_less i.pending (others || (i.pending).may_follow) (suc n) x h (omega arith) k)

  -- some bytes were passed
  front_further : a ≡ None → length new.output < 65536 → IsFurther 0 looked i.pending (consumed n i.pending)
  front_further f few = (omega arith, by (r.none f).1)
    where
      by : (0 < n) ⊎ IsFull new → (length (text_of (consumed n i.pending)) < length (text_of i.pending))
          ⊎ ((length (text_of (consumed n i.pending)) ≡ length (text_of i.pending)) × (looked < 0))
      by (inl e) = inl (front_less i.pending (others || (i.pending).may_follow) n x h e r.within)
      by (inr e) = absurd (let no : 65536 ≤ length new.output = e in omega (arith, few, no))

  -- the bytes of the token have no newlines
  front_inline : IsInline t (drop n x)
  front_inline = by a refl
    where
      by : (o : Option Lookahead) → a ≡ o → IsInline t (drop n x)
      by None e = none_inline t (drop n x) (r.none e).0
      by (Some v) e = next_inline v t new.open_calls c new.state more (drop n x)
          (subst (λ (o : Option Lookahead). IfSome o (λ w. IsNext w t new.open_calls c new.state more (drop n x))) e r.end)

  front_within : (t ≤ n + t) × (n + t ≤ length (text_of i.pending))
  front_within =
      let l = front_left i.pending (others || (i.pending).may_follow) n x h r.within in
      let left : length (text_of (consumed n i.pending)) ≡ length (drop n x) + length l.0 = ap length l.1 ∙ length-append (drop n x) l.0 in
      let rest : length (drop n x) ≡ length x - n = length-drop n x in
      let all : length (text_of (consumed n i.pending)) ≡ length (text_of i.pending) - n = text-consumed n i.pending in
      let fits : n ≤ length x = r.within in
      let token : t ≤ length (drop n x) = front_inline.0 in
      let some : length x ≤ length (text_of i.pending) = front_fits i.pending (others || (i.pending).may_follow) x h in
      (omega arith, omega (arith, left, rest, all, fits, token, some))

  front_none : newlines_in (take t (drop ((n + t) - t) (text_of i.pending))) ≡ 0
  front_none =
      let l = front_left i.pending (others || (i.pending).may_follow) n x h r.within in
      let same : (n + t) - t ≡ n = omega arith in
      ap (λ k. newlines_in (take t (drop k (text_of i.pending)))) same
      ∙ ap (λ (y : List ℕ). newlines_in (take t y)) (drop_parts n (i.pending).pushed (i.pending).unread ∙ l.1)
      ∙ ap newlines_in (take-append-le t (drop n x) l.0 front_inline.0) ∙ front_inline.1

  -- a token was found
  front_found : (others ≡ false → x ≡ text_of i.pending) → (v : Lookahead) → a ≡ Some v → (v ≡ aheads.Undecided → others ≡ false)
      → IsReady i → (j : Held) → j ≡ past (n + t) i → IsSeen v c new (past n i) j
  front_found all v f u q j g =
      let next : IsNext v t new.open_calls c new.state more (drop n x) =
      subst (λ (o : Option Lookahead). IfSome o (λ w. IsNext w t new.open_calls c new.state more (drop n x))) f r.end in
      record {
        len = t;
        ready = once_ready old new i (past n i) q front_once;
        token = next_front v t new.open_calls c new.state i.pending others n x h all r.within u
            (subst (λ (b : Bool). IsNext v t new.open_calls c new.state b (drop n x)) m next);
        after = after_next v t new.open_calls c new.state more (drop n x) (past n i) j next
            (g ∙ ap (λ (p : Pending). let k : Held = record i { pending = p } in k) (sym (consumed_twice n t i.pending)));
      }

  -- a token that is left open is not consumed
  front_undecided : a ≡ Some aheads.Undecided → t ≡ 0
  front_undecided f = (subst (λ (o : Option Lookahead). IfSome o (λ w. IsNext w t new.open_calls c new.state more (drop n x))) f r.end).0

-- what a pass over the front of an input did: `others` come after the bytes that it looked at, of which `left` are left
pub record PassesFront (a : Option Lookahead) (n t : ℕ) (c : Call) (looked left : ℕ) (others : Bool) (old new : Engine) (i : Held) : Type 0 where
  pub once : PassesOnce old new i (past n i)
  pub undecided : others ≡ true → IsFurther left looked i.pending (consumed n i.pending)
  pub further : a ≡ None → length new.output < 65536 → IsFurther 0 looked i.pending (consumed n i.pending)
  pub within : (t ≤ n + t) × (n + t ≤ length (text_of i.pending))
  pub inline : newlines_in (take t (drop ((n + t) - t) (text_of i.pending))) ≡ 0
  pub none : a ≡ None → t ≡ 0
  pub still_open : a ≡ Some aheads.Undecided → t ≡ 0
  pub found : (v : Lookahead) → a ≡ Some v → (v ≡ aheads.Undecided → others ≡ false) → IsReady i → (j : Held)
      → j ≡ past (n + t) i → IsSeen v c new (past n i) j

pub passes_front : (a : Option Lookahead) (t : ℕ) (c : Call) (old new : Engine) (i : Held) (looked n : ℕ) (text : Bor (List ℕ))
    (others more : Bool) (o : Option (Bor (List ℕ) × Bool)) → o ≡ Some (text, others)
    → more ≡ (others || (i.pending).may_follow)
    → IfSome o (λ r. IsInFront i.pending r.0.now (r.1 || (i.pending).may_follow))
    → IfSome o (λ r. r.1 ≡ false → r.0.now ≡ text_of i.pending)
    → IfSome o (λ r. r.1 ≡ true → looked < length r.0.now)
    → IfSome o (λ r. (i.pending).definition ≡ None)
    → PassesBy n t a c text.now more old new
    → PassesFront a n t c looked (length text.now - n) others old new i
passes_front a t c old new i looked n text others more o is m h all longer d r =
    let h = subst (λ (o : Option (Bor (List ℕ) × Bool)). IfSome o (λ r. IsInFront i.pending r.0.now (r.1 || (i.pending).may_follow))) is h in
    let all = subst (λ (o : Option (Bor (List ℕ) × Bool)). IfSome o (λ r. r.1 ≡ false → r.0.now ≡ text_of i.pending)) is all in
    let longer = subst (λ (o : Option (Bor (List ℕ) × Bool)). IfSome o (λ r. r.1 ≡ true → looked < length r.0.now)) is longer in
    let d = subst (λ (o : Option (Bor (List ℕ) × Bool)). IfSome o (λ r. (i.pending).definition ≡ None)) is d in
    record {
      once = front_once a t c old new i looked n text.now others more m h longer d r;
      undecided = front_open a t c old new i looked n text.now others more m h longer d r;
      further = front_further a t c old new i looked n text.now others more m h longer d r;
      within = front_within a t c old new i looked n text.now others more m h longer d r;
      inline = front_none a t c old new i looked n text.now others more m h longer d r;
      none = λ e. (r.none e).0;
      still_open = front_undecided a t c old new i looked n text.now others more m h longer d r;
      found = front_found a t c old new i looked n text.now others more m h longer d r all;
    }

-- a further pass over a front
pub passed_front : (e e1 e2 : Engine) (i i1 i2 t : Held) → Passes e e1 i i1 → IsReady i1 → PassesOnce e1 e2 i1 i2 → t ≡ i2 → Passes e e2 i t × IsReady t
passed_front e e1 e2 i i1 i2 t h r k g =
    (subst (λ (j : Held). Passes e e2 i j) (sym g) (passes_on e e1 e2 i i1 i2 h k), subst IsReady (sym g) (once_ready e1 e2 i1 i2 r k))

-- what passes did, by what they found
pub to_none : (o : Option Lookahead) (c : Call) (old new : Engine) (i j : Held) → o ≡ None → PassesTo o c old new i j → PassesTo None c old new i j
to_none o c old new i j e h = subst (λ (v : Option Lookahead). PassesTo v c old new i j) e h

pub to_some : (o : Option Lookahead) (a : Lookahead) (c : Call) (old new : Engine) (i j : Held) → o ≡ Some a → PassesTo o c old new i j
    → PassesTo (Some a) c old new i j
to_some o a c old new i j e h = subst (λ (v : Option Lookahead). PassesTo v c old new i j) e h
