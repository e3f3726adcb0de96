-- Leading: where the machine comes to from a place, whatever follows the bytes in hand.
use Rattle.std.proofs.Common.{◌≡◌, Bool, List, [], ◌∷◌, ◌++◌, Some, None, refl, sym, ap, ◌∙◌, subst, append-nil}
use Rattle.std.proofs.Common.{ℕ, append_assoc}
use Rattle.m4_input.specs.Pending.{Pending}
use Rattle.m4_input.specs.Input.{Held, longer, all_read, after_line}
use Rattle.m4_input.proofs.Decided.{no_newline}
use Rattle.m4_engine.specs.declared.machine.driver.Wanted.{Wanted}
use Rattle.m4_engine.specs.declared.machine.driver.Wanted.TheVariants as wanted
use Rattle.m4_engine.specs.declared.turned.Turned.TheVariants as turns
use Rattle.m4_engine.specs.OpenCalls.{pop}
use Rattle.m4_engine.specs.Expansion.{Expansion, Kept, Ended}
use Rattle.m4_engine.specs.Expand.{turn, join}
use Rattle.m4_engine.specs.Engine.{Engine, outer_of, here_of, configuration}
use Rattle.m4_engine.specs.Moments.{Moment, moved, Comes}
use Rattle.m4_engine.specs.Turns.{MayFollow, Moves}
use Rattle.m4_engine.specs.Passes.{Passes}
use Rattle.m4_engine.specs.Continued.{comes_to, stands, Leads}
use Rattle.m4_engine.proofs.Moments.{on_from, comes_same, stands_same}
use Rattle.m4_engine.proofs.Passing.{passes_reaches, passes_limits, passes_follows}
use Rattle.m4_engine.proofs.SkippedLines.{skip_cut, line_done, line_keeps}

-- on from a place that another leads to
pub leads_then : (w v u : Wanted) (e0 e e2 : Engine) (p0 p q : Pending) (o m x y : List ℕ) → Leads w e0 p0 v e p o m
    → Leads v e p u e2 q x y → Leads w e0 p0 u e2 q (o ++ x) (m ++ y)
leads_then w v u e0 e e2 p0 p q o m x y f g = record {
  comes = λ z more c a b.
      let first = f.comes z more c a b in
      let later = g.comes z more (subst (λ v. MayFollow v z more) (sym f.follows) c) (a ++ o) (b ++ m) in
      let all = on_from first.0 later.0 (stands w (configuration a b e0 (longer z more p0))) (stands v (configuration (a ++ o) (b ++ m) e (longer z more p)))
      (stands u (configuration ((a ++ o) ++ x) ((b ++ m) ++ y) e2 (longer z more q))) first.1 later.1 in (
        first.0 ++ later.0,
        subst (λ (n : List ℕ). Comes (first.0 ++ later.0) (stands w (configuration a b e0 (longer z more p0)))
            (stands u (configuration n (b ++ (m ++ y)) e2 (longer z more q)))) (append_assoc a o x)
            (subst (λ (n : List ℕ). Comes (first.0 ++ later.0) (stands w (configuration a b e0 (longer z more p0)))
            (stands u (configuration ((a ++ o) ++ x) n e2 (longer z more q)))) (append_assoc b m y) all),
      );
  follows = g.follows ∙ f.follows;
  limits = g.limits ∙ f.limits;
}

-- the same, if nothing was written on the way
pub leads_on : (w v u : Wanted) (e0 e e2 : Engine) (p0 p q : Pending) (o m : List ℕ) → Leads w e0 p0 v e p o m
    → Leads v e p u e2 q [] [] → Leads w e0 p0 u e2 q o m
leads_on w v u e0 e e2 p0 p q o m f g =
    subst (λ (x : List ℕ). Leads w e0 p0 u e2 q x m) (append-nil o)
    (subst (λ (y : List ℕ). Leads w e0 p0 u e2 q (o ++ []) y) (append-nil m) (leads_then w v u e0 e e2 p0 p q o m [] [] f g))

-- a step that leads on, with what was written so far in front
step_leads : (w v : Wanted) (e e2 : Engine) (p q : Pending)
    → ((z : List ℕ) (more : Bool) → MayFollow p.may_follow z more → (a b : List ℕ)
    → (way : List Moment) × Comes way (stands w (configuration a b e (longer z more p))) (stands v (configuration a b e2 (longer z more q))))
    → q.may_follow ≡ p.may_follow → e2.limits ≡ e.limits → Leads w e p v e2 q [] []
step_leads w v e e2 p q h f l = record {
  comes = λ z more c a b.
      let k = h z more c a b in (
        k.0,
        subst (λ (n : List ℕ). Comes k.0 (stands w (configuration a b e (longer z more p)))
            (stands v (configuration n (b ++ []) e2 (longer z more q)))) (sym (append-nil a))
            (subst (λ (n : List ℕ). Comes k.0 (stands w (configuration a b e (longer z more p)))
            (stands v (configuration a n e2 (longer z more q)))) (sym (append-nil b)) k.1),
      );
  follows = f;
  limits = l;
}

pub leads_nowhere : (w : Wanted) (e : Engine) (p : Pending) → Leads w e p w e p [] []
leads_nowhere w e p = step_leads w w e e p p (λ z more c a b. ([], refl)) refl refl

-- tokens that are plain text were added at once
pub leads_past : (e e1 : Engine) (i i1 : Held) → Passes e e1 i i1 → Leads wanted.Token e i.pending wanted.Token e1 i1.pending [] []
leads_past e e1 i i1 h = step_leads wanted.Token wanted.Token e e1 i.pending i1.pending
    (λ z more c a b. (passes_reaches e e1 i i1 h).comes z more c a b) (passes_follows e e1 i i1 h) (passes_limits e e1 i i1 h)

-- a turn after which the expansion continues
pub leads_turn : (e e' : Engine) (p p' : Pending) → p'.may_follow ≡ p.may_follow → e'.limits ≡ e.limits
    → Moves p.may_follow e' p' turns.GoesOn (λ z more o m. moved (configuration o m e (longer z more p)))
    → Leads wanted.Token e p wanted.Token e' p' [] []
leads_turn e e' p p' f l h = step_leads wanted.Token wanted.Token e e' p p'
    (λ z more c a b. (configuration a b e (longer z more p) ∷ [], (refl, sym (h z more c a b)))) f l

-- a call was made that discards the rest of the line
pub leads_to_line : (e e' : Engine) (p p' : Pending) → p'.may_follow ≡ p.may_follow → e'.limits ≡ e.limits
    → Moves p.may_follow e' p' turns.SkipsLine (λ z more o m. moved (configuration o m e (longer z more p)))
    → Leads wanted.Token e p wanted.Line e' p' [] []
leads_to_line e e' p p' f l h = step_leads wanted.Token wanted.Line e e' p p'
    (λ z more c a b. (configuration a b e (longer z more p) ∷ [], (refl, sym (h z more c a b)))) f l

-- the rest of the line was in hand
pub leads_past_line : (e : Engine) (p q : Pending) → after_line p ≡ Some q → Leads wanted.Line e p wanted.Token e q [] []
leads_past_line e p q h = step_leads wanted.Line wanted.Token e e p q
    (λ z more c a b. (
      [],
      sym (ap (λ v. pop Expansion Kept Ended turn join (outer_of e.open_calls) v)
          (line_done (here_of a b e p) p q z more c h)),
    )) (line_keeps p q h) refl

-- it was not: the bytes in hand were dropped
pub leads_along_line : (e : Engine) (p : Pending) → after_line p ≡ None → Leads wanted.Line e p wanted.Line e (all_read p) [] []
leads_along_line e p h = step_leads wanted.Line wanted.Line e e p (all_read p)
    (λ z more c a b. (
      [],
      sym (ap (λ v. pop Expansion Kept Ended turn join (outer_of e.open_calls) v)
          (skip_cut (here_of a b e p) p z more (no_newline p h))),
    )) refl refl

-- some of the buffers were flushed
pub leads_flushed : (v : Wanted) (e e2 : Engine) (p : Pending) (x y : List ℕ)
    → e ≡ record e2 { output = x ++ e2.output; messages = y ++ e2.messages } → Leads v e p v e2 p x y
leads_flushed v e e2 p x y h = record {
  comes = λ z more c a b. (
    [],
    (rw (append_assoc a x e2.output, append_assoc b y e2.messages) refl)
        ∙ sym (ap (λ (d : Engine). stands v (configuration a b d (longer z more p))) h),
  );
  follows = refl;
  limits = sym (ap (λ (d : Engine). d.limits) h);
}

-- what it comes to in the end is the same
pub leads_same : (w v : Wanted) (e0 e : Engine) (p0 p : Pending) (o m : List ℕ) → Leads w e0 p0 v e p o m
    → (z : List ℕ) (more : Bool) → MayFollow p0.may_follow z more → (a b : List ℕ)
    → comes_to v (configuration (a ++ o) (b ++ m) e (longer z more p)) ≡ comes_to w (configuration a b e0 (longer z more p0))
leads_same w v e0 e p0 p o m f z more c a b =
    let k = f.comes z more c a b in
    sym (stands_same v (configuration (a ++ o) (b ++ m) e (longer z more p)))
    ∙ comes_same k.0 (stands w (configuration a b e0 (longer z more p0))) (stands v (configuration (a ++ o) (b ++ m) e (longer z more p))) k.1
    ∙ stands_same w (configuration a b e0 (longer z more p0))
