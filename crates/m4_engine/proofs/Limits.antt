-- Limits: a run that doesn't end by a limit is the same under a larger one.
use Rattle.std.proofs.Common.{◌≡◌, ◌≢◌, ◌⊎◌, inl, inr, ⊎_elim, Option, ℕ, suc, ◌+◌, ◌<◌, ◌≤◌, Bool, true, false, ◌&&◌}
use Rattle.std.proofs.Common.{List, [], Some, None, refl, sym, ap, ◌∙◌, subst, arith}
use Rattle.std.specs.Prelude.{nat_lt}
use Rattle.std.proofs.lemmas.Bool.Decides.{nat_tests}
use Rattle.m4_engine.specs.declared.options.Options.{Options}
use Rattle.m4_engine.specs.declared.ending.Cause.TheVariants as causes
use Rattle.m4_engine.specs.Expansion.{RunSoFar, Limits as TheLimits, EndReason, Ends}
use Rattle.m4_engine.specs.File.{Source, Progress, over_of, after_sources}
use Rattle.m4_engine.specs.Wraps.{rounds, after_wraps}
use Rattle.m4_engine.specs.Start.{Start, begun}
use Rattle.m4_engine.specs.Run.{result_of, saved_after, run_from}
use Rattle.m4_engine.specs.Laws.{IsAsDeep}
use Rattle.m4_engine.proofs.OnePass.{over_wraps}
use Rattle.m4_engine.proofs.Rounds.{Complete, wraps_complete, more_rounds}
use Rattle.m4_engine.proofs.Shifts.{after_record}
use Rattle.m4_engine.proofs.RunsAfter.{Prefixed, sources_follow, rounds_after}
use Rattle.m4_engine.proofs.Cases.{result_by}

complete_moved : (p q : Progress) → p ≡ q → Complete p → Complete q
complete_moved p q e c = subst (λ (x : Progress). Complete x) e c

-- ---- two runs side by side, from nothing

-- what was made before is nothing
nothing_before : (p : Progress) → record { so_far = after_record [] [] 0 p.so_far; over = p.over; any_missing = p.any_missing } ≡ p
nothing_before p = ap (λ (n : ℕ). let q : Progress =
    record { so_far = record p.so_far { calls = n }; over = p.over; any_missing = p.any_missing } in q)
    (let h : 0 + (p.so_far).calls ≡ (p.so_far).calls = omega arith in h)

pub over_how : (v : Option EndReason) (h : EndReason) (freezes : Bool) (saved : List (List ℕ)) (r : RunSoFar)
    (any_missing : Bool) → v ≡ Some h → (result_by v freezes saved r any_missing).reason ≡ h
over_how None h freezes saved r any_missing e = cc
over_how (Some x) h freezes saved r any_missing e = cc

module _ (calls calls' nesting nesting' : ℕ) (room : (k : ℕ) → 0 + k < calls → k < calls')
    (depth : (k : ℕ) → (nat_lt 0 nesting && nat_lt nesting k) ≡ false → (nat_lt 0 nesting' && nat_lt nesting' k)
    ≡ false) (Limit : EndReason → Type 0)
    (at_calls : Limit (Ends causes.ExpansionLimit) ⊎ ((◌≡◌ {A = ℕ} 0 0) × (calls ≡ calls')))
    (at_nesting : Limit (Ends causes.NestingLimit) ⊎ (nesting ≡ nesting'))
    (ends : (h : EndReason) → Limit h → over_of h ≡ Some h) (fewer : calls ≤ calls') where
  abbrev small : TheLimits
  small = record { calls = calls; nesting = nesting }

  abbrev large : TheLimits
  large = record { calls = calls'; nesting = nesting' }

  abbrev Beside : Progress → Progress → Type 0
  Beside = Prefixed [] [] 0 calls calls' nesting nesting' room depth Limit at_calls at_nesting ends

  beside_same : (p q : Progress) → Beside p q → ((h : EndReason) × (p.over ≡ Some h) × Limit h) ⊎ (p ≡ q)
  beside_same p q (inl h) = inl h
  beside_same p q (inr e) = inr (e ∙ nothing_before q)

  start_beside : (start : Start) → Beside (begun start) (begun start)
  start_beside start = inr (sym (nothing_before (begun start)))

  sources_same : (start : Start) (sources : List Source)
      → ((h : EndReason) × ((after_sources small sources (begun start)).over ≡ Some h) × Limit h)
      ⊎ (after_sources small sources (begun start) ≡ after_sources large sources (begun start))
  sources_same start sources =
      beside_same _ _ (sources_follow [] [] 0 calls calls' nesting nesting' room depth Limit at_calls at_nesting ends
      sources (begun start) (begun start) (start_beside start))

  wraps_grow : (p q : Progress) → q ≡ rounds (suc calls) large p → Complete q → q ≡ after_wraps large p
  wraps_grow p q e done = e ∙ sym (more_rounds (suc calls) (suc calls') large p (omega arith) (complete_moved q (rounds (suc calls) large p) e done))

  wraps_same : (p : Progress) → ((h : EndReason) × ((after_wraps small p).over ≡ Some h) × Limit h) ⊎ (after_wraps small p ≡ after_wraps large p)
  wraps_same p =
      ⊎_elim (λ h. inl h)
      (λ e. inr (wraps_grow p (after_wraps small p) e (wraps_complete small p)))
      (beside_same (after_wraps small p) (rounds (suc calls) large p)
      (rounds_after [] [] 0 calls calls' nesting nesting' room depth Limit at_calls at_nesting ends (suc calls) p p
      (inr (sym (nothing_before p)))))

  finish_same : (freezes : Bool) (sources : List Source) (p q : Progress)
      → ((h : EndReason) → Limit h → (result_of freezes (saved_after sources p) (after_wraps small p)).reason ≢ h)
      → ((h : EndReason) × (p.over ≡ Some h) × Limit h) ⊎ (p ≡ q)
      → result_of freezes (saved_after sources q) (after_wraps large q)
      ≡ result_of freezes (saved_after sources p) (after_wraps small p)
  finish_same freezes sources p q n (inl h) =
      absurd (n h.0 h.2 (ap (λ (x : Progress). (result_of freezes (saved_after sources p) x).reason)
      (over_wraps small p h.0 h.1) ∙ over_how p.over h.0 freezes (saved_after sources p) p.so_far p.any_missing h.1))
  finish_same freezes sources p q n (inr e) =
      ap (λ (x : Progress). result_of freezes (saved_after sources x) (after_wraps large x)) (sym e)
      ∙ ⊎_elim
      (λ h. absurd (n h.0 h.2 (over_how (after_wraps small p).over h.0 freezes (saved_after sources p)
      (after_wraps small p).so_far (after_wraps small p).any_missing h.1)))
      (λ f. ap (result_of freezes (saved_after sources p)) (sym f))
      (wraps_same p)

  pub runs_same : (freezes : Bool) (start : Start) (sources : List Source)
      → ((h : EndReason) → Limit h
      → (result_of freezes (saved_after sources (after_sources small sources (begun start)))
      (after_wraps small (after_sources small sources (begun start)))).reason ≢ h)
      → result_of freezes (saved_after sources (after_sources large sources (begun start))) (after_wraps large (after_sources large sources (begun start)))
      ≡ result_of freezes (saved_after sources (after_sources small sources (begun start)))
      (after_wraps small (after_sources small sources (begun start)))
  runs_same freezes start sources n = finish_same freezes sources _ _ n (sources_same start sources)

-- ---- the laws

Is : EndReason → EndReason → Type 0
Is x h = h ≡ x

is_same : (x : EndReason) → Is x x
unfolding Is
is_same x = refl

is : (x h : EndReason) → Is x h → h ≡ x
unfolding Is
is x h e = e

ends_at : (x : EndReason) → over_of x ≡ Some x → (h : EndReason) → Is x h → over_of h ≡ Some h
ends_at x f h e = subst (λ y. over_of y ≡ Some y) (sym (is x h e)) f

lt_true : (a b : ℕ) → a < b → nat_lt a b ≡ true
lt_true a b h = grind (arith, nat_tests)

true_lt : (a b : ℕ) → nat_lt a b ≡ true → a < b
true_lt a b h = grind (arith, nat_tests)

not_both : {b : Bool} → b ≡ true → b ≡ false → ⊥
not_both e f = cc

both_true : (a b : Bool) → a ≡ true → b ≡ true → (a && b) ≡ true
both_true a b e f = rw (e, f) refl

and_right : (a b : Bool) → (a && b) ≡ true → b ≡ true
and_right true b e = e
and_right false b e = cc

false_from : (b : Bool) → (b ≡ true → ⊥) → b ≡ false
false_from true f = absurd (f refl)
false_from false f = refl

as_deep : (n m : ℕ) → IsAsDeep n m → (k : ℕ) → (nat_lt 0 n && nat_lt n k) ≡ false → (nat_lt 0 m && nat_lt m k) ≡ false
as_deep n m (inl e) k f = ap (λ (x : ℕ). nat_lt 0 x && nat_lt x k) e
as_deep n m (inr h) k f =
    false_from _ (λ e.
    let less : m < k = true_lt m k (and_right (nat_lt 0 m) _ e) in
    let most : n ≤ m = h.1 in
    not_both (both_true _ _ (lt_true 0 n h.0) (lt_true n k (omega arith))) f)

pub larger_nesting : (o : Options) (nesting : ℕ) (start : Start) (sources : List Source) → IsAsDeep o.nesting nesting
    → (run_from o start sources).reason ≢ Ends causes.NestingLimit
    → run_from (record o { nesting = nesting }) start sources ≡ run_from o start sources
larger_nesting o nesting start sources deep n =
    runs_same o.calls o.calls o.nesting nesting (λ k h. omega arith) (as_deep o.nesting nesting deep)
    (Is (Ends causes.NestingLimit)) (inr (refl, refl)) (inl (is_same _)) (ends_at (Ends causes.NestingLimit) refl)
    (omega arith) o.freeze start sources
    (λ h l e. n (e ∙ is _ h l))

pub larger_calls : (o : Options) (calls : ℕ) (start : Start) (sources : List Source) → o.calls ≤ calls
    → (run_from o start sources).reason ≢ Ends causes.ExpansionLimit
    → run_from (record o { calls = calls }) start sources ≡ run_from o start sources
larger_calls o calls start sources more n =
    runs_same o.calls calls o.nesting o.nesting (λ k h. omega arith) (λ k e. e) (Is (Ends causes.ExpansionLimit))
    (inl (is_same _)) (inr refl) (ends_at (Ends causes.ExpansionLimit) refl) more o.freeze start sources
    (λ h l e. n (e ∙ is _ h l))
