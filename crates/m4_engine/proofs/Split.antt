-- Split: a run that stops at a frozen file, and the one that goes on from it, are one run.
use Rattle.std.proofs.Common.{◌≡◌, ◌≢◌, inl, inr, Option, ℕ, suc, ◌+◌, ◌<◌, Bool, true, false, List, [], ◌∷◌, ◌++◌}
use Rattle.std.proofs.Common.{Some, None, refl, sym, ap, ◌∙◌, subst, arith, append_assoc, append-nil}
use Rattle.m4_state.specs.State.{State}
use Rattle.m4_frozen.specs.Freeze.{freeze}
use Rattle.m4_engine.specs.declared.options.Options.{Options}
use Rattle.m4_engine.specs.declared.ending.Cause.TheVariants as causes
use Rattle.m4_engine.specs.Expansion.{RunSoFar, Limits, EndReason, Ends}
use Rattle.m4_engine.specs.File.{Source, Progress, over_of, after_sources}
use Rattle.m4_engine.specs.Wraps.{next_round, rounds, after_wraps, close}
use Rattle.m4_engine.specs.Start.{Start, From, Faulty, begun}
use Rattle.m4_engine.specs.Run.{RunResult, limits_of, closed_output, result_of}
use Rattle.m4_engine.specs.Run.{saved_after, run_from}
use Rattle.m4_engine.specs.Carries.{Carries, frozen_state}
use Rattle.m4_engine.specs.Joined.{freezing, Joins}
use Rattle.m4_engine.proofs.OnePass.{over_wraps, sources_append}
use Rattle.m4_engine.proofs.Limits.{over_how}
use Rattle.m4_engine.proofs.Shifts.{after_record}
use Rattle.m4_engine.proofs.RunsAfter.{Bp, Prefixed, sources_follow, rounds_after}
use Rattle.m4_engine.proofs.Cases.{result_by, saved_unless_over}

-- a run that froze is not over, and froze its state
pub frozen_by : (v : Option EndReason) (saved : List (List ℕ)) (r : RunSoFar) (any_missing : Bool) (text : List ℕ)
    → (result_by v true saved r any_missing).frozen ≡ Some text → (v ≡ None) × (text ≡ freeze r.state)
frozen_by None saved r any_missing text e = (refl, cc)
frozen_by (Some h) saved r any_missing text e = cc

saved_by : (v : Option EndReason) (freezes : Bool) (saved : List (List ℕ)) (r : RunSoFar) (any_missing : Bool)
    → (result_by v freezes saved r any_missing).saved ≡ saved
saved_by None freezes saved r any_missing = refl
saved_by (Some h) freezes saved r any_missing = refl

none_not_some : {A : Type 0} (x : A) (v : Option A) → v ≡ None → v ≡ Some x → ⊥
none_not_some x v e f = cc

-- if the run after its saved texts isn't over, the run before them wasn't
not_over_before : (limits : Limits) (p : Progress) → (after_wraps limits p).over ≡ None → p.over ≡ None
not_over_before limits p e = go p.over refl
  where
    go : (v : Option EndReason) → p.over ≡ v → v ≡ None
    go None f = refl
    go (Some h) f = absurd (none_not_some h (after_wraps limits p).over e (ap (λ (q : Progress). q.over) (over_wraps limits p h f) ∙ f))

-- the saved texts, if no source saved any
saved_here : (sources : List Source) (start : Start) (limits : Limits) (p : Progress)
    → p ≡ after_sources limits sources (begun start) → p.over ≡ None → saved_after sources p ≡ [] → (p.so_far).saved ≡ []
saved_here [] (From s issued) limits p e f g = ap (λ (q : Progress). (q.so_far).saved) e
saved_here [] (Faulty fault) limits p e f g = absurd (none_not_some (Ends (causes.Frozen fault)) p.over f (ap (λ (q : Progress). q.over) e))
saved_here (s ∷ ss) start limits p e f g = ap (λ o. saved_unless_over o p.so_far) (sym f) ∙ g

-- then no round is read
no_round : (limits : Limits) (p : Progress) → p.over ≡ None → (p.so_far).saved ≡ [] → after_wraps limits p ≡ p
no_round limits p e f =
    ap (λ o. next_round (rounds limits.calls limits) limits o (p.so_far).saved p) e
    ∙ ap (λ saved. next_round (rounds limits.calls limits) limits None saved p) f

status_zero : (v : Option EndReason) (saved : List (List ℕ)) (r : RunSoFar) (any_missing : Bool) → v ≡ None
    → (result_by v true saved r any_missing).status ≡ 0 → any_missing ≡ false
status_zero None saved r true e f = absurd (let g : 1 ≡ 0 = f in omega arith)
status_zero None saved r false e f = refl
status_zero (Some h) saved r any_missing e f = cc

module _ (limits : Limits) where
  Excused : EndReason → Type 0
  Excused h = h ≡ Ends causes.ExpansionLimit

  ends : (h : EndReason) → Excused h → over_of h ≡ Some h
  unfolding Excused
  ends h e = subst (λ x. over_of x ≡ Some x) (sym e) refl

  excused : Excused (Ends causes.ExpansionLimit)
  unfolding Excused
  excused = refl

  opened : (h : EndReason) → Excused h → h ≡ Ends causes.ExpansionLimit
  unfolding Excused
  opened h e = e

  fewer : (c k : ℕ) → c + k < limits.calls → k < limits.calls
  fewer c k h = omega arith

  abbrev PrefixedRun : RunSoFar → Progress → Progress → Type 0
  PrefixedRun r = Prefixed r.output r.messages r.calls limits.calls limits.calls limits.nesting limits.nesting
      (fewer r.calls) (λ k e. e) Excused (inl excused) (inr refl) ends

  abbrev Bp' : RunSoFar → Progress → Progress
  Bp' r = Bp r.output r.messages r.calls limits.calls limits.calls limits.nesting limits.nesting (fewer r.calls)
      (λ k e. e) Excused (inl excused) (inr refl) ends

  -- the run goes on from what was made, as from nothing
  goes_on : (p : Progress) → p.over ≡ None → (p.so_far).saved ≡ [] → p.any_missing ≡ false → p ≡ Bp' p.so_far (begun (From (p.so_far).state []))
  goes_on p e f g =
      ap (λ (o : Option EndReason). let q : Progress = record { so_far = p.so_far; over = o; any_missing = p.any_missing } in q) e
      ∙ ap (λ (b : Bool). let q : Progress = record { so_far = p.so_far; over = None; any_missing = b } in q) g
      ∙ ap (λ (x : List (List ℕ)). let q : Progress = record { so_far = record p.so_far { saved = x }; over = None; any_missing = false } in q) f
      ∙ ap (λ (x : List ℕ). let q : Progress =
      record { so_far = record p.so_far { saved = []; output = x }; over = None; any_missing = false } in q)
      (sym (append-nil (p.so_far).output))
      ∙ ap (λ (x : List ℕ). let q : Progress =
      record {
        so_far = record p.so_far { saved = []; output = (p.so_far).output ++ []; messages = x };
        over = None;
        any_missing = false;
      } in q) (sym (append-nil (p.so_far).messages))
      ∙ ap (λ (n : ℕ). let q : Progress =
      record {
        so_far = record p.so_far
            { saved = []; output = (p.so_far).output ++ []; messages = (p.so_far).messages ++ []; calls = n };
        over = None;
        any_missing = false;
      } in q) (let h : (p.so_far).calls ≡ (p.so_far).calls + 0 = omega arith in h)

  sources_alone : (bs : List Source) (p : Progress) → p.over ≡ None → (p.so_far).saved ≡ [] → p.any_missing ≡ false
      → PrefixedRun p.so_far (after_sources limits bs p) (after_sources limits bs (begun (From (p.so_far).state [])))
  sources_alone bs p e f g =
      let r : RunSoFar = p.so_far in
      sources_follow r.output r.messages r.calls limits.calls limits.calls limits.nesting limits.nesting (fewer r.calls)
      (λ k e. e) Excused (inl excused) (inr refl) ends bs p (begun (From r.state [])) (inr (goes_on p e f g))

  sources_go_on : (bs : List Source) (p : Progress) → p.over ≡ None → (p.so_far).saved ≡ [] → p.any_missing ≡ false
      → PrefixedRun p.so_far (after_wraps limits (after_sources limits bs p))
      (after_wraps limits (after_sources limits bs (begun (From (p.so_far).state []))))
  sources_go_on bs p e f g =
      let r : RunSoFar = p.so_far in
      rounds_after r.output r.messages r.calls limits.calls limits.calls limits.nesting limits.nesting (fewer r.calls)
      (λ k e. e) Excused (inl excused) (inr refl) ends (suc limits.calls)
      (after_sources limits bs p) (after_sources limits bs (begun (From r.state [])))
      (sources_alone bs p e f g)

-- the result of a run that froze with nothing saved and status 0
first_result : List (List ℕ) → RunSoFar → RunResult
first_result saved r = result_by None true saved r false

output_joins : (freezes : Bool) (r q : RunSoFar)
    → closed_output freezes (record q
    { output = r.output ++ q.output; messages = r.messages ++ q.messages; calls = r.calls + q.calls })
    ≡ r.output ++ closed_output freezes q
output_joins true r q = refl
output_joins false r q = append_assoc r.output q.output (close q.state)

-- ---- the texts that were saved when the last source ended

saved_after_some : (as' : List Source) (b : Source) (bs : List Source) (p : Progress) → saved_after (as' ++ b ∷ bs) p ≡ saved_unless_over p.over p.so_far
saved_after_some [] b bs p = refl
saved_after_some (a ∷ as') b bs p = refl

saved_of_both : (limits : Limits) (r : RunSoFar) (v : Option EndReason) (q : RunSoFar)
    → saved_unless_over v (after_record r.output r.messages r.calls q) ≡ saved_unless_over v q
saved_of_both limits r None q = refl
saved_of_both limits r (Some h) q = refl

-- a joint run's are those of the run that goes on
same_saved : (limits : Limits) (freezes : Bool) (as' bs : List Source) (saved : List (List ℕ)) (r : RunSoFar)
    (p q : Progress) → saved_after as' p ≡ []
    → PrefixedRun limits r (after_sources limits bs p) (after_sources limits bs q)
    → (result_of freezes saved (after_wraps limits (after_sources limits bs p))).reason ≢ Ends causes.ExpansionLimit
    → saved_after (as' ++ bs) (after_sources limits bs p) ≡ saved_after bs (after_sources limits bs q)
same_saved limits freezes as' [] saved r p q nothing after n = ap (λ (x : List Source). saved_after x p) (append-nil as') ∙ nothing
same_saved limits freezes as' (b ∷ bs) saved r p q nothing (inl h) n =
    let j : Progress = after_sources limits (b ∷ bs) p in
    absurd (n (ap (λ (x : Progress). (result_of freezes saved x).reason) (over_wraps limits j h.0 h.1)
    ∙ over_how j.over h.0 freezes saved j.so_far j.any_missing h.1 ∙ opened limits h.0 h.2))
same_saved limits freezes as' (b ∷ bs) saved r p q nothing (inr e) n =
    let j : Progress = after_sources limits (b ∷ bs) p in
    let k : Progress = after_sources limits (b ∷ bs) q in
    saved_after_some as' b bs j
    ∙ ap (λ (x : Progress). saved_unless_over x.over x.so_far) e
    ∙ saved_of_both limits r k.over k.so_far

-- the results of the three runs
results_join : (freezes : Bool) (saved saved' saved'' : List (List ℕ)) (r : RunSoFar) (v : Option EndReason)
    (q : RunSoFar) (any_missing : Bool) → saved'' ≡ saved'
    → Joins (first_result saved r) (result_by v freezes saved' q any_missing)
    (result_by v freezes saved''
    (record q { output = r.output ++ q.output; messages = r.messages ++ q.messages; calls = r.calls + q.calls })
    any_missing)
unfolding first_result
results_join freezes saved saved' saved'' r None q any_missing same =
    record {
      output = output_joins freezes r q;
      messages = refl;
      reason = refl;
      status = refl;
      frozen = refl;
      calls = refl;
      saved = same;
    }
results_join freezes saved saved' saved'' r (Some h) q any_missing same =
    record { output = refl; messages = refl; reason = refl; status = refl; frozen = refl; calls = refl; saved = same }

joined_results : (limits : Limits) (freezes : Bool) (saved saved' saved'' : List (List ℕ)) (r : RunSoFar)
    (j b : Progress) → PrefixedRun limits r j b → saved'' ≡ saved'
    → (result_of freezes saved'' j).reason ≢ Ends causes.ExpansionLimit
    → Joins (first_result saved r) (result_of freezes saved' b) (result_of freezes saved'' j)
joined_results limits freezes saved saved' saved'' r j b (inl h) same n =
    absurd (n (over_how j.over h.0 freezes saved'' j.so_far j.any_missing h.1 ∙ opened limits h.0 h.2))
joined_results limits freezes saved saved' saved'' r j b (inr e) same n =
    subst (λ (x : Progress). Joins (first_result saved r) (result_of freezes saved' b) (result_of freezes saved'' x)) (sym e)
    (results_join freezes saved saved' saved'' r b.over b.so_far b.any_missing same)

pub split_states : (o : Options) (freezes : Bool) (start : Start) (as' bs : List Source) (text : List ℕ)
    → Carries (freezing true o) start as' → (run_from (freezing true o) start as').frozen ≡ Some text
    → (run_from (freezing freezes o) start (as' ++ bs)).reason ≢ Ends causes.ExpansionLimit
    → Joins (run_from (freezing true o) start as')
    (run_from (freezing freezes o) (From (frozen_state (freezing true o) start as') []) bs)
    (run_from (freezing freezes o) start (as' ++ bs))
unfolding first_result
split_states o freezes start as' bs text carries frozen joint =
    let limits : Limits = limits_of o in
    let p : Progress = after_sources limits as' (begun start) in
    let e : Progress = after_wraps limits p in
    let at_end : e.over ≡ None = (frozen_by e.over (saved_after as' p) e.so_far e.any_missing text frozen).0 in
    let here : p.over ≡ None = not_over_before limits p at_end in
    let nothing : saved_after as' p ≡ [] = sym (saved_by e.over true (saved_after as' p) e.so_far e.any_missing) ∙ carries.nothing_saved in
    let saved : (p.so_far).saved ≡ [] = saved_here as' start limits p refl here nothing in
    let same : e ≡ p = no_round limits p here saved in
    let opened' : e.any_missing ≡ false = status_zero e.over (saved_after as' p) e.so_far e.any_missing at_end carries.status in
    let any_missing : p.any_missing ≡ false = ap (λ (q : Progress). q.any_missing) (sym same) ∙ opened' in
    let all : Progress = after_sources limits (as' ++ bs) (begun start) in
    let apart : all ≡ after_sources limits bs p = sources_append limits as' bs (begun start) in
    let saved'' : List (List ℕ) = saved_after (as' ++ bs) all in
    let first : run_from (freezing true o) start as' ≡ first_result (saved_after as' p) p.so_far =
    ap (λ (q : Progress). result_of true (saved_after as' p) q) same
    ∙ ap (λ v. result_by v true (saved_after as' p) p.so_far p.any_missing) here
    ∙ ap (result_by None true (saved_after as' p) p.so_far) any_missing in
    let b : Progress = after_wraps limits (after_sources limits bs (begun (From (p.so_far).state []))) in
    let limit : (result_of freezes saved'' (after_wraps limits (after_sources limits bs p))).reason ≢ Ends
    causes.ExpansionLimit = λ x. joint
    (ap (λ (q : Progress). (result_of freezes saved'' (after_wraps limits q)).reason) apart ∙ x) in
    let still : saved'' ≡ saved_after bs (after_sources limits bs (begun (From (p.so_far).state []))) =
    ap (λ (q : Progress). saved_after (as' ++ bs) q) apart
    ∙ same_saved limits freezes as' bs saved'' p.so_far p (begun (From (p.so_far).state [])) nothing (sources_alone limits bs p here saved any_missing) limit in
    subst (λ (s : State). Joins (run_from (freezing true o) start as') (run_from (freezing freezes o) (From s []) bs)
    (run_from (freezing freezes o) start (as' ++ bs))) (ap (λ (q : Progress). (q.so_far).state) (sym same))
    (subst (λ (x : RunResult). Joins x (run_from (freezing freezes o) (From (p.so_far).state []) bs)
    (run_from (freezing freezes o) start (as' ++ bs))) (sym first)
    (subst (λ (q : Progress). Joins (first_result (saved_after as' p) p.so_far)
    (run_from (freezing freezes o) (From (p.so_far).state []) bs)
    (result_of freezes saved'' (after_wraps limits q))) (sym apart)
    (joined_results limits freezes (saved_after as' p)
    (saved_after bs (after_sources limits bs (begun (From (p.so_far).state [])))) saved'' p.so_far
    (after_wraps limits (after_sources limits bs p)) b (sources_go_on limits bs p here saved any_missing) still limit)))
