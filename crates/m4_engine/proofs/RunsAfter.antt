-- RunsAfter: a run that goes on from what was made before does what the run from nothing does.
use Rattle.std.proofs.Common.{◌≡◌, ◌⊎◌, inl, inr, Option, ℕ, zero, suc, ◌+◌, ◌<◌, Bool, true, false, ◌&&◌, List, []}
use Rattle.std.proofs.Common.{◌∷◌, Some, None, refl, sym, ap, ◌∙◌, subst, append_assoc}
use Rattle.std.specs.Prelude.{nat_lt}
use Rattle.m4_input.specs.Pending.{Pending}
use Rattle.m4_engine.specs.declared.ending.Cause.TheVariants as causes
use Rattle.m4_engine.specs.Nesting.{Outcome, Halted, Closed}
use Rattle.m4_engine.specs.Expansion.{RunSoFar, Limits, Expansion, EndReason, Ends, Ended}
use Rattle.m4_engine.specs.Expand.{expand, expansion_of, ended_of, expand_input, out_of_bound_at}
use Rattle.m4_engine.specs.File.{Source, Opened, Unopened, Progress, file_pending, over_of, after_input, read_source}
use Rattle.m4_engine.specs.File.{after_source, after_sources, cannot_open}
use Rattle.m4_engine.specs.Wraps.{read_saved, next_round, rounds, wrapped_pending, joined_back}
use Rattle.m4_engine.proofs.Beside.{Fits}
use Rattle.m4_engine.proofs.Shifts.{after_record, same_after}
use Rattle.m4_engine.proofs.OnePass.{over_sources}
use Rattle.m4_engine.proofs.Cases.{unless_over}

-- a run that is over takes no further round
pub over_rounds : (n : ℕ) (limits : Limits) (p : Progress) (h : EndReason) → p.over ≡ Some h → rounds n limits p ≡ p
over_rounds zero limits p h e = refl
over_rounds (suc n) limits p h e = ap (λ o. next_round (rounds n limits) limits o (p.so_far).saved p) e

-- the parameters of `Shifts`, and that an end at which nothing is claimed ends the run
module _ (o m : List ℕ) (c calls calls' nesting nesting' : ℕ) (room : (k : ℕ) → c + k < calls → k < calls')
    (depth : (k : ℕ) → (nat_lt 0 nesting && nat_lt nesting k) ≡ false → (nat_lt 0 nesting' && nat_lt nesting' k)
    ≡ false) (Limit : EndReason → Type 0)
    (at_calls : Limit (Ends causes.ExpansionLimit) ⊎ ((c ≡ 0) × (calls ≡ calls')))
    (at_nesting : Limit (Ends causes.NestingLimit) ⊎ (nesting ≡ nesting'))
    (ends : (h : EndReason) → Limit h → over_of h ≡ Some h) where
  abbrev pub first : Limits
  first = record { calls = calls; nesting = nesting }

  abbrev pub second : Limits
  second = record { calls = calls'; nesting = nesting' }

  abbrev pub Br : RunSoFar → RunSoFar
  Br = after_record o m c

  abbrev pub Be : Ended → Ended
  Be d = record { so_far = Br d.so_far; reason = d.reason }

  -- the run after what was made before
  abbrev pub Bp : Progress → Progress
  Bp p = record { so_far = Br p.so_far; over = p.over; any_missing = p.any_missing }

  -- nothing is claimed, or the first does as the second
  abbrev pub PrefixedEnd : Ended → Ended → Type 0
  PrefixedEnd d e = Limit d.reason ⊎ (d ≡ Be e)

  abbrev pub Prefixed : Progress → Progress → Type 0
  Prefixed p q = ((h : EndReason) × (p.over ≡ Some h) × Limit h) ⊎ (p ≡ Bp q)

  abbrev Lev : Expansion → Expansion
  Lev s = record s { limits = record s.limits { calls = calls; nesting = nesting }; so_far = Br s.so_far }

  ended_after : (v w : Outcome Expansion Ended)
      → Fits Expansion Ended (λ s t. (s ≡ Lev t) × (((t.limits).calls ≡ calls') × ((t.limits).nesting ≡ nesting')))
      (λ d x. Limit d.reason ⊎ ((e : Ended) × (x ≡ Halted e) × (d ≡ Be e))) v w → PrefixedEnd (ended_of v) (ended_of w)
  ended_after (Halted d) w (inl h) = inl h
  ended_after (Halted d) w (inr h) = inr (h.2 ∙ ap Be (sym (ap ended_of h.1)))
  ended_after (Closed s) w h = inr (ap out_of_bound_at (h.2).0 ∙ ap Be (sym (ap ended_of h.1)))

  pub input_after : (r : RunSoFar) (p : Pending) → PrefixedEnd (expand_input first (Br r) p) (expand_input second r p)
  input_after r p =
      ended_after (expand (expansion_of first (Br r) p)) (expand (expansion_of second r p))
      (same_after o m c calls calls' nesting nesting' room depth Limit at_calls at_nesting (expansion_of second r p) (refl, refl))

  after_after : (d e : Ended) (any_missing : Bool) → PrefixedEnd d e → Prefixed (after_input d any_missing) (after_input e any_missing)
  after_after d e any_missing (inl h) = inl (d.reason, ends d.reason h, h)
  after_after d e any_missing (inr h) = inr (ap (λ (x : Ended). after_input x any_missing) h)

  read_after : (s : Source) (r : RunSoFar) (any_missing : Bool) → Prefixed (read_source first s (Br r) any_missing) (read_source second s r any_missing)
  read_after (Opened name bytes) r any_missing = after_after _ _ any_missing (input_after r (file_pending name bytes false))
  read_after (Unopened name) r any_missing =
      inr (ap (λ (x : List ℕ). let p : Progress =
      record { so_far = record (Br r) { messages = x }; over = None; any_missing = true } in p)
      (append_assoc m r.messages (cannot_open name)))

  unless_after : (v : Option EndReason) (q new new' : Progress) → Prefixed new new' → Prefixed (unless_over v (Bp q) new) (unless_over v q new')
  unless_after None q new new' h = h
  unless_after (Some x) q new new' h = inr refl

  source_follows : (s : Source) (p q : Progress) → Prefixed p q → Prefixed (after_source first s p) (after_source second s q)
  source_follows s p q (inl h) = inl (h.0, ap (λ (x : Progress). x.over) (over_sources first (s ∷ []) p h.0 h.1) ∙ h.1, h.2)
  source_follows s p q (inr e) =
      subst (λ x. Prefixed (after_source first s x) (after_source second s q)) (sym e)
      (unless_after q.over q _ _ (read_after s q.so_far q.any_missing))

  pub sources_follow : (ss : List Source) (p q : Progress) → Prefixed p q → Prefixed (after_sources first ss p) (after_sources second ss q)
  sources_follow [] p q h = h
  sources_follow (s ∷ ss) p q h = sources_follow ss (after_source first s p) (after_source second s q) (source_follows s p q h)

  pub round_follows : (saved : List (List ℕ)) (q : Progress) → Prefixed (read_saved first saved (Bp q)) (read_saved second saved q)
  round_follows saved q = after_after _ _ q.any_missing (input_after (record q.so_far { saved = [] }) (wrapped_pending (joined_back saved)))

  next_after : (go go' : Progress → Progress) → ((p q : Progress) → Prefixed p q → Prefixed (go p) (go' q))
      → (v : Option EndReason) (saved : List (List ℕ)) (q : Progress)
      → Prefixed (next_round go first v saved (Bp q)) (next_round go' second v saved q)
  next_after go go' h (Some x) saved q = inr refl
  next_after go go' h None [] q = inr refl
  next_after go go' h None (x ∷ xs) q =
      h (read_saved first (x ∷ xs) (Bp q)) (read_saved second (x ∷ xs) q) (round_follows (x ∷ xs) q)

  pub rounds_after : (n : ℕ) (p q : Progress) → Prefixed p q → Prefixed (rounds n first p) (rounds n second q)
  rounds_after n p q (inl h) = inl (h.0, ap (λ (x : Progress). x.over) (over_rounds n first p h.0 h.1) ∙ h.1, h.2)
  rounds_after zero p q (inr e) = inr e
  rounds_after (suc n) p q (inr e) =
      subst (λ x. Prefixed (rounds (suc n) first x) (rounds (suc n) second q)) (sym e)
      (next_after (rounds n first) (rounds n second) (rounds_after n) q.over (q.so_far).saved q)
