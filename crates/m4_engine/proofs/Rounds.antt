-- Rounds: the rounds of saved texts have no bound that is ever reached.
use Rattle.std.proofs.Common.{◌≡◌, ◌⊎◌, inl, inr, ⊎_elim, ℕ, zero, suc, ◌-◌, ◌<◌, ◌≤◌, List, [], ◌∷◌, Option, Some}
use Rattle.std.proofs.Common.{None, refl, sym, ap, ◌∙◌, subst, arith}
use Rattle.m4_engine.specs.Expansion.{Limits as TheLimits, EndReason}
use Rattle.m4_engine.specs.File.{Progress}
use Rattle.m4_engine.specs.Wraps.{read_saved, next_round, rounds, after_wraps, joined_back, wrapped_pending}
use Rattle.m4_engine.specs.Laws.{FollowsRounds, WrapsRules}
use Rattle.m4_engine.proofs.SavesCount.{input_saves}
use Rattle.m4_engine.proofs.RunsAfter.{over_rounds}

-- no round is left: the run is over, or no text is saved
abbrev pub Complete : Progress → Type 0
Complete p = ((h : EndReason) × (p.over ≡ Some h)) ⊎ ((p.so_far).saved ≡ [])

complete_by : (v : Option EndReason) (go : Progress → Progress) (limits : TheLimits) (p : Progress) → p.over ≡ v
    → (p.so_far).saved ≡ [] → next_round go limits v (p.so_far).saved p ≡ p
complete_by None go limits p e f = ap (λ saved. next_round go limits None saved p) f
complete_by (Some h) go limits p e f = refl

-- then rounds change nothing
complete_stays : (n : ℕ) (limits : TheLimits) (p : Progress) → Complete p → rounds n limits p ≡ p
complete_stays n limits p (inl h) = over_rounds n limits p h.0 h.1
complete_stays zero limits p (inr e) = refl
complete_stays (suc n) limits p (inr e) = complete_by p.over (rounds n limits) limits p refl e

complete_after : (n : ℕ) (limits : TheLimits) (p : Progress) → Complete p → Complete (rounds n limits p)
complete_after n limits p h = subst Complete (sym (complete_stays n limits p h)) h

-- a round leaves no text, or fewer calls
pub round_saves : (limits : TheLimits) (saved : List (List ℕ)) (p : Progress)
    → ((read_saved limits saved p).so_far.saved ≡ [])
    ⊎ (limits.calls - (read_saved limits saved p).so_far.calls < limits.calls - (p.so_far).calls)
round_saves limits saved p = (input_saves limits (record p.so_far { saved = [] }) (wrapped_pending (joined_back saved))).1

next_complete : (go : Progress → Progress) (limits : TheLimits) (l : ℕ)
    → ((q : Progress) → Complete q → Complete (go q))
    → ((q : Progress) → limits.calls - (q.so_far).calls < l → Complete (go q))
    → (v : Option EndReason) (saved : List (List ℕ)) (p : Progress) → p.over ≡ v → (p.so_far).saved ≡ saved
    → limits.calls - (p.so_far).calls ≤ l → Complete (next_round go limits v saved p)
next_complete go limits l h g (Some x) saved p e f k = inl (x, e)
next_complete go limits l h g None [] p e f k = inr f
next_complete go limits l h g None (x ∷ xs) p e f k =
    ⊎_elim
    (λ s. h (read_saved limits (x ∷ xs) p) (inr s))
    (λ (s : limits.calls - (read_saved limits (x ∷ xs) p).so_far.calls < limits.calls - (p.so_far).calls). g (read_saved limits (x ∷ xs) p) (omega arith))
    (round_saves limits (x ∷ xs) p)

rounds_complete : (n : ℕ) (limits : TheLimits) (p : Progress) → limits.calls - (p.so_far).calls < n → Complete (rounds n limits p)
rounds_complete zero limits p h = absurd (omega arith)
rounds_complete (suc n) limits p h =
    next_complete (rounds n limits) limits n (complete_after n limits) (λ q k. rounds_complete n limits q k) p.over (p.so_far).saved p refl refl (omega arith)

pub wraps_complete : (limits : TheLimits) (p : Progress) → Complete (after_wraps limits p)
wraps_complete limits p = rounds_complete (suc limits.calls) limits p (omega arith)

-- with more rounds than were enough the run is the same
next_same : (go go' : Progress → Progress) (limits : TheLimits) → ((q : Progress) → Complete (go q) → go' q ≡ go q)
    → (v : Option EndReason) (saved : List (List ℕ)) (p : Progress) → Complete (next_round go limits v saved p)
    → next_round go' limits v saved p ≡ next_round go limits v saved p
next_same go go' limits h (Some x) saved p c = refl
next_same go go' limits h None [] p c = refl
next_same go go' limits h None (x ∷ xs) p c = h (read_saved limits (x ∷ xs) p) c

pub more_rounds : (n m : ℕ) (limits : TheLimits) (p : Progress) → n ≤ m → Complete (rounds n limits p) → rounds m limits p ≡ rounds n limits p
more_rounds zero m limits p h c = complete_stays m limits p c
more_rounds (suc n) zero limits p h c = absurd (omega arith)
more_rounds (suc n) (suc m) limits p h c =
    next_same (rounds n limits) (rounds m limits) limits (λ q k. more_rounds n m limits q (omega arith) k) p.over
    (p.so_far).saved p c

-- the round that comes next, and what comes after it
next_rule : (limits : TheLimits) (p : Progress) (v : Option EndReason) (saved : List (List ℕ))
    → next_round (rounds limits.calls limits) limits v saved p ≡ next_round (after_wraps limits) limits v saved p
next_rule limits p (Some h) saved = refl
next_rule limits p None [] = refl
next_rule limits p None (x ∷ xs) =
    let q : Progress = read_saved limits (x ∷ xs) p in
    let c : Complete (rounds limits.calls limits q) = ⊎_elim
    (λ s. complete_after limits.calls limits q (inr s))
    (λ (s : limits.calls - (q.so_far).calls < limits.calls - (p.so_far).calls). rounds_complete limits.calls limits q (omega arith))
    (round_saves limits (x ∷ xs) p) in
    sym (more_rounds limits.calls (suc limits.calls) limits q (omega arith) c)

-- a function that follows the rounds gives the run itself if no text is saved
follows_stays : (limits : TheLimits) (f : Progress → Progress) → FollowsRounds limits f → (p : Progress)
    → (p.so_far).saved ≡ [] → f p ≡ p
follows_stays limits f follows p e = follows p ∙ complete_by p.over f limits p refl e

follows_next : (n : ℕ) (limits : TheLimits) (f : Progress → Progress) → FollowsRounds limits f
    → ((q : Progress) → limits.calls - (q.so_far).calls < n → f q ≡ rounds n limits q)
    → (v : Option EndReason) (saved : List (List ℕ)) (p : Progress) → limits.calls - (p.so_far).calls ≤ n
    → next_round f limits v saved p ≡ next_round (rounds n limits) limits v saved p
follows_next n limits f follows g (Some x) saved p k = refl
follows_next n limits f follows g None [] p k = refl
follows_next n limits f follows g None (x ∷ xs) p k =
    let q : Progress = read_saved limits (x ∷ xs) p in
    ⊎_elim
    (λ s. follows_stays limits f follows q s ∙ sym (complete_stays n limits q (inr s)))
    (λ (s : limits.calls - (q.so_far).calls < limits.calls - (p.so_far).calls). g q (omega arith))
    (round_saves limits (x ∷ xs) p)

follows_rounds : (n : ℕ) (limits : TheLimits) (f : Progress → Progress) → FollowsRounds limits f → (p : Progress)
    → limits.calls - (p.so_far).calls < n → f p ≡ rounds n limits p
follows_rounds zero limits f follows p k = absurd (omega arith)
follows_rounds (suc n) limits f follows p k =
    follows p
    ∙ follows_next n limits f follows (λ q l. follows_rounds n limits f follows q l) p.over (p.so_far).saved p (omega arith)

pub wraps_rules : WrapsRules
wraps_rules = λ limits. (
  λ p. next_rule limits p p.over (p.so_far).saved,
  λ f follows p. follows_rounds (suc limits.calls) limits f follows p (omega arith),
)
