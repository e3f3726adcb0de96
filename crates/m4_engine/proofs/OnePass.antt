-- OnePass: the part that a prefix of an input settles is the same whatever follows it.
use Rattle.std.proofs.Common.{◌≡◌, ◌≢◌, ◌⊎◌, inl, inr, ℕ, zero, suc, Bool, true, false, List, [], ◌∷◌, ◌++◌, Option}
use Rattle.std.proofs.Common.{Some, None, refl, sym, ap, ◌∙◌, subst, append_assoc, append-nil}
use Rattle.m4_engine.specs.declared.options.Options.{Options}
use Rattle.m4_engine.specs.declared.ending.Cause.{Cause}
use Rattle.m4_engine.specs.declared.ending.Cause.TheVariants as causes
use Rattle.m4_engine.specs.Nesting.{Outcome, Halted, Closed}
use Rattle.m4_engine.specs.Expansion.{RunSoFar, Limits, Expansion, EndReason, Ends, NeedsInput, OutOfBound, Ended}
use Rattle.m4_engine.specs.Expansion.{with_message}
use Rattle.m4_engine.specs.Expand.{expand, expansion_of, ended_of, expand_input, out_of_bound_at}
use Rattle.m4_engine.specs.File.{Source, Opened, Unopened, Progress, read_file, file_pending, over_by, over_of}
use Rattle.m4_engine.specs.File.{after_input, read_source, after_source, after_sources, cannot_open}
use Rattle.m4_engine.specs.Wraps.{read_saved, next_round, rounds, after_wraps, joined_back, wrapped_pending, close}
use Rattle.m4_engine.specs.Start.{Start, begun}
use Rattle.m4_engine.specs.Run.{limits_of, result_of, saved_after, run_from}
use Rattle.m4_engine.specs.Settled.{settled_of, settled_ended, settled_by, settled_in, settled}
use Rattle.m4_engine.specs.Laws.{IsBeginning, AreSettled}
use Rattle.m4_engine.specs.Moments.{so_far_in}
use Rattle.m4_engine.proofs.Growth.{Extends, longer_level, Begins}
use Rattle.m4_engine.proofs.OnlyGrows.{extends_same, extends_more, says_more, input_keeps}
use Rattle.m4_engine.proofs.Continues.{law}
use Rattle.m4_engine.proofs.Cases.{unless_over, result_by}

-- a run after a source has what it had
unless_keeps : (r : RunSoFar) (o : Option EndReason) (old new : Progress) → Extends r old.so_far → Extends r new.so_far
    → Extends r (unless_over o old new).so_far
unless_keeps r None old new e f = f
unless_keeps r (Some h) old new e f = e

read_keeps : (limits : Limits) (s : Source) (r : RunSoFar) (any_missing : Bool) → Extends r (read_source limits s r any_missing).so_far
read_keeps limits (Opened name bytes) r any_missing = input_keeps limits r (file_pending name bytes false)
read_keeps limits (Unopened name) r any_missing = says_more r (with_message (cannot_open name) r) (cannot_open name) refl refl

source_keeps : (limits : Limits) (s : Source) (p : Progress) → Extends p.so_far (after_source limits s p).so_far
source_keeps limits s p = unless_keeps p.so_far p.over p (read_source limits s p.so_far p.any_missing)
    (extends_same p.so_far) (read_keeps limits s p.so_far p.any_missing)

pub sources_keep : (limits : Limits) (ss : List Source) (p : Progress) → Extends p.so_far (after_sources limits ss p).so_far
sources_keep limits [] p = extends_same p.so_far
sources_keep limits (s ∷ ss) p = extends_more p.so_far (after_source limits s p).so_far _ (source_keeps limits s p)
    (sources_keep limits ss (after_source limits s p))

-- a round of saved texts is an input
round_keeps : (limits : Limits) (saved : List (List ℕ)) (p : Progress) → Extends p.so_far (read_saved limits saved p).so_far
round_keeps limits saved p =
    let k = input_keeps limits (record p.so_far { saved = [] }) (wrapped_pending (joined_back saved)) in
    record { more = k.more; output = k.output; reported = k.reported; messages = k.messages }

next_keeps : (go : Progress → Progress) (limits : Limits) → ((q : Progress) → Extends q.so_far (go q).so_far)
    → (o : Option EndReason) (saved : List (List ℕ)) (p : Progress) → Extends p.so_far (next_round go limits o saved p).so_far
next_keeps go limits h (Some reason) saved p = extends_same p.so_far
next_keeps go limits h None [] p = extends_same p.so_far
next_keeps go limits h None (x ∷ xs) p =
    extends_more p.so_far (read_saved limits (x ∷ xs) p).so_far _ (round_keeps limits (x ∷ xs) p)
    (h (read_saved limits (x ∷ xs) p))

pub rounds_keep : (n : ℕ) (limits : Limits) (p : Progress) → Extends p.so_far (rounds n limits p).so_far
rounds_keep zero limits p = extends_same p.so_far
rounds_keep (suc n) limits p = next_keeps (rounds n limits) limits (rounds_keep n limits) p.over (p.so_far).saved p

-- a run that is over stays as it is
over_source : (limits : Limits) (s : Source) (p : Progress) (h : EndReason) → p.over ≡ Some h → after_source limits s p ≡ p
over_source limits s p h e = ap (λ o. unless_over o p (read_source limits s p.so_far p.any_missing)) e

pub over_sources : (limits : Limits) (ss : List Source) (p : Progress) (h : EndReason) → p.over ≡ Some h → after_sources limits ss p ≡ p
over_sources limits [] p h e = refl
over_sources limits (s ∷ ss) p h e = ap (after_sources limits ss) (over_source limits s p h e) ∙ over_sources limits ss p h e

pub over_wraps : (limits : Limits) (p : Progress) (h : EndReason) → p.over ≡ Some h → after_wraps limits p ≡ p
over_wraps limits p h e = ap (λ o. next_round (rounds limits.calls limits) limits o (p.so_far).saved p) e

-- sources in order
pub sources_append : (limits : Limits) (ss ts : List Source) (p : Progress)
    → after_sources limits (ss ++ ts) p ≡ after_sources limits ts (after_sources limits ss p)
sources_append limits [] ts p = refl
sources_append limits (s ∷ ss) ts p = sources_append limits ss ts (after_source limits s p)

-- what the result has of the run's output and messages
result_output : (o : Option EndReason) (freezes : Bool) (saved : List (List ℕ)) (r : RunSoFar) (any_missing : Bool)
    → IsBeginning r.output (result_by o freezes saved r any_missing).output
result_output (Some h) freezes saved r any_missing = ([], sym (append-nil r.output))
result_output None true saved r any_missing = ([], sym (append-nil r.output))
result_output None false saved r any_missing = (close r.state, refl)

result_messages : (o : Option EndReason) (freezes : Bool) (saved : List (List ℕ)) (r : RunSoFar) (any_missing : Bool)
    → (result_by o freezes saved r any_missing).messages ≡ r.messages
result_messages (Some h) freezes saved r any_missing = refl
result_messages None freezes saved r any_missing = refl

pub finish_begins : (freezes : Bool) (saved : List (List ℕ)) (limits : Limits) (r : RunSoFar) (p : Progress)
    → Extends r p.so_far → IsBeginning r.output (result_of freezes saved (after_wraps limits p)).output
    × IsBeginning r.messages (result_of freezes saved (after_wraps limits p)).messages
finish_begins freezes saved limits r p e =
    let q : Progress = after_wraps limits p in
    let f : Extends r q.so_far = extends_more r p.so_far q.so_far e (rounds_keep (suc limits.calls) limits p) in
    let o = result_output q.over freezes saved q.so_far q.any_missing in (
      (f.more ++ o.0, o.1 ∙ ap (λ (x : List ℕ). x ++ o.0) f.output ∙ append_assoc r.output f.more o.0),
      (f.reported, result_messages q.over freezes saved q.so_far q.any_missing ∙ f.messages),
    )

-- an end other than that of the input ends the run
over_by_cause : (c : Cause) → Ends c ≢ Ends causes.Done → over_by c ≡ Some (Ends c)
over_by_cause causes.Done n = absurd (n refl)
over_by_cause cause n = refl

over_unless_done : (h : EndReason) → h ≢ Ends causes.Done → over_of h ≡ Some h
over_unless_done (Ends c) n = over_by_cause c n
over_unless_done NeedsInput n = refl
over_unless_done OutOfBound n = refl

-- the ends of an expansion and of the one with more bytes
abbrev pub Goes : Ended → Ended → Type 0
Goes e d = ((e.reason ≡ NeedsInput) × Extends e.so_far d.so_far) ⊎ ((d ≡ e) × (e.reason ≢ Ends causes.Done))

pub made_ended : (o : Outcome Expansion Ended) → so_far_in o ≡ (ended_of o).so_far
made_ended (Halted d) = refl
made_ended (Closed s) = refl

ended_goes : (more : List ℕ) (o o' : Outcome Expansion Ended) → Begins more false o o' → Goes (ended_of o) (ended_of o')
ended_goes more (Halted d) o' (inl h) = inl (h.0, subst (Extends d.so_far) (made_ended o') h.1)
ended_goes more (Halted d) o' (inr h) = inr (ap ended_of h.0, h.1)
ended_goes more (Closed s) o' h = inr (ap ended_of h.1 ∙ ap out_of_bound_at h.3, λ e. cc)

pub input_goes : (limits : Limits) (r : RunSoFar) (name w more : List ℕ)
    → Goes (expand_input limits r (file_pending name w true)) (read_file limits r name (w ++ more))
input_goes limits r name w more =
    let s : Expansion = expansion_of limits r (file_pending name w true) in
    ended_goes more (expand s) (expand (longer_level more false s)) (law more false s refl)

-- a run that is over keeps what is settled
over_settled : (freezes : Bool) (saved : List (List ℕ)) (limits : Limits) (p : Progress) (h : EndReason)
    → p.over ≡ Some h → AreSettled (settled_of p.so_far h) (result_of freezes saved (after_wraps limits p))
over_settled freezes saved limits p h e =
    let f : result_of freezes saved (after_wraps limits p) ≡ result_by (Some h) freezes saved p.so_far p.any_missing =
    ap (result_of freezes saved) (over_wraps limits p h e) ∙ ap (λ o. result_by o freezes saved p.so_far p.any_missing) e in
    subst (AreSettled (settled_of p.so_far h)) (sym f) (record {
      output = ([], sym (append-nil (p.so_far).output));
      messages = ([], sym (append-nil (p.so_far).messages));
      ending = λ n. (refl, refl, refl);
    })

-- the file that begins with these bytes, and what follows it
file_settled : (freezes any_missing : Bool) (saved : List (List ℕ)) (limits : Limits) (later : List Source)
    (e d : Ended) → Goes e d → AreSettled (settled_ended e)
    (result_of freezes saved (after_wraps limits (after_sources limits later (after_input d any_missing))))
file_settled freezes any_missing saved limits later e d (inl h) =
    let k = finish_begins freezes saved limits e.so_far (after_sources limits later (after_input d any_missing))
    (extends_more e.so_far d.so_far _ h.1 (sources_keep limits later (after_input d any_missing))) in
    record { output = k.0; messages = k.1; ending = λ n. absurd (n h.0) }
file_settled freezes any_missing saved limits later e d (inr h) =
    let f : over_of d.reason ≡ Some e.reason = ap (λ (x : Ended). over_of x.reason) h.0 ∙ over_unless_done e.reason h.1 in
    let g : after_sources limits later (after_input d any_missing) ≡ after_input d any_missing =
    over_sources limits later (after_input d any_missing) e.reason f in
    subst (λ p. AreSettled (settled_ended e) (result_of freezes saved (after_wraps limits p))) (sym g)
    (subst (λ (x : Ended). AreSettled (settled_of x.so_far e.reason) (result_of freezes saved (after_wraps limits (after_input d any_missing)))) h.0
    (over_settled freezes saved limits (after_input d any_missing) e.reason f))

-- in a run after the sources before
settled_here : (freezes : Bool) (saved : List (List ℕ)) (limits : Limits) (p : Progress) (name w more : List ℕ)
    (later : List Source) (o : Option EndReason) → p.over ≡ o
    → AreSettled (settled_by o limits p.so_far name w)
    (result_of freezes saved
    (after_wraps limits (after_sources limits later (after_source limits (Opened name (w ++ more)) p))))
settled_here freezes saved limits p name w more later (Some h) e =
    let g : after_sources limits later (after_source limits (Opened name (w ++ more)) p) ≡ p = over_sources limits (Opened name (w ++ more) ∷ later) p h e in
    subst (λ q. AreSettled (settled_of p.so_far h) (result_of freezes saved (after_wraps limits q))) (sym g) (over_settled freezes saved limits p h e)
settled_here freezes saved limits p name w more later None e =
    let new : Progress = read_source limits (Opened name (w ++ more)) p.so_far p.any_missing in
    let g : after_source limits (Opened name (w ++ more)) p ≡ new = ap (λ o. unless_over o p new) e in
    subst (λ q. AreSettled (settled_by None limits p.so_far name w) (result_of freezes saved (after_wraps limits (after_sources limits later q)))) (sym g)
    (file_settled freezes p.any_missing saved limits later _ _ (input_goes limits p.so_far name w more))

pub settled_begins : (o : Options) (start : Start) (before : List Source) (name w more : List ℕ) (later : List Source)
    → AreSettled (settled o start before name w) (run_from o start (before ++ Opened name (w ++ more) ∷ later))
settled_begins o start before name w more later =
    let limits : Limits = limits_of o in
    let p : Progress = after_sources limits before (begun start) in
    let all : List Source = before ++ Opened name (w ++ more) ∷ later in
    subst (λ q. AreSettled (settled_in limits p name w) (result_of o.freeze (saved_after all q) (after_wraps limits q)))
    (sym (sources_append limits before (Opened name (w ++ more) ∷ later) (begun start)))
    (settled_here o.freeze (saved_after all (after_sources limits (Opened name (w ++ more) ∷ later) p)) limits p name w more later p.over refl)
