-- TwoRuns: a run that freezes and one that starts from what it froze, by what is promised of each.
use Rattle.std.proofs.Common.{◌≡◌, ◌≢◌, ℕ, zero, suc, Bool, true, false, List, [], ◌∷◌, ◌++◌, Option, Some, None}
use Rattle.std.proofs.Common.{refl, sym, ap, ◌∙◌, subst}
use Rattle.m4_state.proofs.CallerLaws.{with_bytes-append}
use Rattle.m4_state.specs.State.{IsSized}
use Rattle.m4_state.specs.Device.{Script, with_bytes}
use Rattle.m4_frozen.specs.Freeze.{freeze}
use Rattle.m4_engine.specs.declared.options.Options.{Options}
use Rattle.m4_engine.specs.declared.ending.Cause.{Cause}
use Rattle.m4_engine.specs.declared.ending.Cause.TheVariants as causes
use Rattle.m4_engine.specs.declared.ending.Ending.{Ending}
use Rattle.m4_engine.specs.Expansion.{RunSoFar, Limits, EndReason, Ends}
use Rattle.m4_engine.specs.File.{Source, Opened, Unopened, Progress, over_of, read_source, after_source}
use Rattle.m4_engine.specs.File.{after_sources}
use Rattle.m4_engine.specs.Wraps.{read_saved, next_round, rounds, after_wraps}
use Rattle.m4_engine.specs.Start.{Start, From, Faulty, frozen_file, start_of, begun}
use Rattle.m4_engine.specs.Run.{RunResult, limits_of, saved_after, run, run_from}
use Rattle.m4_engine.specs.Session.{is_saved}
use Rattle.m4_engine.specs.WholeRun.{wrapped_by, WroteAll, GivesBy, HasFrozen, FrozenBy, RunGives}
use Rattle.m4_engine.specs.Carries.{Carries, frozen_state}
use Rattle.m4_engine.specs.Joined.{freezing, prefixed, Joins}
use Rattle.m4_engine.specs.Laws.{IsDecided, IsOneRun}
use Rattle.m4_engine.specs.Writers.{Contents, Three, writers}
use Rattle.m4_engine.proofs.Reloads.{split}
use Rattle.m4_engine.proofs.Cases.{unless_over, result_by}

-- a run that is over did not come to its end
abbrev IsCut : Option EndReason → Type 0
IsCut v = v ≢ Some (Ends causes.Done)

over_cut : (h : EndReason) → IsCut (over_of h)
over_cut (Ends causes.Done) = λ e. cc
over_cut reason = λ e. cc

unless_cut : (o : Option EndReason) (old new : Progress) → IsCut old.over → IsCut new.over → IsCut (unless_over o old new).over
unless_cut None old new h g = g
unless_cut (Some x) old new h g = h

read_cut : (limits : Limits) (s : Source) (r : RunSoFar) (any_missing : Bool) → IsCut (read_source limits s r any_missing).over
read_cut limits (Opened name bytes) r any_missing = over_cut _
read_cut limits (Unopened name) r any_missing = λ e. cc

sources_cut : (limits : Limits) (ss : List Source) (p : Progress) → IsCut p.over → IsCut (after_sources limits ss p).over
sources_cut limits [] p h = h
sources_cut limits (s ∷ ss) p h = sources_cut limits ss (after_source limits s p)
    (unless_cut p.over p (read_source limits s p.so_far p.any_missing) h (read_cut limits s p.so_far p.any_missing))

next_cut : (go : Progress → Progress) (limits : Limits) → ((q : Progress) → IsCut q.over → IsCut (go q).over)
    → (v : Option EndReason) (saved : List (List ℕ)) (p : Progress) → IsCut p.over → IsCut (next_round go limits v saved p).over
next_cut go limits g (Some x) saved p h = h
next_cut go limits g None [] p h = h
next_cut go limits g None (x ∷ xs) p h = g (read_saved limits (x ∷ xs) p) (over_cut _)

rounds_cut : (n : ℕ) (limits : Limits) (p : Progress) → IsCut p.over → IsCut (rounds n limits p).over
rounds_cut zero limits p h = h
rounds_cut (suc n) limits p h = next_cut (rounds n limits) limits (rounds_cut n limits) p.over (p.so_far).saved p h

start_cut : (start : Start) → IsCut (begun start).over
start_cut (From s issued) = λ e. cc
start_cut (Faulty fault) = λ e. cc

froze_by : (v : Option EndReason) (saved : List (List ℕ)) (r : RunSoFar) (any_missing : Bool) → IsCut v
    → (result_by v true saved r any_missing).reason ≡ Ends causes.Done
    → (text : List ℕ) × ((result_by v true saved r any_missing).frozen ≡ Some text)
froze_by None saved r any_missing c e = (freeze r.state, refl)
froze_by (Some h) saved r any_missing c e = absurd (c (ap Some e))

-- a run that freezes and read everything has a frozen text
pub has_text : (o : Options) (start : Start) (ss : List Source)
    → (run_from (freezing true o) start ss).reason ≡ Ends causes.Done
    → (text : List ℕ) × ((run_from (freezing true o) start ss).frozen ≡ Some text)
has_text o start ss e =
    let limits : Limits = limits_of o in
    let p : Progress = after_sources limits ss (begun start) in
    let q : Progress = after_wraps limits p in
    froze_by q.over (saved_after ss p) q.so_far q.any_missing (rounds_cut (suc limits.calls) limits p (sources_cut limits ss (begun start) (start_cut start))) e

-- which the writer has, where it was empty
text_is : (frozen : Option (List ℕ)) (t text : List ℕ) (v : Three (Option (List ℕ))) → frozen ≡ Some t
    → v.frozen_old ≡ Some [] → v.frozen_new ≡ Some text → HasFrozen frozen v → frozen ≡ Some text
text_is frozen t text v e old new h =
    let k : v.frozen_new ≡ with_bytes v.frozen_old t = subst (λ (x : Option (List ℕ)). HasFrozen x v) e h in
    let m : Some text ≡ Some t = sym new ∙ k ∙ ap (λ (x : Option (List ℕ)). with_bytes x t) old in
    e ∙ sym m

pub none_saved : (saved : List (List ℕ)) → false ≡ is_saved saved → saved ≡ []
none_saved [] e = refl
none_saved (x ∷ xs) e = cc

-- what a run whose end is decided gives
decided : (c : Cause) (r : RunResult) (e : Ending) (w : Contents) → IsDecided c → GivesBy c r e w → WroteAll r e w
decided (causes.Frozen f) r e w d h = absurd d
decided causes.Read r e w d h = absurd d
decided causes.Write r e w d h = absurd d
decided causes.OutOfMemory r e w d h = absurd d
decided cause r e w d h = h

both_wrote : (a b c d : Option (List ℕ)) (x y z : List ℕ) → b ≡ with_bytes a x → c ≡ b → d ≡ with_bytes c y → z ≡ x ++ y → d ≡ with_bytes a z
both_wrote a b c d x y z e f g h =
    g ∙ ap (λ (k : Option (List ℕ)). with_bytes k y) (f ∙ e) ∙ with_bytes-append a x y ∙ ap (with_bytes a) (sym h)

-- the writer of the frozen text is that of the later run
has_same : (v : Option (List ℕ)) (two : Contents) (w : Three (Option (List ℕ))) → HasFrozen v w
    → HasFrozen v (record { two = two; frozen_old = w.frozen_old; frozen_new = w.frozen_new })
has_same None two w h = h
has_same (Some text) two w h = h

pub two_runs : (o : Options) (freezes prefix : Bool) (file : Option Script) (as' bs : List Source) (text : List ℕ)
    (e f : Ending) (v w : Three (Option (List ℕ))) → RunGives (run (freezing true o) file as') e v
    → e.cause ≡ causes.Done → e.status ≡ 0 → e.wrapped ≡ false
    → IsSized (frozen_state (freezing true o) (start_of o.prefix file) as') → v.frozen_old ≡ Some []
    → v.frozen_new ≡ Some text
    → RunGives (run (prefixed prefix (freezing freezes o)) (Some (frozen_file text)) bs) f w → IsDecided f.cause
    → (w.two).out_old ≡ (v.two).out_new → (w.two).messages_old ≡ (v.two).messages_new
    → (run (freezing freezes o) file (as' ++ bs)).reason ≢ Ends causes.ExpansionLimit
    → IsOneRun (run (freezing freezes o) file (as' ++ bs)) f
    (record {
      two = writers (v.two).out_old (w.two).out_new (v.two).messages_old (w.two).messages_new;
      frozen_old =
          w.frozen_old;
      frozen_new = w.frozen_new;
    })
two_runs o freezes prefix file as' bs text e f v w g i s n z old new h d a b l =
    let r : RunResult = run (freezing true o) file as' in
    let t : RunResult = run (prefixed prefix (freezing freezes o)) (Some (frozen_file text)) bs in
    let j : RunResult = run (freezing freezes o) file (as' ++ bs) in
    let k : WroteAll r e v.two = subst (λ (c : Cause). GivesBy c r e v.two) i g.gives in
    let q : WroteAll t f w.two = decided f.cause t f w.two d h.gives in
    let done : r.reason ≡ Ends causes.Done = k.reason ∙ ap Ends i in
    let had : HasFrozen r.frozen v = subst (λ (c : Cause). FrozenBy c r v) i g.frozen in
    let some = has_text o (start_of o.prefix file) as' done in
    let froze : r.frozen ≡ Some text = text_is r.frozen some.0 text v some.1 old new had in
    let carries : Carries (freezing true o) (start_of o.prefix file) as' = record {
      done = done;
      status = sym k.status ∙ s;
      nothing_saved = none_saved r.saved (sym n ∙ k.wrapped ∙ ap (λ (c : Cause). wrapped_by c r.saved) i);
      sized = z;
    } in
    let joins : Joins r t j = split o freezes prefix file as' bs text carries froze l in
    record {
      reason = joins.reason ∙ q.reason;
      status = q.status ∙ sym joins.status;
      output = both_wrote (v.two).out_old (v.two).out_new (w.two).out_old (w.two).out_new r.output t.output j.output k.output a q.output joins.output;
      messages = both_wrote (v.two).messages_old (v.two).messages_new (w.two).messages_old (w.two).messages_new
          r.messages t.messages j.messages k.messages b q.messages joins.messages;
      frozen = λ c. has_same j.frozen _ w
          (subst (λ (x : Option (List ℕ)). HasFrozen x w) (sym joins.frozen) (subst (λ (y : Cause). FrozenBy y t w) c h.frozen));
    }
