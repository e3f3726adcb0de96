-- Reloads: a run that reloads the text that another froze goes on from the state that this left.
use Rattle.std.proofs.Common.{◌≡◌, ◌≢◌, ℕ, Bool, true, List, [], ◌++◌, Option, Some, sym, ap, ◌∙◌, subst}
use Rattle.m4_state.specs.State.{State, IsState, IsSized}
use Rattle.m4_state.specs.Device.{Script}
use Rattle.m4_frozen.specs.declared.loading.Loaded.{Loaded}
use Rattle.m4_frozen.specs.Freeze.{freeze}
use Rattle.m4_frozen.specs.Laws.{LoadsBack}
use Rattle.m4_frozen.proofs.RoundTrip as frozen
use Rattle.m4_engine.specs.declared.options.Options.{Options}
use Rattle.m4_engine.specs.declared.ending.Cause.TheVariants as causes
use Rattle.m4_engine.specs.Expansion.{Limits, Ends}
use Rattle.m4_engine.specs.File.{Source, Progress, after_sources}
use Rattle.m4_engine.specs.Start.{Start, From, frozen_file, start_of, begun}
use Rattle.m4_engine.specs.Run.{limits_of, saved_after, run, run_from}
use Rattle.m4_engine.specs.Carries.{Carries, end_of, frozen_state}
use Rattle.m4_engine.specs.Joined.{freezing, prefixed, Joins}
use Rattle.m4_engine.proofs.SameStart.{start-spelled, starts_so}
use Rattle.m4_engine.proofs.Split.{frozen_by, split_states}
use Rattle.m4_engine.proofs.InOrder.{sources_valid, wraps_valid, start_valid}

-- the text that is frozen starts from the state
start_frozen : (prefix : Bool) (s : State) → IsState s → IsSized s → start_of prefix (Some (frozen_file (freeze s))) ≡ From s []
start_frozen prefix s valid sized =
    let loads : LoadsBack s = frozen.freeze_loads s valid sized in
    start-spelled (freeze s) loads.directives loads.spelled
    ∙ ap (λ (l : Loaded). From l.state l.issued) loads.denoted

-- the state that a run freezes is in order
pub frozen_in_order : (o : Options) (frozen : Option Script) (as' : List Source) → IsState (frozen_state o (start_of o.prefix frozen) as')
frozen_in_order o frozen as' =
    let limits : Limits = limits_of o in
    let start : Start = start_of o.prefix frozen in
    wraps_valid limits (after_sources limits as' (begun start))
    (sources_valid limits as' (begun start) (start_valid o.prefix frozen start (starts_so o.prefix frozen)))

pub split : (o : Options) (freezes prefix : Bool) (frozen : Option Script) (as' bs : List Source) (text : List ℕ)
    → Carries (freezing true o) (start_of o.prefix frozen) as' → (run (freezing true o) frozen as').frozen ≡ Some text
    → (run (freezing freezes o) frozen (as' ++ bs)).reason ≢ Ends causes.ExpansionLimit
    → Joins (run (freezing true o) frozen as')
    (run (prefixed prefix (freezing freezes o)) (Some (frozen_file text)) bs)
    (run (freezing freezes o) frozen (as' ++ bs))
split o freezes prefix frozen as' bs text carries froze joint =
    let start : Start = start_of o.prefix frozen in
    let s : State = frozen_state (freezing true o) start as' in
    let e : Progress = end_of (freezing true o) start as' in
    let is : text ≡ freeze s = (frozen_by e.over (saved_after as' (after_sources (limits_of o) as' (begun start))) e.so_far e.any_missing text froze).1 in
    let from : start_of o.prefix (Some (frozen_file text)) ≡ From s [] =
    ap (λ (x : List ℕ). start_of o.prefix (Some (frozen_file x))) is
    ∙ start_frozen o.prefix s (frozen_in_order (freezing true o) frozen as') carries.sized in
    subst (λ (x : Start). Joins (run (freezing true o) frozen as') (run_from (freezing freezes o) x bs)
    (run (freezing freezes o) frozen (as' ++ bs))) (sym from)
    (split_states o freezes start as' bs text carries froze joint)
