-- Laws: what holds of the definitions alone, for expansions and runs.
-- Believed as statements; the functions of the module `laws` carry their proofs.
-- Words: ExpansionRules, ExpandRules, MomentsLead, WrapsRules, OneState, OneStart, SameDenotation, SettledBegins,
-- SplitStates, Split, Chain, IsDecided, IsOneRun, TwoRuns, LargerNesting, LargerCalls, RunEnds.
use Rattle.std.specs.Prelude.{◌≡◌, ◌≢◌, ◌↔◌, ◌⊎◌, ℕ, ◌<◌, ◌≤◌, Bool, true, false, List, [], ◌∷◌, ◌++◌, Option, Some}
use Rattle.m4_state.specs.Device.{Script, with_bytes}
use Rattle.m4_state.specs.State.{State, IsSized}
use Rattle.m4_frozen.specs.Directive.{Directive}
use Rattle.m4_frozen.specs.Spells.{Spells}
use Rattle.m4_frozen.specs.Denote.{denote}
use Rattle.m4_engine.specs.declared.options.Options.{Options}
use Rattle.m4_engine.specs.Nesting.{Turn, Outcome, after, expansion, Falls}
use Rattle.m4_engine.specs.declared.ending.Cause.{Cause}
use Rattle.m4_engine.specs.declared.ending.Cause.TheVariants as causes
use Rattle.m4_engine.specs.Expansion.{Limits, Expansion, Kept, Ended, Ends, NeedsInput}
use Rattle.m4_engine.specs.Expand.{turn, join, expand}
use Rattle.m4_engine.specs.OpenCalls.{Goes, moved_meaning}
use Rattle.m4_engine.specs.Moments.{Moment, Next, Comes, first_moment}
use Rattle.m4_engine.specs.File.{Source, Opened, Progress}
use Rattle.m4_engine.specs.Wraps.{next_round, after_wraps}
use Rattle.m4_engine.specs.Start.{Start, From, StartsFrom, frozen_file, IsStart, start_of}
use Rattle.m4_engine.specs.Run.{RunResult, run, run_from}
use Rattle.m4_engine.specs.Settled.{SettledSoFar, settled}
use Rattle.m4_engine.specs.Carries.{Carries, frozen_state}
use Rattle.m4_engine.specs.Joined.{freezing, prefixed, Joins, Link, chain, AllCarry, all_sources, JoinsAll}
use Rattle.m4_engine.specs.declared.ending.Ending.{Ending}
use Rattle.m4_engine.specs.Writers.{Three, writers}
use Rattle.m4_engine.specs.WholeRun.{HasFrozen, RunGives}

-- if the bounds suffice, an expansion is its first turn and then the same expansion, with no bound in sight
abbrev pub ExpansionRules : Type 0 → Type 0 → Type 0 → Type 0
ExpansionRules S F D =
    (turn : S → Turn S F D) (join : F → S → Outcome S D) (spent : S → D) (size left : S → ℕ)
    → Falls S F D turn join size left
    → (s : S)
    → expansion S F D turn join spent size left s
    ≡ after S F D join (expansion S F D turn join spent size left) (expansion S F D turn join spent size left) (turn s)

-- x is a prefix of y, perhaps all of it
abbrev pub IsBeginning : List ℕ → List ℕ → Type 0
IsBeginning x y = (rest : List ℕ) × (y ≡ x ++ rest)

-- f gives for each expansion the result of its turns
abbrev pub FollowsTurns : (Expansion → Outcome Expansion Ended) → Type 0
FollowsTurns f = (s : Expansion) → f s ≡ after Expansion Kept Ended join f f (turn s)

-- `expand` does so, with no bound in sight, and nothing else does
abbrev pub ExpandRules : Type 0
ExpandRules =
    FollowsTurns expand
    × ((f : Expansion → Outcome Expansion Ended) → FollowsTurns f → (s : Expansion) → f s ≡ expand s)

-- whatever its turns lead to comes to what the whole expansion comes to
abbrev pub MomentsLead : Type 0
MomentsLead =
    (s : Expansion) (way : List Moment) (n : Next) → Comes way (Goes (first_moment s)) n
    → moved_meaning Expansion Kept Ended turn join expand n ≡ expand s

-- f gives for each run its next round, and after it what f gives
abbrev pub FollowsRounds : Limits → (Progress → Progress) → Type 0
FollowsRounds limits f = (p : Progress) → f p ≡ next_round f limits p.over (p.so_far).saved p

-- `after_wraps` does so, with no bound in sight, and nothing else does
abbrev pub WrapsRules : Type 0
WrapsRules =
    (limits : Limits) → FollowsRounds limits (after_wraps limits)
    × ((f : Progress → Progress) → FollowsRounds limits f → (p : Progress) → f p ≡ after_wraps limits p)

-- a run starts from a state exactly if it is the fresh one, or was loaded from the frozen file; any other frozen
-- file is refused with a fault
abbrev pub OneState : Type 0
OneState =
    (prefix : Bool) (frozen : Option Script) (s : State) (issued : List ℕ)
    → StartsFrom prefix frozen (From s issued) ↔ (start_of prefix frozen ≡ From s issued)

-- each run has exactly one start, and it is the one that the definition of a run uses
abbrev pub OneStart : Type 0
OneStart =
    (prefix : Bool) (frozen : Option Script) (start : Start)
    → IsStart prefix frozen start ↔ (start ≡ start_of prefix frozen)

-- frozen files whose directives denote the same state and the same issued text give the same run
abbrev pub SameDenotation : Type 0
SameDenotation =
    (o : Options) (a b : List ℕ) (ds es : List Directive) (sources : List Source)
    → Spells ds a → Spells es b → denote ds ≡ denote es
    → run o (Some (frozen_file a)) sources ≡ run o (Some (frozen_file b)) sources

-- output and messages that a prefix of an input settled are prefixes of the run's; if the prefix decides how
-- the run ends, the run ends so and writes nothing more
pub record AreSettled (s : SettledSoFar) (r : RunResult) : Type 0 where
  pub output : IsBeginning s.output r.output
  pub messages : IsBeginning s.messages r.messages
  pub ending : s.reason ≢ NeedsInput → (r.reason ≡ s.reason) × (r.output ≡ s.output) × (r.messages ≡ s.messages)

-- the part that w settles is the same whatever bytes follow it and whatever sources come later
abbrev pub SettledBegins : Type 0
SettledBegins =
    (o : Options) (start : Start) (before : List Source) (name w more : List ℕ) (later : List Source)
    → AreSettled (settled o start before name w)
    (run_from o start (before ++ Opened name (w ++ more) ∷ later))

-- If a freezing run over `as` carries, the run over both joins it to the run over `bs` from the state that it
-- froze. The joint run has the same limits, and doesn't end by the limit of calls.
abbrev pub SplitStates : Type 0
SplitStates =
    (o : Options) (freezes : Bool) (start : Start) (as' bs : List Source) (text : List ℕ)
    → Carries (freezing true o) start as'
    → (run_from (freezing true o) start as').frozen ≡ Some text
    → (run_from (freezing freezes o) start (as' ++ bs)).reason ≢ Ends causes.ExpansionLimit
    → Joins (run_from (freezing true o) start as')
    (run_from (freezing freezes o) (From (frozen_state (freezing true o) start as') []) bs)
    (run_from (freezing freezes o) start (as' ++ bs))

-- The same for the frozen text: from any start, fresh, prefixed or reloaded, if a freezing run over `as`
-- carries, the run over both joins it to the run over `bs` from the text that it froze. The three runs have
-- the same limits; the run that reloads may have any prefix, since only its frozen file decides.
abbrev pub Split : Type 0
Split =
    (o : Options) (freezes prefix : Bool) (frozen : Option Script) (as' bs : List Source) (text : List ℕ)
    → Carries (freezing true o) (start_of o.prefix frozen) as'
    → (run (freezing true o) frozen as').frozen ≡ Some text
    → (run (freezing freezes o) frozen (as' ++ bs)).reason ≢ Ends causes.ExpansionLimit
    → Joins (run (freezing true o) frozen as')
    (run (prefixed prefix (freezing freezes o)) (Some (frozen_file text)) bs)
    (run (freezing freezes o) frozen (as' ++ bs))

-- The same for a chain of any number of runs: from any start, if each run but the last carries, and the next
-- one starts from the text that it froze, one run over all their sources joins all of them, if that run
-- doesn't end by the limit of calls.
abbrev pub Chain : Type 0
Chain =
    (o : Options) (freezes : Bool) (frozen : Option Script) (sources : List Source) (links : List Link)
    → AllCarry o frozen sources links
    → (run (freezing freezes o) frozen (all_sources sources links)).reason ≢ Ends causes.ExpansionLimit
    → JoinsAll (chain o freezes frozen sources links) (run (freezing freezes o) frozen (all_sources sources links))

-- a run whose end the definitions decide: no frozen file was refused, and no device or allocation failed
abbrev pub IsDecided : Cause → Type 0
IsDecided (causes.Frozen fault) = ⊥
IsDecided causes.Read = ⊥
IsDecided causes.Write = ⊥
IsDecided causes.OutOfMemory = ⊥
IsDecided cause = Unit {0}

-- the bytes written are those of a run, and the ending is that run's
pub record IsOneRun (r : RunResult) (e : Ending) (w : Three (Option (List ℕ))) : Type 0 where
  pub reason : r.reason ≡ Ends e.cause
  pub status : e.status ≡ r.status
  pub output : (w.two).out_new ≡ with_bytes (w.two).out_old r.output
  pub messages : (w.two).messages_new ≡ with_bytes (w.two).messages_old r.messages
  pub frozen : e.cause ≡ causes.Done → HasFrozen r.frozen w

-- The law `split` for two calls of `run`, by the contract of each. The first freezes, reads everything with
-- status 0 and saves no text; its frozen text goes to an empty writer. The second reloads the bytes of that
-- writer, with the same limits, and its output and messages follow the first one's. Then the writers contain
-- what one run over the sources of both writes, which ends as the second did, if that run doesn't end by the
-- limit of calls.
abbrev pub TwoRuns : Type 0
TwoRuns =
    (o : Options) (freezes prefix : Bool) (file : Option Script) (as' bs : List Source) (text : List ℕ)
    (e f : Ending) (v w : Three (Option (List ℕ)))
    → RunGives (run (freezing true o) file as') e v
    → e.cause ≡ causes.Done → e.status ≡ 0 → e.wrapped ≡ false
    → IsSized (frozen_state (freezing true o) (start_of o.prefix file) as')
    → v.frozen_old ≡ Some [] → v.frozen_new ≡ Some text
    → RunGives (run (prefixed prefix (freezing freezes o)) (Some (frozen_file text)) bs) f w
    → IsDecided f.cause
    → (w.two).out_old ≡ (v.two).out_new → (w.two).messages_old ≡ (v.two).messages_new
    → (run (freezing freezes o) file (as' ++ bs)).reason ≢ Ends causes.ExpansionLimit
    → IsOneRun (run (freezing freezes o) file (as' ++ bs)) f (record {
      two = writers (v.two).out_old (w.two).out_new (v.two).messages_old (w.two).messages_new;
      frozen_old = w.frozen_old;
      frozen_new = w.frozen_new;
    })

-- a limit of nesting that is at least as large; 0 is the largest
abbrev pub IsAsDeep : ℕ → ℕ → Type 0
IsAsDeep n m = (m ≡ 0) ⊎ ((0 < n) × (n ≤ m))

-- a run that doesn't end by a limit is the same under a larger one
abbrev pub LargerNesting : Type 0
LargerNesting =
    (o : Options) (nesting : ℕ) (start : Start) (sources : List Source)
    → IsAsDeep o.nesting nesting
    → (run_from o start sources).reason ≢ Ends causes.NestingLimit
    → run_from (record o { nesting = nesting }) start sources ≡ run_from o start sources

abbrev pub LargerCalls : Type 0
LargerCalls =
    (o : Options) (calls : ℕ) (start : Start) (sources : List Source)
    → o.calls ≤ calls
    → (run_from o start sources).reason ≢ Ends causes.ExpansionLimit
    → run_from (record o { calls = calls }) start sources ≡ run_from o start sources

-- each run ends by a cause: it never needs more input
abbrev pub RunEnds : Type 0
RunEnds =
    (o : Options) (start : Start) (sources : List Source)
    → (cause : Cause) × ((run_from o start sources).reason ≡ Ends cause)
