-- Order: output and messages are written in the order in which the run makes them.
-- Believed. Manual: "How m4 copies input to output", "Command line files", "Saving text until end of input".
-- Words: IsBeginning, Shows, IsBetween, IsStepOf, InSources, IsTurnOfRound, InRounds, InSomeRound, InEnd, IsStepOfRun,
-- InOrder, InOrderBy, preceded, Breaks, BreaksBy, FileBreaks.
-- A run is made of steps: the turns of its expansions, the messages on sources that can't be opened, and at its end the
-- texts of the diversions. Where a writer or an allocation fails, one step shows what was written: a step makes its
-- messages before its output, and nothing was written before what was made earlier.
use Rattle.std.specs.Prelude.{◌≡◌, ◌≢◌, ◌⊎◌, ℕ, zero, suc, false, List, [], ◌∷◌, ◌++◌, Option, None, Result, Err}
use Rattle.m4_state.specs.Device.{Script, with_bytes, HasBegun}
use Rattle.m4_engine.specs.declared.ending.Cause.{Cause}
use Rattle.m4_engine.specs.declared.options.Options.{Options}
use Rattle.m4_engine.specs.declared.stop.Stop.{Stop}
use Rattle.m4_engine.specs.declared.stop.Stop.TheVariants as stops
use Rattle.m4_engine.specs.Expansion.{RunSoFar, Limits, with_message}
use Rattle.m4_engine.specs.Expand.{expansion_of}
use Rattle.m4_engine.specs.Moments.{IsTurnOf}
use Rattle.m4_engine.specs.File.{Source, Opened, Unopened, Progress, file_pending, cannot_open, after_source}
use Rattle.m4_engine.specs.File.{after_sources}
use Rattle.m4_engine.specs.Wraps.{wrapped_pending, joined_back, read_saved, after_wraps, close}
use Rattle.m4_engine.specs.Start.{Start, begun}
use Rattle.m4_engine.specs.Run.{limits_of}
use Rattle.m4_engine.specs.Session.{FileRead}
use Rattle.m4_engine.specs.Writers.{Contents, writers, HasWritten, IfBroken}

-- y begins with x
abbrev pub IsBeginning : List ℕ → List ℕ → Type 0
IsBeginning x y = (rest : List ℕ) × (y ≡ x ++ rest)

-- a step shows that the output o and the messages m were written: a beginning of the output made before it, and the
-- messages made before it; or all of that output, and some of the step's messages; or all messages made when it is
-- over, and some of the step's output
abbrev pub Shows : RunSoFar → RunSoFar → List ℕ → List ℕ → Type 0
Shows before later o m =
    (IsBeginning o before.output × (m ≡ before.messages))
    ⊎ (((o ≡ before.output) × IsBeginning before.messages m × IsBeginning m later.messages)
    ⊎ (IsBeginning before.output o × IsBeginning o later.output × (m ≡ later.messages)))

pub record IsBetween (before later : RunSoFar) (w : Contents) : Type 0 where
  pub o : List ℕ
  pub m : List ℕ
  pub written : HasWritten o m w
  pub shown : Shows before later o m

-- a step of a source: a turn of its expansion, or the message that it can't be opened
abbrev pub IsStepOf : Limits → Source → Progress → RunSoFar → RunSoFar → Type 0
IsStepOf limits (Opened name bytes) p before later =
    (p.over ≡ None) × IsTurnOf (expansion_of limits p.so_far (file_pending name bytes false)) before later
IsStepOf limits (Unopened name) p before later =
    (p.over ≡ None) × (before ≡ p.so_far) × (later ≡ with_message (cannot_open name) p.so_far)

-- a step of one of these sources
abbrev pub InSources : Limits → List Source → Progress → RunSoFar → RunSoFar → Type 0
InSources limits [] p before later = ⊥
InSources limits (s ∷ ss) p before later =
    IsStepOf limits s p before later ⊎ InSources limits ss (after_source limits s p) before later

-- a turn of the next round over the saved texts
pub record IsTurnOfRound (limits : Limits) (p : Progress) (before later : RunSoFar) : Type 0 where
  pub goes_on : p.over ≡ None
  pub saved : (p.so_far).saved ≢ []
  pub turn : IsTurnOf
      (expansion_of limits (record p.so_far { saved = [] }) (wrapped_pending (joined_back (p.so_far).saved)))
      before later

-- a turn of the round after n others
abbrev pub InRounds : ℕ → Limits → Progress → RunSoFar → RunSoFar → Type 0
InRounds zero limits p before later = IsTurnOfRound limits p before later
InRounds (suc n) limits p before later =
    (p.over ≡ None) × ((p.so_far).saved ≢ []) × InRounds n limits (read_saved limits (p.so_far).saved p) before later

abbrev pub InSomeRound : Limits → Progress → RunSoFar → RunSoFar → Type 0
InSomeRound limits p before later = (n : ℕ) × InRounds n limits p before later

-- a step of the end of a run: a turn of a round, or, after all rounds, the output of the texts of the diversions
abbrev pub InEnd : Limits → Progress → RunSoFar → RunSoFar → Type 0
InEnd limits p before later =
    InSomeRound limits p before later
    ⊎ (((after_wraps limits p).over ≡ None) × (before ≡ (after_wraps limits p).so_far)
    × (later ≡ record before { output = before.output ++ close before.state }))

-- a step of a run that was at p before its sources
abbrev pub IsStepOfRun : Limits → List Source → Progress → RunSoFar → RunSoFar → Type 0
IsStepOfRun limits ss p before later =
    InSources limits ss p before later ⊎ InEnd limits (after_sources limits ss p) before later

-- only a beginning of what its start issues was written, or a step shows what was
abbrev pub InOrder : Limits → List Source → Progress → Contents → Type 0
InOrder limits ss p w =
    (HasBegun w.out_old w.out_new (p.so_far).output × (w.messages_new ≡ w.messages_old))
    ⊎ ((before : RunSoFar) × (later : RunSoFar) × IsStepOfRun limits ss p before later × IsBetween before later w)

-- by the cause: a run that a writer or an allocation broke off
abbrev pub InOrderBy : Cause → Options → Start → List Source → Contents → Type 0
InOrderBy cause o start ss w = IfBroken cause (InOrder (limits_of o) ss (begun start) w)

-- a progress, if this output and these messages were made before it
abbrev pub preceded : List ℕ → List ℕ → Progress → Progress
preceded o m p = record p {
  so_far = record p.so_far { output = o ++ (p.so_far).output; messages = m ++ (p.so_far).messages };
}

-- a call of a session that was broken off: whatever was written before it, one of these steps shows what was
abbrev pub Breaks : (Progress → RunSoFar → RunSoFar → Type 0) → Progress → Contents → Type 0
Breaks IsStep p w =
    (o m : List ℕ) (out messages : Option (List ℕ))
    → w.out_old ≡ with_bytes out o → w.messages_old ≡ with_bytes messages m
    → (before : RunSoFar) × (later : RunSoFar) × IsStep (preceded o m p) before later
    × IsBetween before later (writers out w.out_new messages w.messages_new)

-- by the answer: a writer or an allocation broke the call off
abbrev pub BreaksBy : {A : Type 0} → Result A Stop → Type 0 → Type 0
BreaksBy (Err (stops.Ended cause)) P = IfBroken cause P
BreaksBy result P = Unit {0}

-- the same of a file, of which the reader gave some bytes: whatever follows them
abbrev pub FileBreaks : Limits → Progress → List ℕ → Option Script → Option Script → Contents → Type 0
FileBreaks limits p name before after w =
    FileRead before after (λ x. Unit {0}) (λ bytes. Breaks (IsStepOf limits (Opened name bytes)) p w)
