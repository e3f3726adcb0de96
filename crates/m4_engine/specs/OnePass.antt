-- OnePass: how far a run has read its sources when it ends, and what it had written by then.
-- Believed. Its law: `SettledBegins` (what a prefix settles is so whatever follows it).
-- Manual: "Command line files", "How m4 copies input to output".
-- Words: settled_after, ExactAtFault, AskedAt, EndsOrIsLast, EndedBy, IsRead, IsCurrent, Reaches, AreRead, left_after,
-- Reached, IsPast, OnePassBy, OnePass.
-- A reader is asked only where the bytes in hand leave open how the run continues, and then for one block.
use Rattle.std.specs.Prelude.{◌≡◌, ◌≢◌, ◌⊎◌, ◌≤◌, ℕ, ◌+◌, List, [], ◌∷◌, ◌++◌, Option, Some, None, length}
use Rattle.m4_state.specs.Device.{Script, after_bytes, IsAtEnd, IsAtFault}
use Rattle.m4_input.specs.Input.{block}
use Rattle.m4_engine.specs.declared.options.Options.{Options}
use Rattle.m4_engine.specs.declared.ending.Cause.{Cause}
use Rattle.m4_engine.specs.declared.ending.Cause.TheVariants as causes
use Rattle.m4_engine.specs.declared.source.Source.{Source as RunSource}
use Rattle.m4_engine.specs.declared.source.Source.TheVariants as sources
use Rattle.m4_engine.specs.Expansion.{Limits, Ends, NeedsInput}
use Rattle.m4_engine.specs.File.{Source, Opened, Unopened, Progress, after_sources}
use Rattle.m4_engine.specs.Start.{Start, begun}
use Rattle.m4_engine.specs.Run.{limits_of}
use Rattle.m4_engine.specs.RunSources.{script_of}
use Rattle.m4_engine.specs.Settled.{SettledSoFar, settled_in}
use Rattle.m4_engine.specs.Writers.{Contents, HasWritten, WroteAtLeast}

-- the part that the first bytes of a file settle, after these sources, in a run that was at p before them; from a
-- start this is `settled`
abbrev pub settled_after : Limits → Progress → List Source → List ℕ → List ℕ → SettledSoFar
settled_after limits p before name bytes = settled_in limits (after_sources limits before p) name bytes

-- at a read fault what was settled leaves open how the run continues, and exactly it was written
abbrev pub ExactAtFault : Cause → SettledSoFar → Contents → Type 0
ExactAtFault causes.Read s w = (s.reason ≡ NeedsInput) × HasWritten s.output s.messages w
ExactAtFault cause s w = Unit {0}

-- `asked`, a beginning of the bytes taken and at most a block shorter, leaves open how the run continues: there the
-- last of them were asked for, after all that `asked` settles was written; `part` is what first bytes settle
pub record AskedAt (part : List ℕ → SettledSoFar) (cause : Cause) (taken : List ℕ) (w : Contents) : Type 0 where
  pub asked : List ℕ
  pub last : List ℕ
  pub parts : taken ≡ asked ++ last
  pub within : length last ≤ block
  pub undecided : (part asked).reason ≡ NeedsInput
  pub written : WroteAtLeast (part asked).output (part asked).messages w
  pub exact : ExactAtFault cause (part taken) w

-- the end of the source after these ends the run by this cause, or no source is left after it
abbrev pub EndsOrIsLast : {A : Type 0} → List A → Limits → Progress → List Source → List ℕ → List ℕ → Cause → Type 0
EndsOrIsLast old limits p before name taken cause =
    ((after_sources limits (before ++ Opened name taken ∷ []) p).over ≡ Some (Ends cause))
    ⊎ (length old ≡ length before + 1)

-- where a run ended, by its cause: either the bytes taken, which settle s, end it, whatever follows them; or the
-- source was asked once more after all of them, and was at its end. A read fault comes only where a reader is asked;
-- a writer or an allocation may fail anywhere
abbrev pub EndedBy : Cause → SettledSoFar → Type 0 → Option Script → Type 0 → Type 0
EndedBy causes.Write s all left closed = Unit {0}
EndedBy causes.OutOfMemory s all left closed = Unit {0}
EndedBy causes.Read s all left closed = all × IsAtFault left
EndedBy cause s all left closed = (s.reason ≡ Ends cause) ⊎ (all × IsAtEnd left × closed)

module _ {R : Type 0} (script : R → Option Script) where
  -- one of a run's sources was read to its end: it is this source of the definitions
  abbrev pub IsRead : RunSource R → RunSource R → Source → Type 0
  IsRead (sources.Opened name before) (sources.Opened n after) (Opened m bytes) =
      (n ≡ name) × (m ≡ name) × (script before ≡ after_bytes bytes (script after)) × IsAtEnd (script after)
  IsRead (sources.Unopened name) (sources.Unopened n) (Unopened m) = (n ≡ name) × (m ≡ name)
  IsRead before after s = ⊥

  -- these bytes of one of a run's sources were taken; none if it wasn't opened
  abbrev pub IsCurrent : RunSource R → RunSource R → List ℕ → List ℕ → Type 0
  IsCurrent (sources.Opened name before) (sources.Opened n after) m taken =
      (n ≡ name) × (m ≡ name) × (script before ≡ after_bytes taken (script after))
  IsCurrent (sources.Unopened name) (sources.Unopened n) m taken =
      (n ≡ name) × (m ≡ name) × (taken ≡ [])
  IsCurrent before after m taken = ⊥

  -- the first sources of a run were read to their ends, these bytes were taken of the one after them, and the later
  -- ones are as they were
  abbrev pub Reaches : List (RunSource R) → List (RunSource R) → List Source → List ℕ → List ℕ → Type 0
  Reaches (x ∷ xs) (y ∷ ys) [] name taken = IsCurrent x y name taken × (ys ≡ xs)
  Reaches (x ∷ xs) (y ∷ ys) (s ∷ ss) name taken =
      IsRead x y s × Reaches xs ys ss name taken
  Reaches before after ss name taken = ⊥

  -- all sources of a run were read to their ends
  abbrev pub AreRead : List (RunSource R) → List (RunSource R) → List Source → Type 0
  AreRead [] [] [] = Unit {0}
  AreRead (x ∷ xs) (y ∷ ys) (s ∷ ss) = IsRead x y s × AreRead xs ys ss
  AreRead before after ss = ⊥

  -- what the reader of the source after these was left with; nothing is known of it if that source wasn't opened
  abbrev pub left_after : List (RunSource R) → List Source → Option Script
  left_after (y ∷ ys) [] = script_of script y
  left_after (y ∷ ys) (s ∷ ss) = left_after ys ss
  left_after [] ss = None

  -- how far a run came that was at p before its sources: those before the current one were read to their ends, `taken`
  -- is what was taken of the current one, where the run ended, and of the later ones nothing was
  pub record Reached (old new : List (RunSource R)) (limits : Limits) (p : Progress) (cause : Cause) (w : Contents)
      : Type 0 where
    pub before : List Source
    pub name : List ℕ
    pub taken : List ℕ
    pub place : Reaches old new before name taken
    pub at : AskedAt (settled_after limits p before name) cause taken w
    pub ended : EndedBy cause (settled_after limits p before name taken) (at.asked ≡ taken) (left_after new before)
        (EndsOrIsLast old limits p before name taken cause)

  -- a run came past its sources: all were read to their ends, and the last of them was asked once more where all of its
  -- bytes leave open how the run continues
  pub record IsPast (old new : List (RunSource R)) (limits : Limits) (p : Progress) (cause : Cause) (w : Contents)
      : Type 0 where
    pub sources : List Source
    pub read : AreRead old new sources
    pub reached : Reached old new limits p cause w
    pub all : (reached.at).asked ≡ reached.taken

  -- by the cause: a run that read everything came past its sources; after a frozen file that is refused nothing is
  -- read; and a writer or an allocation may have failed before anything was read
  abbrev pub OnePassBy : List (RunSource R) → List (RunSource R) → Options → Start → Cause → Contents → Type 0
  OnePassBy old new o start (causes.Frozen fault) w = new ≡ old
  OnePassBy old new o start causes.Write w =
      (new ≡ old) ⊎ Reached old new (limits_of o) (begun start) causes.Write w
  OnePassBy old new o start causes.OutOfMemory w =
      (new ≡ old) ⊎ Reached old new (limits_of o) (begun start) causes.OutOfMemory w
  OnePassBy old new o start causes.Done w = IsPast old new (limits_of o) (begun start) causes.Done w
  OnePassBy old new o start cause w = Reached old new (limits_of o) (begun start) cause w

  -- a run passes over its sources once; of a run without sources nothing is said
  abbrev pub OnePass : List (RunSource R) → List (RunSource R) → Options → Start → Cause → Contents → Type 0
  OnePass old new o start cause w = old ≢ [] → OnePassBy old new o start cause w
