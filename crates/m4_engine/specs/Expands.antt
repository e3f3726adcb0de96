-- Expands: the effect of an input's expansion on the machine and the writers.
-- Not believed: it connects the machine with `Session`, which says the same of a source.
-- Manual: "How m4 copies input to output".
-- Words: made_before, input_expansion, Expanded, LastAsked, ReadSo, Fell, Expands, ReadsBy, StepBreaks, StepBreaksBy,
-- FlushesPrefix, IsInOrder, FlushesSome, FlushesDue, IsIdle, FailsOnce.
use Rattle.std.specs.Prelude.{◌≡◌, ◌≤◌, ℕ, Bool, true, false, List, [], ◌++◌, ◌⊎◌, Option, None, length}
use Rattle.std.specs.Prelude.{Result, Ok, Err}
use Rattle.m4_state.specs.Device.{Script, with_bytes, HasBegun, IsAtFault, one_more}
use Rattle.m4_input.specs.Pending.{Pending}
use Rattle.m4_input.specs.Input.{longer, Reads, block}
use Rattle.m4_engine.specs.declared.ending.Cause.{Cause}
use Rattle.m4_engine.specs.declared.ending.Cause.TheVariants as causes
use Rattle.m4_engine.specs.Expansion.{RunSoFar, Ended, Ends, NeedsInput}
use Rattle.m4_engine.specs.Expand.{expand_input, expansion_of}
use Rattle.m4_engine.specs.Engine.{Engine, after_flush}
use Rattle.m4_engine.specs.Turns.{MayFollow}
use Rattle.m4_engine.specs.File.{Progress}
use Rattle.m4_engine.specs.Order.{Breaks, IsBeginning}
use Rattle.m4_engine.specs.Moments.{IsTurnOf}
use Rattle.m4_engine.specs.Writers.{Contents, Failures, NoneFailed, OneFailed, IfBroken, Broken, HasWritten}
use Rattle.m4_engine.specs.Writers.{WroteAtLeast}

-- a run so far, if its earlier output and messages were written
abbrev pub made_before : Engine → RunSoFar
made_before e = record {
  state = e.state;
  output = [];
  messages = [];
  saved = e.saved;
  calls = e.calls;
}

-- the expansion of the input, by the definition
abbrev pub input_expansion : Engine → Pending → Ended
input_expansion e p = expand_input e.limits (made_before e) p

-- the expansion ended by this cause, and all its output and messages were written
pub record Expanded (old new : Engine) (d : Ended) (cause : Cause) (w : Contents) : Type 0 where
  pub reason : d.reason ≡ Ends cause
  pub limits : new.limits ≡ old.limits
  pub state : new.state ≡ (d.so_far).state
  pub saved : new.saved ≡ (d.so_far).saved
  pub calls : new.calls ≡ (d.so_far).calls
  pub output : w.out_new ≡ with_bytes w.out_old (d.so_far).output
  pub messages : w.messages_new ≡ with_bytes w.messages_old (d.so_far).messages

-- `asked`, a beginning of the bytes that the reader gave and at most a block shorter, leaves open how the expansion
-- continues: there the last of them were asked for, after all that `asked` decides was written
pub record LastAsked (old : Engine) (p : Pending) (x : List ℕ) (w : Contents) : Type 0 where
  pub asked : List ℕ
  pub last : List ℕ
  pub parts : x ≡ asked ++ last
  pub within : length last ≤ block
  pub undecided : (input_expansion old (longer asked true p)).reason ≡ NeedsInput
  pub written : WroteAtLeast ((input_expansion old (longer asked true p)).so_far).output
      ((input_expansion old (longer asked true p)).so_far).messages w

-- the reader gave x, so that q is in hand of the input; and whatever follows q, P is so of the expansion
pub record ReadSo (old : Engine) (p : Pending) (before after : Option Script) (w : Contents)
    (P : Ended → Type 0) : Type 0 where
  pub x : List ℕ
  pub q : Pending
  pub reads : Reads before after p x q
  pub asked : (x ≡ []) ⊎ LastAsked old p x w
  pub so : (z : List ℕ) (more : Bool) → MayFollow q.may_follow z more → P (input_expansion old (longer z more q))

-- the reader failed: all that the bytes before its fault decide was made
pub record Fell (old : Engine) (p : Pending) (before after : Option Script) (w : Contents) : Type 0 where
  pub x : List ℕ
  pub reads : Reads before after p x (longer x true p)
  pub at_fault : IsAtFault after
  pub output : w.out_new ≡ with_bytes w.out_old ((input_expansion old (longer x true p)).so_far).output
  pub messages : w.messages_new ≡ with_bytes w.messages_old ((input_expansion old (longer x true p)).so_far).messages
  pub reason : (input_expansion old (longer x true p)).reason ≡ NeedsInput

-- by the cause: the expansion ended so; or a device or an allocation failed, and it was interrupted
abbrev pub Expands : Engine → Engine → Pending → Option Script → Option Script → Contents → Cause → Type 0
Expands old new p before after w (causes.Frozen fault) = ⊥
Expands old new p before after w causes.Read = Fell old p before after w
Expands old new p before after w causes.Write = ReadSo old p before after w (λ d. Broken d w)
Expands old new p before after w causes.OutOfMemory = ReadSo old p before after w (λ d. Broken d w)
Expands old new p before after w cause = ReadSo old p before after w (λ d. Expanded old new d cause w)

-- an expansion ends by a read fault if its reader failed in it, once
abbrev pub ReadsBy : Cause → ℕ → ℕ → Type 0
ReadsBy causes.Read old new = new ≡ one_more old
ReadsBy cause old new = new ≡ old

-- the progress before an input, if its earlier output and messages were written
abbrev pub progress_before : Engine → Progress
progress_before e = record { so_far = made_before e; over = None; any_missing = false }

-- the expansion was broken off: the reader gave x, so that q is in hand of the input; and whatever follows q, a turn
-- shows what was written
pub record StepBreaks (old : Engine) (p : Pending) (before after : Option Script) (w : Contents) : Type 0 where
  pub x : List ℕ
  pub q : Pending
  pub reads : Reads before after p x q
  pub so : (z : List ℕ) (more : Bool) → MayFollow q.may_follow z more
      → Breaks (λ r. IsTurnOf (expansion_of old.limits r.so_far (longer z more q))) (progress_before old) w

-- by the cause
abbrev pub StepBreaksBy : Engine → Pending → Option Script → Option Script → Contents → Cause → Type 0
StepBreaksBy old p before after w cause = IfBroken cause (StepBreaks old p before after w)

-- prefixes of an engine's output and messages were written
abbrev pub FlushesPrefix : List ℕ → List ℕ → Contents → Type 0
FlushesPrefix output messages w =
    HasBegun w.out_old w.out_new output × HasBegun w.messages_old w.messages_new messages

-- a flush failed: a beginning of the output made before a turn was written; or all of that, and a beginning of the
-- messages; or all messages, and a beginning of the turn's own output
abbrev pub IsInOrder : List ℕ → List ℕ → List ℕ → Contents → Type 0
IsInOrder before own messages w =
    (HasBegun w.out_old w.out_new before × (w.messages_new ≡ w.messages_old))
    ⊎ (((w.out_new ≡ with_bytes w.out_old before) × HasBegun w.messages_old w.messages_new messages)
    ⊎ ((x : List ℕ) × IsBeginning x own × (w.out_new ≡ with_bytes w.out_old (before ++ x))
    × (w.messages_new ≡ with_bytes w.messages_old messages)))

-- prefixes of an engine's output and messages were written, and the rest is still buffered
pub record FlushesSome (old new : Engine) (w : Contents) : Type 0 where
  pub front : List ℕ
  pub reported : List ℕ
  pub held : old ≡ record new { output = front ++ new.output; messages = reported ++ new.messages }
  pub output : w.out_new ≡ with_bytes w.out_old front
  pub messages : w.messages_new ≡ with_bytes w.messages_old reported

-- nothing was flushed, or all
abbrev pub FlushesDue : Engine → Engine → Contents → Type 0
FlushesDue old new w =
    ((new ≡ old) × HasWritten [] [] w) ⊎ ((new ≡ after_flush old) × HasWritten old.output old.messages w)

-- an engine between two inputs
pub record IsIdle (e : Engine) : Type 0 where
  pub open_calls : e.open_calls ≡ []
  pub output : e.output ≡ []
  pub messages : e.messages ≡ []

-- with no open call and empty buffers
abbrev pub at_rest : Engine → Engine
at_rest e = record e { open_calls = []; output = []; messages = [] }

-- a flush fails if a writer failed in it
abbrev pub FailsOnce : {A E : Type 0} → Result A E → Failures → Type 0
FailsOnce (Ok x) f = NoneFailed f
FailsOnce (Err e) f = OneFailed f
