-- Continued: an expansion of which the bytes in hand were expanded, whatever follows them.
-- Not believed: it connects the driver with `Expand`.
-- Words: comes_to, stands, Leads, Marked, IsMarked, IsFlushed, HandNeeds, HandEnds, HasMade, HandBreaks, BreaksInOrder,
-- OrderBy, HandGives, GivesOut.
use Rattle.std.specs.Prelude.{◌≡◌, ◌⊎◌, ℕ, Bool, true, List, [], ◌++◌, Option}
use Rattle.m4_state.specs.Device.{with_bytes, HasBegun}
use Rattle.m4_input.specs.declared.fault.InputFault.{InputFault}
use Rattle.m4_input.specs.declared.fault.InputFault.TheVariants as faults
use Rattle.m4_input.specs.Pending.{Pending, text_of, line_length}
use Rattle.m4_input.specs.Input.{Held, longer}
use Rattle.m4_engine.specs.declared.ending.Cause.{Cause}
use Rattle.m4_engine.specs.declared.ending.Cause.TheVariants as causes
use Rattle.m4_engine.specs.declared.machine.driver.Wanted.{Wanted}
use Rattle.m4_engine.specs.declared.machine.driver.Wanted.TheVariants as wanted
use Rattle.m4_engine.specs.declared.machine.driver.Paused.{Paused}
use Rattle.m4_engine.specs.declared.machine.driver.Paused.TheVariants as pauses
use Rattle.m4_engine.specs.Nesting.{Outcome, Halted, Closed, then_on}
use Rattle.m4_engine.specs.OpenCalls.{Stacked, Goes, pop, resume}
use Rattle.m4_engine.specs.Moments.{Moment, Next, moved, made_by, Comes}
pub use Rattle.m4_engine.specs.Moments.{so_far_in}
use Rattle.m4_engine.specs.Expansion.{RunSoFar, Expansion, Kept, Ended, Ends, NeedsInput}
use Rattle.m4_engine.specs.Expand.{turn, join, expand, skip_line}
use Rattle.m4_engine.specs.Engine.{Engine, so_far_of, configuration, IsReady}
use Rattle.m4_engine.specs.Order.{Shows}
use Rattle.m4_engine.specs.Turns.{MayFollow}
use Rattle.m4_engine.specs.Writers.{Contents, HasWritten, IfBroken}

-- the rest of a line is to be skipped first, or nothing
abbrev pub skipped_first : Wanted → Expansion → Outcome Expansion Ended
skipped_first wanted.Token s = Closed s
skipped_first wanted.Line s = skip_line (line_length (text_of s.pending)) s

-- what the machine comes to
abbrev pub comes_to : Wanted → Stacked Expansion Kept → Outcome Expansion Ended
comes_to w c = resume Expansion Kept Ended turn join expand c.outer (then_on (skipped_first w c.here) expand)

-- where the machine stands: before a turn, or within one that skips the rest of a line
abbrev pub stands : Wanted → Moment → Next
stands wanted.Token c = Goes c
stands wanted.Line c = pop Expansion Kept Ended turn join c.outer (skipped_first wanted.Line c.here)

-- from the one place the machine comes to the other, whatever follows the bytes in hand: it made o and m on the way
pub record Leads (w : Wanted) (old : Engine) (p : Pending) (v : Wanted) (new : Engine) (q : Pending)
    (o m : List ℕ) : Type 0 where
  pub comes : (z : List ℕ) (more : Bool) → MayFollow p.may_follow z more → (a b : List ℕ)
      → (way : List Moment) × Comes way (stands w (configuration a b old (longer z more p)))
      (stands v (configuration (a ++ o) (b ++ m) new (longer z more q)))
  pub follows : q.may_follow ≡ p.may_follow
  pub limits : new.limits ≡ old.limits

-- o and m were written on the way from a place: the turn at `at` shows it, whatever follows the bytes in hand
pub record Marked (w : Wanted) (old : Engine) (p : Pending) (o m : List ℕ) : Type 0 where
  pub at : Engine
  pub q : Pending
  pub before : List ℕ
  pub reported : List ℕ
  pub leads : Leads w old p wanted.Token at q before reported
  pub shown : (z : List ℕ) (more : Bool) → MayFollow p.may_follow z more → (a b : List ℕ)
      → Shows (so_far_of (a ++ before) (b ++ reported) at)
      (made_by (moved (configuration (a ++ before) (b ++ reported) at (longer z more q)))) (a ++ o) (b ++ m)

-- nothing was written, or a turn shows what was
abbrev pub IsMarked : Wanted → Engine → Pending → List ℕ → List ℕ → Type 0
IsMarked w old p o m = ((o ≡ []) × (m ≡ [])) ⊎ Marked w old p o m

-- nothing is buffered
pub record IsFlushed (e : Engine) : Type 0 where
  pub output : e.output ≡ []
  pub messages : e.messages ≡ []

-- the bytes in hand were expanded as far as they decide: what was made was written
pub record HandNeeds (w : Wanted) (old : Engine) (i : Held) (v : Wanted) (new : Engine) (j : Held)
    (c : Contents) : Type 0 where
  pub o : List ℕ
  pub m : List ℕ
  pub written : HasWritten o m c
  pub marked : IsMarked w old i.pending o m
  pub leads : Leads w old i.pending v new j.pending o m
  pub ready : IsReady j
  pub opened : (i.pending).may_follow ≡ true
  pub flushed : IsFlushed new
  pub undecided : (a b : List ℕ)
      → comes_to v (configuration (a ++ o) (b ++ m) new j.pending)
      ≡ Halted (record { so_far = so_far_of (a ++ o) (b ++ m) new; reason = NeedsInput })

-- the expansion ended, whatever follows the bytes in hand: what was made was written
pub record HandEnds (w : Wanted) (old : Engine) (p : Pending) (cause : Cause) (new : Engine)
    (c : Contents) : Type 0 where
  pub o : List ℕ
  pub m : List ℕ
  pub written : HasWritten o m c
  pub ends : (z : List ℕ) (more : Bool) → MayFollow p.may_follow z more → (a b : List ℕ)
      → comes_to w (configuration a b old (longer z more p))
      ≡ Halted (record { so_far = so_far_of (a ++ o) (b ++ m) new; reason = Ends cause })
  pub flushed : IsFlushed new
  pub limits : new.limits ≡ old.limits

-- some was made, and perhaps more
pub record HasMade (o m : List ℕ) (r : RunSoFar) : Type 0 where
  pub x : List ℕ
  pub y : List ℕ
  pub output : r.output ≡ o ++ x
  pub messages : r.messages ≡ m ++ y

-- a device or an allocation failed: a part of what is made was written, whatever follows
pub record HandBreaks (w : Wanted) (old : Engine) (p : Pending) (c : Contents) : Type 0 where
  pub o : List ℕ
  pub m : List ℕ
  pub written : HasWritten o m c
  pub made : (z : List ℕ) (more : Bool) → MayFollow p.may_follow z more → (a b : List ℕ)
      → HasMade (a ++ o) (b ++ m) (so_far_in (comes_to w (configuration a b old (longer z more p))))

-- a writer or an allocation failed: a turn shows what was written
pub record BreaksInOrder (w : Wanted) (old : Engine) (p : Pending) (c : Contents) : Type 0 where
  pub o : List ℕ
  pub m : List ℕ
  pub written : HasWritten o m c
  pub marked : Marked w old p o m

-- by the outcome
abbrev pub OrderBy : Wanted → Engine → Pending → Contents → Paused → Type 0
OrderBy w old p c (pauses.For v) = Unit {0}
OrderBy w old p c (pauses.Over cause) = IfBroken cause (BreaksInOrder w old p c)

abbrev pub HandGives : Wanted → Engine → Engine → Held → Held → Contents → Paused → Type 0
HandGives w old new i j c (pauses.For v) = HandNeeds w old i v new j c
HandGives w old new i j c (pauses.Over causes.Read) = ⊥
HandGives w old new i j c (pauses.Over (causes.Frozen fault)) = ⊥
HandGives w old new i j c (pauses.Over causes.Write) = HandBreaks w old i.pending c
HandGives w old new i j c (pauses.Over causes.OutOfMemory) = HandBreaks w old i.pending c
HandGives w old new i j c (pauses.Over cause) = HandEnds w old i.pending cause new c

-- by the cause that ends an expansion without memory: all of this output was written, or a beginning of it
abbrev pub GivesOut : List ℕ → Option (List ℕ) → Option (List ℕ) → Cause → Type 0
GivesOut x before after causes.OutOfMemory = after ≡ with_bytes before x
GivesOut x before after causes.Write = HasBegun before after x
GivesOut x before after cause = ⊥

-- a write fault is that of a writer, which failed once; otherwise none did
abbrev pub cause_of : Paused → Cause
cause_of (pauses.For v) = causes.Done
cause_of (pauses.Over cause) = cause

-- the cause that ends an expansion whose next block is missing
abbrev pub fault_cause : InputFault → Cause
fault_cause faults.Read = causes.Read
fault_cause fault = causes.OutOfMemory
