-- Growth: words on what an expansion adds to what was written, and on longer inputs.
use Rattle.std.proofs.Common.{◌≡◌, ◌≢◌, ℕ, Bool, true, List, ◌++◌, ◌⊎◌}
use Rattle.m4_input.specs.Input.{longer}
use Rattle.m4_engine.specs.declared.ending.Cause.TheVariants as causes
use Rattle.m4_engine.specs.Nesting.{Outcome, Halted, Closed}
use Rattle.m4_engine.specs.Expansion.{RunSoFar, Expansion, Ended, Ends, NeedsInput}
use Rattle.m4_engine.specs.Moments.{so_far_in}

-- the new one has the old one's output and messages, and maybe more
pub record Extends (old new : RunSoFar) : Type 0 where
  pub more : List ℕ
  pub output : new.output ≡ old.output ++ more
  pub reported : List ℕ
  pub messages : new.messages ≡ old.messages ++ reported

-- a level whose pending input has more bytes after it, and an end
abbrev pub longer_level : List ℕ → Bool → Expansion → Expansion
longer_level z b s = record s { pending = longer z b s.pending }

-- how an end relates to the outcome of a longer input: more input is needed, and the other continues after
-- the bytes written; or both end alike, and not at the end of the input
abbrev pub Continues : Ended → Outcome Expansion Ended → Type 0
Continues d o = ((d.reason ≡ NeedsInput) × Extends d.so_far (so_far_in o)) ⊎ ((o ≡ Halted d) × (d.reason ≢ Ends causes.Done))

-- the same of outcomes
abbrev pub Begins : List ℕ → Bool → Outcome Expansion Ended → Outcome Expansion Ended → Type 0
Begins z b (Halted d) o = Continues d o
Begins z b (Closed s) o = (t : Expansion) × (o ≡ Closed t) × ((s.pending).may_follow ≡ true) × (t ≡ longer_level z b s)
