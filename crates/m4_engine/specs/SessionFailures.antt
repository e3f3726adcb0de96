-- Session failures: how often readers and writers failed in a call of a session, by what it answers.
-- Believed. Manual: "Invoking m4".
-- Words: ByAnswer, WriteFails, ThreeFail, ReadFails, MessageWriteFails, ReloadFails.
use Rattle.std.specs.Prelude.{◌≡◌, ℕ, List, Option, Result, Ok, Err}
use Rattle.m4_state.specs.Device.{one_more}
use Rattle.m4_engine.specs.declared.ending.Cause.TheVariants as causes
use Rattle.m4_engine.specs.declared.stop.Stop.{Stop}
use Rattle.m4_engine.specs.declared.stop.Stop.TheVariants as stops
use Rattle.m4_engine.specs.RunSources.{IsFaultBy}
use Rattle.m4_engine.specs.Writers.{Failures, Three, NoneFailed, OneFailed, ByCause, NoneOfThree}
use Rattle.m4_engine.specs.Writers.{OneOfThree}

-- by a result: one writer failed if the run ends by a write fault, and otherwise none did
abbrev pub ByAnswer : {A : Type 0} → Result A Stop → Type 0 → Type 0 → Type 0
ByAnswer (Ok done) none one = none
ByAnswer (Err stops.Finished) none one = none
ByAnswer (Err (stops.Ended cause)) none one = ByCause cause none one

-- a call ends the run by a write fault if a writer failed in it
abbrev pub WriteFails : {A : Type 0} → Result A Stop → Failures → Type 0
WriteFails answer f = ByAnswer answer (NoneFailed f) (OneFailed f)

-- the same of three writers
abbrev pub ThreeFail : {A : Type 0} → Result A Stop → Three ℕ → Three (Option (List ℕ)) → Type 0
ThreeFail answer f w = ByAnswer answer (NoneOfThree f) (OneOfThree f w)

-- a call ends the run by a read fault if its reader failed in it, once; otherwise it did not fail
abbrev pub ReadFails : {A : Type 0} → Result A Stop → ℕ → ℕ → Type 0
ReadFails (Err (stops.Ended causes.Read)) old new = new ≡ one_more old
ReadFails result old new = new ≡ old

-- the same for a call with one writer, by its number of failures before and after
abbrev pub MessageWriteFails : {A : Type 0} → Result A Stop → ℕ → ℕ → Type 0
MessageWriteFails answer old new = ByAnswer answer (new ≡ old) (new ≡ one_more old)

-- the reader of a frozen file failed if the run ends by that; it did not fail if the run begins
abbrev pub ReloadFails : {A : Type 0} → Result A Stop → ℕ → ℕ → Type 0
ReloadFails (Err (stops.Ended (causes.Frozen fault))) old new = IsFaultBy fault old new
ReloadFails answer old new = new ≡ old
