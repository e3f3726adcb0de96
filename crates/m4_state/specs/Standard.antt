-- Standard: the devices over std's readers and writers, as contracts see them.
-- Not believed: it only names the fields. Words: source_failures, source_takes_left,
-- sink_failures.
use Rattle.std.specs.Prelude.{ℕ}
use Rattle.m4_state.specs.declared.standard.StdSource.{StdSource}
use Rattle.m4_state.specs.declared.standard.StdSink.{StdSink}

-- the number of takes of a reader that have failed
abbrev pub source_failures : {R : Type 0} → StdSource R → ℕ
source_failures s = s.failures

-- the number of takes that are still allowed
abbrev pub source_takes_left : {R : Type 0} → StdSource R → ℕ
source_takes_left s = s.takes_left

-- the number of puts of a writer that have failed
abbrev pub sink_failures : {W : Type 0} → StdSink W → ℕ
sink_failures s = s.failures
