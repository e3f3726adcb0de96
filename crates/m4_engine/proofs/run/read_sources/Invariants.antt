use Rattle.std.proofs.Common.{◌≡◌, List, drop, take}
use Rattle.std.specs.Prelude.{◌||◌}
use Rattle.m4_engine.specs.File.{Source}
use Rattle.m4_engine.specs.Writers.{both, NoneFailed}
use Rattle.m4_engine.specs.Session.{IsOpen}
use Rattle.m4_engine.specs.RunSources.{AllPairs, is_sound, any_unopened, AllConsumeOnly}
use Rattle.m4_engine.proofs.Reached.{ReadSoFar}
use Rattle.m4_engine.proofs.Reading.{Between, FirstFor}
use Rattle.m4_engine.proofs.run.read_sources.Given as goal

-- the sources before this one were read, and those from it on are as they were
abbrev pub invariant-sources : goal.invariant-sources
invariant-sources g l =
    IsOpen l.session × (drop l.source-index l.sources ≡ drop l.source-index l.fn.sources)
    × NoneFailed (both g.O.ByteSink.failures g.M.ByteSink.failures l.fn.out l.out l.fn.messages l.messages)
    × AllConsumeOnly g.R.ByteSource.script l.fn.sources l.sources
    × ((ss : List Source) → FirstFor g.R.ByteSource.script l.source-index l.fn.sources l.sources ss
    → Between ss l.source-index l.fn.session l.session (both g.O.ByteSink.contents g.M.ByteSink.contents l.fn.out l.out l.fn.messages l.messages))
    × AllPairs (is_sound g.R.ByteSource.failures) l.fn.sources l.sources
    × ((any_unopened (drop l.source-index l.fn.sources) || l.session.any_missing) ≡ (any_unopened l.fn.sources || l.fn.session.any_missing))
    × ReadSoFar g.R.ByteSource.script l.source-index l.fn.sources l.sources l.fn.session l.session
    (both g.O.ByteSink.contents g.M.ByteSink.contents l.fn.out l.out l.fn.messages l.messages)
    × (l.session.any_missing ≡ (any_unopened (take l.source-index l.fn.sources) || l.fn.session.any_missing))
