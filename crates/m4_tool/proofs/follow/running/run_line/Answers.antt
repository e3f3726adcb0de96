-- The sources are those of the line, and the late file has the line's name.
use Rattle.std.proofs.Common.{ap, ◌∙◌}
use Rattle.std.specs.Prelude.{map, option_map, string_bytes, unwrap_or, []}
use Rattle.m4_tool.specs.Line.{words_of}
use Rattle.m4_engine.specs.Run.{run as defined}
use Rattle.m4_tool.proofs.RanFiles.{not_begun, ran_as}
use Rattle.m4_tool.proofs.ReadFaults.{never_read}
use Rattle.m4_tool.proofs.FollowedCalls.{never_done}
use Rattle.m4_tool.proofs.follow.running.run_line.Goals as goal

pub returns-in_default-clause-ran : goal.returns-in_default-clause-ran
returns-in_default-clause-ran g c = λ files input script ss k t e.
    not_begun (unwrap_or (option_map string_bytes c.args.line.now.freeze) [])
    (defined c.args.line.now.options script ss) c.without_memory.result.ending _ _ _ _ _
    c.without_memory.ensures.ending (ap g.W.World.files c.without_memory.ensures.world ∙ c.sources_of.ensures.files)

pub returns-in_default-name_of-clause-ran : goal.returns-in_default-name_of-clause-ran
returns-in_default-name_of-clause-ran g c = λ files input script ss k t e.
    not_begun (unwrap_or (option_map string_bytes c.args.line.now.freeze) [])
    (defined c.args.line.now.options script ss) c.without_memory-in_default-name_of.result.ending _ _ _ _ _
    c.without_memory-in_default-name_of.ensures.ending
    (ap g.W.World.files c.without_memory-in_default-name_of.ensures.world ∙ c.sources_of.ensures.files)

pub returns-clause-ran : goal.returns-clause-ran
returns-clause-ran g c = λ files input script ss k t e.
    ran_as c.in-Ok-name_of.name (unwrap_or (option_map string_bytes c.args.line.now.freeze) [])
    (defined c.args.line.now.options script ss) c.run_late.result.ending
    (g.O.ByteSink.contents c.args.out.now) (g.O.ByteSink.contents c.run_late.new.out)
    (g.M.ByteSink.contents c.args.messages.now) (g.M.ByteSink.contents c.run_late.new.messages)
    (g.M.ByteSink.failures c.args.messages.now) (g.M.ByteSink.failures c.run_late.new.messages)
    (g.W.World.files c.sources_of.new.world) (g.W.World.files c.args.world) (g.W.World.files c.run_late.result.world)
    c.in-Ok-name_of.ensures c.sources_of.ensures.files
    (c.run_late.ensures.ran files input (words_of (map string_bytes c.args.line.now.files.items)) script ss
    (rw c.deref_mut.ensures.value (rw c.as_slice.ensures.value at (c.in-Ok.ensures.sources files input k))) t e)

pub returns-in_default-clause-read : goal.returns-in_default-clause-read
returns-in_default-clause-read g c = λ files input k e. never_read c.without_memory.result.ending c.without_memory.ensures.ending e

pub returns-in_default-name_of-clause-read : goal.returns-in_default-name_of-clause-read
returns-in_default-name_of-clause-read g c = λ files input k e.
    never_read c.without_memory-in_default-name_of.result.ending c.without_memory-in_default-name_of.ensures.ending e

pub returns-clause-read : goal.returns-clause-read
returns-clause-read g c = λ files input k e.
    c.run_late.ensures.read files input (words_of (map string_bytes c.args.line.now.files.items))
    (rw c.deref_mut.ensures.value (rw c.as_slice.ensures.value at (c.in-Ok.ensures.sources files input k))) e

pub returns-in_default-clause-sized : goal.returns-in_default-clause-sized
returns-in_default-clause-sized g c = λ files input script ss k t e d.
    never_done c.without_memory.result.ending c.without_memory.ensures.ending d

pub returns-in_default-name_of-clause-sized : goal.returns-in_default-name_of-clause-sized
returns-in_default-name_of-clause-sized g c = λ files input script ss k t e d.
    never_done c.without_memory-in_default-name_of.result.ending c.without_memory-in_default-name_of.ensures.ending d

pub returns-clause-sized : goal.returns-clause-sized
returns-clause-sized g c = λ files input script ss k t e d freezes.
    c.run_late.ensures.sized files input (words_of (map string_bytes c.args.line.now.files.items)) script ss
    (rw c.deref_mut.ensures.value (rw c.as_slice.ensures.value at (c.in-Ok.ensures.sources files input k))) t e d freezes
