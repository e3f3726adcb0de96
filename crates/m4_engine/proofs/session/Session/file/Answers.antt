use Rattle.std.proofs.Common.{rules, refl}
use Rattle.m4_engine.proofs.Sessions.{file_gives, file_reads}
use Rattle.m4_engine.proofs.Ordering.{file_told}
use Rattle.m4_engine.proofs.session.Session.file.Goals as goal

pub returns-clause-gives : goal.returns-clause-gives
returns-clause-gives g c = file_gives c.args.self.now c.settle.new.self c.self.inside.machine c.expand-cause.new.self
    c.come_to_rest.new.self c.self.inside.any_missing c.self.inside.over c.self.inside.finished c.args.name
    c.file-input.result _ _ _ c.expand-cause.result c.settle.result (search rules) (search rules) c.file-input.ensures
    c.expand-cause.ensures.expands c.come_to_rest.ensures c.settle.ensures.over c.settle.ensures.answer

pub returns-clause-read : goal.returns-clause-read
returns-clause-read g c = file_reads c.expand-cause.result c.settle.result _ _ _ c.settle.ensures.answer refl c.expand-cause.ensures.read

pub returns-clause-write : goal.returns-clause-write
returns-clause-write g c = search rules

pub returns-clause-order : goal.returns-clause-order
returns-clause-order g c = file_told c.args.self.now c.self.inside.machine c.self.inside.any_missing c.self.inside.over
    c.self.inside.finished c.args.name c.file-input.result _ _ _ c.expand-cause.result c.settle.result (search rules)
    (search rules) c.file-input.ensures c.expand-cause.ensures.order c.settle.ensures.answer
