use Rattle.std.proofs.Common.{rules, refl}
use Rattle.std.specs.Prelude.{Ok}
use Rattle.m4_engine.specs.Session.{IsOpen}
use Rattle.m4_engine.proofs.Sessions.{froze, freeze_began, freeze_broke}
use Rattle.m4_engine.proofs.Wrapping.{freeze_then, freeze_stops, gone_on, uses_then, uses_none, uses_without_memory}
use Rattle.m4_engine.proofs.Begins.{nothing_begun}
use Rattle.m4_engine.proofs.Missed.{passed_on}
use Rattle.m4_engine.proofs.Ordering.{any_breaks, same_breaks, rounds_end, end_breaks}
use Rattle.m4_engine.proofs.session.Session.freeze.Goals as goal

-- the run ended in its saved texts
pub returns-in_err-read_saved-clause-gives : goal.returns-in_err-read_saved-clause-gives
returns-in_err-read_saved-clause-gives g c =
    freeze_stops c.args.self.now c.read_saved.new.self _ _ c.in_err-read_saved.field-0.0 c.read_saved.result
    c.from_residual.result (search rules) (search rules) (search rules) c.read_saved.ensures.goes

pub returns-in-Err-Write-clause-gives : goal.returns-in-Err-Write-clause-gives
returns-in-Err-Write-clause-gives g c =
    let mid = c.read_saved.new.self in
    let l : IsOpen mid = gone_on _ c.args.self.now mid _ c.in_ok-read_saved.ensures.goes.0 in
    freeze_then c.args.self.now mid c.settle.new.self _ _ _ _ _ _ _ _ c.in_ok-read_saved.ensures.goes.0
    c.in_ok-read_saved.ensures.none_saved c.read_saved.ensures.any_missing c.settle.result
    (freeze_broke mid c.settle.new.self c.state.result.now c.settle.result _ _ _ _ l
    c.in_ok-read_saved.ensures.none_saved (search rules) c.settle.ensures.answer (search rules) (search rules))

pub returns-clause-gives : goal.returns-clause-gives
returns-clause-gives g c =
    let mid = c.read_saved.new.self in
    let l : IsOpen mid = gone_on _ c.args.self.now mid _ c.in_ok-read_saved.ensures.goes.0 in
    freeze_then c.args.self.now mid _ _ _ _ _ _ _ _ _ c.in_ok-read_saved.ensures.goes.0
    c.in_ok-read_saved.ensures.none_saved c.read_saved.ensures.any_missing (Ok tt)
    (froze mid _ c.state.result.now _ _ _ _ l c.in_ok-read_saved.ensures.none_saved (search rules) (search rules) (search rules) (search rules))

pub returns-clause-write : goal.returns-clause-write
returns-clause-write g c = search rules

pub returns-in_err-read_saved-clause-order : goal.returns-in_err-read_saved-clause-order
returns-in_err-read_saved-clause-order g c =
    same_breaks Unit Unit c.in_err-read_saved.field-0.0 c.read_saved.result c.from_residual.result _ _
    c.in_err-read_saved.was
    (passed_on _ _ c.from_residual.ensures) (rounds_end c.args.self.now.limits _ _) c.read_saved.ensures.order

pub returns-in-Err-Write-clause-order : goal.returns-in-Err-Write-clause-order
returns-in-Err-Write-clause-order g c =
    any_breaks {A = Unit} c.settle.result _
    (end_breaks c.args.self.now c.read_saved.new.self _ _ _ _ _ c.in_ok-read_saved.ensures.goes.0 (nothing_begun _ _))

pub returns-in-Err-OutOfMemory-clause-order : goal.returns-in-Err-OutOfMemory-clause-order
returns-in-Err-OutOfMemory-clause-order g c =
    any_breaks {A = Unit} c.settle-in-Err-OutOfMemory.result _
    (end_breaks c.args.self.now c.read_saved.new.self _ _ _ _ _ c.in_ok-read_saved.ensures.goes.0 (nothing_begun _ _))

pub returns-in_err-read_saved-clause-last : goal.returns-in_err-read_saved-clause-last
returns-in_err-read_saved-clause-last g c = uses_none _ _ _ _ c.from_residual.result refl

pub returns-in-Err-Write-clause-last : goal.returns-in-Err-Write-clause-last
returns-in-Err-Write-clause-last g c =
    let mid = c.read_saved.new.self in
    let l : IsOpen mid = gone_on _ c.args.self.now mid _ c.in_ok-read_saved.ensures.goes.0 in
    uses_then c.args.self.now mid c.settle.new.self _ _ _ _ _ _ _ _ c.in_ok-read_saved.ensures.goes.0 c.in_ok-read_saved.ensures.none_saved
    c.read_saved.ensures.any_missing _ _ c.settle.result c.settle.ensures.answer
    (freeze_began mid c.state.result.now _ _ _ _ l c.in_ok-read_saved.ensures.none_saved (search rules) (search rules))

pub returns-in-Err-OutOfMemory-clause-last : goal.returns-in-Err-OutOfMemory-clause-last
returns-in-Err-OutOfMemory-clause-last g c = uses_without_memory _ _ _ _ c.settle-in-Err-OutOfMemory.result c.settle-in-Err-OutOfMemory.ensures.answer
