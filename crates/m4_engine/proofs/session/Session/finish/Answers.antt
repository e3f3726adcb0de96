use Rattle.std.proofs.Common.{rules, refl}
use Rattle.std.specs.Prelude.{Ok}
use Rattle.m4_engine.specs.Session.{IsOpen}
use Rattle.m4_engine.proofs.Sessions.{finish_broke, issued_all}
use Rattle.m4_engine.proofs.Wrapping.{finish_then, finish_stops, gone_on}
use Rattle.m4_engine.proofs.Ordering.{any_breaks, same_breaks, rounds_end, end_breaks}
use Rattle.m4_engine.proofs.session.Session.finish.Goals as goal

-- the run ended in its saved texts
pub returns-in_err-read_saved-clause-gives : goal.returns-in_err-read_saved-clause-gives
returns-in_err-read_saved-clause-gives g c =
    finish_stops c.args.self.now c.read_saved.new.self _ c.in_err-read_saved.field-0.0 c.read_saved.result
    c.from_residual.result (search rules) (search rules) (search rules) c.read_saved.ensures.goes

-- the diversions could not be issued
pub returns-in-Err-clause-gives : goal.returns-in-Err-clause-gives
returns-in-Err-clause-gives g c =
    let mid = c.read_saved.new.self in
    let l : IsOpen mid = gone_on _ c.args.self.now mid _ c.in_ok-read_saved.ensures.goes.0 in
    finish_then c.args.self.now mid c.settle.new.self _ _ _ _ _ _ c.in_ok-read_saved.ensures.goes.0
    c.in_ok-read_saved.ensures.none_saved c.read_saved.ensures.any_missing c.settle.result
    (finish_broke mid c.settle.new.self _ c.settle.result l c.in_ok-read_saved.ensures.none_saved c.settle.ensures.answer (search rules) refl (search rules))

pub returns-clause-gives : goal.returns-clause-gives
returns-clause-gives g c =
    let mid = c.read_saved.new.self in
    let l : IsOpen mid = gone_on _ c.args.self.now mid _ c.in_ok-read_saved.ensures.goes.0 in
    finish_then c.args.self.now mid _ _ _ _ _ _ _ c.in_ok-read_saved.ensures.goes.0
    c.in_ok-read_saved.ensures.none_saved c.read_saved.ensures.any_missing (Ok tt)
    (issued_all mid _ _ _ _ l c.in_ok-read_saved.ensures.none_saved (search rules) (search rules) (search rules)
    (search rules) (search rules) (search rules) (search rules))

pub returns-in_err-read_saved-clause-order : goal.returns-in_err-read_saved-clause-order
returns-in_err-read_saved-clause-order g c =
    same_breaks Unit Unit c.in_err-read_saved.field-0.0 c.read_saved.result c.from_residual.result _ _ (search rules)
    (search rules) (rounds_end c.args.self.now.limits _ _) c.read_saved.ensures.order

pub returns-in-Err-clause-order : goal.returns-in-Err-clause-order
returns-in-Err-clause-order g c = any_breaks {A = Unit} c.settle.result _
    (end_breaks c.args.self.now c.read_saved.new.self _ _ _ _ _
    c.in_ok-read_saved.ensures.goes.0 (search rules))
