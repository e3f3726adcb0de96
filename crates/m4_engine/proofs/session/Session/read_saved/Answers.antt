use Rattle.std.proofs.Common.{rules, refl, subst}
use Rattle.std.specs.Prelude.{Ok}
use Rattle.m4_engine.specs.declared.ending.Cause.TheVariants as causes
use Rattle.m4_engine.specs.declared.stop.Stop.TheVariants as stops
use Rattle.m4_engine.specs.Writers.{writers}
use Rattle.m4_engine.proofs.Ordering.{any_breaks, round_told, silent_round, some_saved}
use Rattle.m4_engine.proofs.Missed.{passed_on}
use Rattle.m4_engine.proofs.Sessions.{round_gives, round_lacked}
use Rattle.m4_engine.proofs.Wrapping.{none_yet, one_round, all_rounds, round_stops, fewer_rounds}
use Rattle.m4_engine.proofs.Wrapping.{round_step}
use Rattle.m4_engine.proofs.session.Session.read_saved.Goals as goal
use Rattle.m4_engine.specs.SessionSteps.{WrapsGive, round_of}

pub rounds-init : goal.rounds-init
rounds-init g c = record { live = c.requires; runs = none_yet c.args.self.now _ _; sound = (refl, refl); any_missing = refl }

-- a round that went on was made whole
pub rounds-smaller : goal.rounds-smaller
rounds-smaller g c =
    let k : WrapsGive (round_of c.rounds.self) c.rounds.self c.settle-in-rounds.new.self
    (writers (g.O.ByteSink.contents c.rounds.out) (g.O.ByteSink.contents c.expand-ended.new.out)
    (g.M.ByteSink.contents c.rounds.messages) (g.M.ByteSink.contents c.expand-ended.new.messages)) (Ok tt) =
    subst (WrapsGive (round_of c.rounds.self) c.rounds.self c.settle-in-rounds.new.self _) c.in_ok-settle.was
    (round_gives c.rounds.self c.settle-in-rounds.new.self c.self.inside.machine c.take_saved.new.self
    c.expand-ended.new.self c.come_to_rest.new.self c.self.inside.any_missing c.self.inside.over c.self.inside.finished
    c.in-Ok.text c.in-Ok-wrapped.input _ _ _ c.expand-ended.result c.settle-in-rounds.result (search rules) (search rules)
    (search rules) (search rules) c.in-Ok-wrapped.ensures c.expand-ended.ensures.expands c.come_to_rest.ensures (search rules)
    c.settle-in-rounds.ensures.answer) in
    fewer_rounds c.rounds.self c.settle-in-rounds.new.self _ (search rules) k.0.0

pub rounds-preserved : goal.rounds-preserved
rounds-preserved g c =
    let k : WrapsGive (round_of c.rounds.self) c.rounds.self c.settle-in-rounds.new.self
    (writers (g.O.ByteSink.contents c.rounds.out) (g.O.ByteSink.contents c.expand-ended.new.out)
    (g.M.ByteSink.contents c.rounds.messages) (g.M.ByteSink.contents c.expand-ended.new.messages)) (Ok tt) =
    subst (WrapsGive (round_of c.rounds.self) c.rounds.self c.settle-in-rounds.new.self _) c.in_ok-settle.was
    (round_gives c.rounds.self c.settle-in-rounds.new.self c.self.inside.machine c.take_saved.new.self
    c.expand-ended.new.self c.come_to_rest.new.self c.self.inside.any_missing c.self.inside.over c.self.inside.finished
    c.in-Ok.text c.in-Ok-wrapped.input _ _ _ c.expand-ended.result c.settle-in-rounds.result (search rules) (search rules)
    (search rules) (search rules) c.in-Ok-wrapped.ensures c.expand-ended.ensures.expands c.come_to_rest.ensures (search rules)
    c.settle-in-rounds.ensures.answer) in
    record {
      live = record { over = k.0.1; unfinished = k.0.0.unfinished };
      runs = one_round c.args.self.now c.rounds.self c.settle-in-rounds.new.self _ _ _ _ _ _ c.rounds.invariant.runs
          c.rounds.invariant.live (search rules) k.0.0;
      sound = search rules;
      any_missing = search rules;
    }

-- a round that ended the run
pub returns-in_err-settle-clause-goes : goal.returns-in_err-settle-clause-goes
returns-in_err-settle-clause-goes g c =
    round_stops c.args.self.now c.rounds.self c.settle-in-rounds.new.self _ _ _ _ _ _ c.in_err-settle.field-0.0
    c.settle-in-rounds.result c.from_residual.result c.in_err-settle.was (passed_on _ _ c.from_residual.ensures)
    c.requires
    c.rounds.invariant.runs c.rounds.invariant.live (search rules)
    (round_gives c.rounds.self c.settle-in-rounds.new.self c.self.inside.machine c.take_saved.new.self
    c.expand-ended.new.self c.come_to_rest.new.self c.self.inside.any_missing c.self.inside.over c.self.inside.finished
    c.in-Ok.text c.in-Ok-wrapped.input _ _ _ c.expand-ended.result c.settle-in-rounds.result (search rules) (search rules)
    (search rules) (search rules) c.in-Ok-wrapped.ensures c.expand-ended.ensures.expands c.come_to_rest.ensures (search rules)
    c.settle-in-rounds.ensures.answer)

pub returns-in_err-settle-clause-order : goal.returns-in_err-settle-clause-order
returns-in_err-settle-clause-order g c =
    round_step c.args.self.now c.rounds.self _ _ _ _ _ _ c.in_err-settle.field-0.0 c.settle-in-rounds.result
    c.from_residual.result c.in_err-settle.was (passed_on _ _ c.from_residual.ensures) c.rounds.invariant.runs
    (round_told c.rounds.self c.self.inside.machine c.take_saved.new.self
    c.self.inside.any_missing c.self.inside.over c.self.inside.finished c.in-Ok.text c.in-Ok-wrapped.input _ _ _
    c.expand-ended.result c.settle-in-rounds.result (search rules) (search rules) (some_saved c.rounds.self.saved (search rules))
    (search rules) (search rules) c.in-Ok-wrapped.ensures c.expand-ended.ensures.order c.settle-in-rounds.ensures.answer)

-- an allocation failed before it
pub returns-in_default-clause-goes : goal.returns-in_default-clause-goes
returns-in_default-clause-goes g c = round_stops c.args.self.now c.rounds.self c.settle.new.self _ _ _ _ _ _
    (stops.Ended causes.OutOfMemory) c.settle.result c.settle.result c.settle.ensures.answer c.settle.ensures.answer
    c.requires c.rounds.invariant.runs c.rounds.invariant.live (search rules)
    (round_lacked c.rounds.self c.settle.new.self _ c.settle.result c.settle.ensures.answer (search rules) refl refl)

pub returns-in_default-wrapped-clause-goes : goal.returns-in_default-wrapped-clause-goes
returns-in_default-wrapped-clause-goes g c =
    round_stops c.args.self.now c.rounds.self c.settle-in_default-wrapped.new.self _ _ _ _ _ _
    (stops.Ended causes.OutOfMemory) c.settle-in_default-wrapped.result c.settle-in_default-wrapped.result
    c.settle-in_default-wrapped.ensures.answer c.settle-in_default-wrapped.ensures.answer c.requires
    c.rounds.invariant.runs c.rounds.invariant.live (search rules)
    (round_lacked c.rounds.self c.settle-in_default-wrapped.new.self _ c.settle-in_default-wrapped.result
    c.settle-in_default-wrapped.ensures.answer (search rules) refl refl)

pub returns-in_default-clause-order : goal.returns-in_default-clause-order
returns-in_default-clause-order g c = round_step c.args.self.now c.rounds.self _ _ _ _ _ _
    (stops.Ended causes.OutOfMemory) c.settle.result c.settle.result c.settle.ensures.answer c.settle.ensures.answer
    c.rounds.invariant.runs
    (any_breaks {A = Unit} c.settle.result _ (silent_round c.rounds.self _ c.rounds.invariant.live (some_saved c.rounds.self.saved (search rules)) refl refl))

pub returns-in_default-wrapped-clause-order : goal.returns-in_default-wrapped-clause-order
returns-in_default-wrapped-clause-order g c =
    round_step c.args.self.now c.rounds.self _ _ _ _ _ _ (stops.Ended causes.OutOfMemory)
    c.settle-in_default-wrapped.result c.settle-in_default-wrapped.result c.settle-in_default-wrapped.ensures.answer
    c.settle-in_default-wrapped.ensures.answer c.rounds.invariant.runs
    (any_breaks {A = Unit} c.settle-in_default-wrapped.result _
    (silent_round c.rounds.self _ c.rounds.invariant.live (some_saved c.rounds.self.saved (search rules)) refl refl))

pub returns-clause-goes : goal.returns-clause-goes
returns-clause-goes g c = all_rounds c.args.self.now c.rounds.self _ c.requires c.rounds.invariant.live c.rounds.invariant.runs (search rules)
