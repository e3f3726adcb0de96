use Rattle.std.proofs.Common.{◌≡◌, rules, refl, sym, ◌∙◌, Bool}
use Rattle.std.specs.Prelude.{Ok, Err}
use Rattle.m4_engine.specs.declared.stop.Stop.{Stop}
use Rattle.m4_engine.specs.File.{after_sources}
use Rattle.m4_engine.specs.Session.{progress_of}
use Rattle.m4_engine.proofs.Readers.{same_fails, close_sound}
use Rattle.m4_engine.proofs.Whole.{early_so, late_so, well_so, sized_so, last_so, last_unused}
use Rattle.m4_engine.proofs.Starts.{close_left}
use Rattle.m4_engine.proofs.Closing.{Closes, closes_so, finish_closes, freeze_closes, uses_so}
use Rattle.m4_engine.proofs.RunReached.{early_reached, late_reached, closed_reached}
use Rattle.m4_engine.proofs.Missed.{exited_late, passed_on, same_stop}
use Rattle.m4_engine.proofs.Ordering.{same_breaks, sources_step, end_step}
use Rattle.m4_engine.proofs.run.read_to_end.Goals.{then-freezes, else-freezes}
use Rattle.m4_engine.proofs.run.read_to_end.Goals as goal
use Rattle.m4_engine.specs.SessionSteps.{ending_by}

-- an answer that is no error
went_well : {A : Type 0} {x : A} {e : Stop} → Ok x ≡ Err e → ⊥
went_well h = cc

-- a fact that is used more than once
given : (A : Type 0) {B : Type 0} → A → (A → B) → B
given A a f = f a

pub returns-in_err-read_sources-clause-writes : goal.returns-in_err-read_sources-clause-writes
returns-in_err-read_sources-clause-writes g c = λ ss s. record {
  gives = early_so c.args.freezes ss (after_sources c.args.session.now.limits ss (progress_of c.args.session.now))
      c.args.session.now c.read_sources.new.session _ c.in_err-read_sources.field-0.0 c.read_sources.result
      c.from_residual.result c.in_err-read_sources.was
      (passed_on _ _ c.from_residual.ensures) c.read_sources.ensures.left.0 refl
      (c.read_sources.ensures.writes ss s).goes;
  order = same_breaks Unit Bool c.in_err-read_sources.field-0.0 c.read_sources.result c.from_residual.result _ _
      c.in_err-read_sources.was (passed_on _ _ c.from_residual.ensures)
      (sources_step c.args.session.now.limits ss _ _) (c.read_sources.ensures.writes ss s).order;
}

pub returns-in_err-read_sources-clause-frozen : goal.returns-in_err-read_sources-clause-frozen
returns-in_err-read_sources-clause-frozen g c = λ ss s. record {
  sized = search rules;
}

pub returns-in_err-read_sources-clause-last : goal.returns-in_err-read_sources-clause-last
returns-in_err-read_sources-clause-last g c = λ ss s. last_unused (ending_by 0 c.from_residual.result).cause _ _ _ _ refl

pub returns-in_err-read_sources-clause-reads : goal.returns-in_err-read_sources-clause-reads
returns-in_err-read_sources-clause-reads g c = record {
  reached = λ n. early_reached g.R.ByteSource.script c.args.sources.now
      c.read_sources.new.sources c.args.session.now c.read_sources.new.session _ c.in_err-read_sources.field-0.0
      c.read_sources.result c.from_residual.result c.in_err-read_sources.was
      (passed_on _ _ c.from_residual.ensures) c.read_sources.ensures.left.0
      c.read_sources.ensures.reads.reached;
  failed = same_fails g.R.ByteSource.script g.R.ByteSource.failures c.args.sources.now c.read_sources.new.sources
      c.in_err-read_sources.field-0.0 c.read_sources.result c.from_residual.result c.in_err-read_sources.was
      (passed_on _ _ c.from_residual.ensures)
      c.read_sources.ensures.reads.failed;
  taken = search rules;
}

pub returns-in_err-read_sources-clause-marks : goal.returns-in_err-read_sources-clause-marks
returns-in_err-read_sources-clause-marks g c = record {
  read = search rules;
  exited = λ code e n.
      c.read_sources.ensures.marks.exited code
      (same_stop c.in_err-read_sources.field-0.0 _ c.read_sources.result c.from_residual.result
      c.in_err-read_sources.was (passed_on _ _ c.from_residual.ensures) e) n;
}

-- the end of the run is broken off
pub returns-in_err-closed : goal.returns-in_err-closed
returns-in_err-closed g c =
    given (c.from_residual-in_err-closed.result ≡ Err c.in_err-closed.field-0.0)
    (passed_on _ _ c.from_residual-in_err-closed.ensures) (λ broken.
    given (Closes g.O.ByteSink.contents g.M.ByteSink.contents g.Z.ByteSink.contents g.O.ByteSink.failures
    g.M.ByteSink.failures g.Z.ByteSink.failures
    c.args.freezes c.read_sources.new.session c.read_sources.new.out c.read_sources.new.messages c.args.freeze_to.now
    c.if-freezes.session c.if-freezes.out c.if-freezes.messages c.if-freezes.freeze_to c.if-freezes.closed)
    (elim c.if-freezes.branch [
      | then-freezes w ↦ closes_so
          g.O.ByteSink.contents g.M.ByteSink.contents g.Z.ByteSink.contents g.O.ByteSink.failures g.M.ByteSink.failures g.Z.ByteSink.failures
          c.args.freezes c.read_sources.new.session c.read_sources.new.out c.read_sources.new.messages c.args.freeze_to.now
          w.freeze-closed.new.self c.if-freezes.session w.freeze-closed.new.out c.if-freezes.out
          w.freeze-closed.new.messages c.if-freezes.messages w.freeze-closed.new.freeze_to c.if-freezes.freeze_to
          w.freeze-closed.result c.if-freezes.closed
          w.session-is w.out-is w.messages-is w.freeze_to-is w.closed-is
          (freeze_closes
          g.O.ByteSink.contents g.M.ByteSink.contents g.Z.ByteSink.contents g.O.ByteSink.failures g.M.ByteSink.failures g.Z.ByteSink.failures
          c.args.freezes c.read_sources.new.session c.read_sources.new.out c.read_sources.new.messages c.args.freeze_to.now
          w.freeze-closed.new.self w.freeze-closed.new.out w.freeze-closed.new.messages w.freeze-closed.new.freeze_to
          w.freeze-closed.result w.if-freezes.true
          w.freeze-closed.ensures.gives w.freeze-closed.ensures.order w.freeze-closed.ensures.any_missing
          w.freeze-closed.ensures.write w.freeze-closed.ensures.last)
      | else-freezes w ↦ closes_so
          g.O.ByteSink.contents g.M.ByteSink.contents g.Z.ByteSink.contents g.O.ByteSink.failures g.M.ByteSink.failures g.Z.ByteSink.failures
          c.args.freezes c.read_sources.new.session c.read_sources.new.out c.read_sources.new.messages c.args.freeze_to.now
          w.finish-closed.new.self c.if-freezes.session w.finish-closed.new.out c.if-freezes.out
          w.finish-closed.new.messages c.if-freezes.messages c.args.freeze_to.now c.if-freezes.freeze_to
          w.finish-closed.result c.if-freezes.closed
          w.session-is w.out-is w.messages-is w.freeze_to-is w.closed-is
          (finish_closes
          g.O.ByteSink.contents g.M.ByteSink.contents g.Z.ByteSink.contents g.O.ByteSink.failures g.M.ByteSink.failures g.Z.ByteSink.failures
          c.args.freezes c.read_sources.new.session c.read_sources.new.out c.read_sources.new.messages c.args.freeze_to.now
          w.finish-closed.new.self w.finish-closed.new.out w.finish-closed.new.messages w.finish-closed.result
          w.if-freezes.false
          w.finish-closed.ensures.gives w.finish-closed.ensures.order w.finish-closed.ensures.any_missing w.finish-closed.ensures.write)
    ]) (λ k. record {
      left = close_left c.args.freezes c.read_sources.new.session c.if-freezes.session _ c.in_err-closed.field-0.0
          c.if-freezes.closed c.from_residual-in_err-closed.result c.in_err-closed.was broken
          c.in_ok-read_sources.ensures.left.1 k.gives;
      writes = λ ss s. record {
        gives = late_so c.args.freezes c.args.session.now.limits ss
            (after_sources c.args.session.now.limits ss (progress_of c.args.session.now)) c.args.session.now
            c.read_sources.new.session c.if-freezes.session _ _ _ _ _ _ _ _ refl (c.in_ok-read_sources.ensures.writes ss s).goes
            c.in_err-closed.field-0.0 c.if-freezes.closed c.from_residual-in_err-closed.result
            c.in_err-closed.was broken
            c.in_ok-read_sources.ensures.left.1 k.gives;
        order = same_breaks Unit Bool c.in_err-closed.field-0.0 c.if-freezes.closed
            c.from_residual-in_err-closed.result _ _ c.in_err-closed.was broken
            (end_step ss c.args.session.now c.read_sources.new.session _ _ _ _ _ _ (c.in_ok-read_sources.ensures.writes ss s).goes) k.order;
      };
      frozen = λ ss s. record {
        sized = search rules;
      };
      last = λ ss s. last_so _ _ c.args.freezes c.args.session.now.limits ss
          (after_sources c.args.session.now.limits ss (progress_of c.args.session.now)) c.args.session.now
          c.read_sources.new.session c.if-freezes.session _ _ _ _ _ _ _ _ refl (c.in_ok-read_sources.ensures.writes ss s).goes
          c.in_err-closed.field-0.0 c.if-freezes.closed c.from_residual-in_err-closed.result c.in_err-closed.was broken
          k.writers.spared k.last;
      reads = record {
        reached = λ n. late_reached g.R.ByteSource.script c.args.sources.now
            c.read_sources.new.sources c.args.freezes c.args.session.now c.read_sources.new.session c.if-freezes.session _ _ _
            _ _ _ n c.in_ok-read_sources.ensures.left.1 c.in_ok-read_sources.ensures.reads.reached _ c.in_err-closed.field-0.0
            c.if-freezes.closed c.from_residual-in_err-closed.result refl c.in_err-closed.was broken k.gives;
        failed = close_sound g.R.ByteSource.script g.R.ByteSource.failures c.args.sources.now
            c.read_sources.new.sources c.args.freezes c.read_sources.new.session c.if-freezes.session _
            c.in_err-closed.field-0.0 c.if-freezes.closed c.from_residual-in_err-closed.result
            c.in_err-closed.was broken
            k.gives c.in_ok-read_sources.ensures.reads.failed;
        taken = search rules;
      };
      marks = record {
        read = search rules;
        exited = λ code e n.
            exited_late c.args.sources.now c.read_sources.new.sources c.read_sources.new.session.any_missing
            c.if-freezes.session.any_missing c.args.session.now.any_missing c.in_ok-read_sources.ensures.marks.read
            k.any_missing n;
      };
      writers = uses_so c.args.freezes _ _ _ _ _ _ _ _ _ _ _ _ _ _ c.in_err-closed.field-0.0 c.if-freezes.closed
          c.from_residual-in_err-closed.result c.in_ok-read_sources.ensures.write.0 c.in_ok-read_sources.ensures.write.1
          c.in_err-closed.was broken k.writers;
    }))

-- the run came to its end
pub returns : goal.returns
returns g c =
    given (Closes g.O.ByteSink.contents g.M.ByteSink.contents g.Z.ByteSink.contents g.O.ByteSink.failures
    g.M.ByteSink.failures g.Z.ByteSink.failures
    c.args.freezes c.read_sources.new.session c.read_sources.new.out c.read_sources.new.messages c.args.freeze_to.now
    c.if-freezes.session c.if-freezes.out c.if-freezes.messages c.if-freezes.freeze_to (Ok tt))
    (elim c.if-freezes.branch [
      | then-freezes w ↦ closes_so
          g.O.ByteSink.contents g.M.ByteSink.contents g.Z.ByteSink.contents g.O.ByteSink.failures g.M.ByteSink.failures g.Z.ByteSink.failures
          c.args.freezes c.read_sources.new.session c.read_sources.new.out c.read_sources.new.messages c.args.freeze_to.now
          w.freeze-closed.new.self c.if-freezes.session w.freeze-closed.new.out c.if-freezes.out
          w.freeze-closed.new.messages c.if-freezes.messages w.freeze-closed.new.freeze_to c.if-freezes.freeze_to
          w.freeze-closed.result (Ok tt)
          w.session-is w.out-is w.messages-is w.freeze_to-is (sym c.in_ok-closed.was ∙ w.closed-is)
          (freeze_closes
          g.O.ByteSink.contents g.M.ByteSink.contents g.Z.ByteSink.contents g.O.ByteSink.failures g.M.ByteSink.failures g.Z.ByteSink.failures
          c.args.freezes c.read_sources.new.session c.read_sources.new.out c.read_sources.new.messages c.args.freeze_to.now
          w.freeze-closed.new.self w.freeze-closed.new.out w.freeze-closed.new.messages w.freeze-closed.new.freeze_to
          w.freeze-closed.result w.if-freezes.true
          w.freeze-closed.ensures.gives w.freeze-closed.ensures.order w.freeze-closed.ensures.any_missing
          w.freeze-closed.ensures.write w.freeze-closed.ensures.last)
      | else-freezes w ↦ closes_so
          g.O.ByteSink.contents g.M.ByteSink.contents g.Z.ByteSink.contents g.O.ByteSink.failures g.M.ByteSink.failures g.Z.ByteSink.failures
          c.args.freezes c.read_sources.new.session c.read_sources.new.out c.read_sources.new.messages c.args.freeze_to.now
          w.finish-closed.new.self c.if-freezes.session w.finish-closed.new.out c.if-freezes.out
          w.finish-closed.new.messages c.if-freezes.messages c.args.freeze_to.now c.if-freezes.freeze_to
          w.finish-closed.result (Ok tt)
          w.session-is w.out-is w.messages-is w.freeze_to-is (sym c.in_ok-closed.was ∙ w.closed-is)
          (finish_closes
          g.O.ByteSink.contents g.M.ByteSink.contents g.Z.ByteSink.contents g.O.ByteSink.failures g.M.ByteSink.failures g.Z.ByteSink.failures
          c.args.freezes c.read_sources.new.session c.read_sources.new.out c.read_sources.new.messages c.args.freeze_to.now
          w.finish-closed.new.self w.finish-closed.new.out w.finish-closed.new.messages w.finish-closed.result
          w.if-freezes.false
          w.finish-closed.ensures.gives w.finish-closed.ensures.order w.finish-closed.ensures.any_missing w.finish-closed.ensures.write)
    ]) (λ k. record {
      left = search rules;
      writes = λ ss s. record {
        gives = well_so c.args.freezes c.args.session.now.limits ss c.args.session.now c.read_sources.new.session
            c.if-freezes.session _ _ _ _ _ _ _ _ refl (c.in_ok-read_sources.ensures.writes ss s).goes
            c.requires.unsaved c.wrapped-wrapped.result c.wrapped-wrapped.ensures k.gives;
        order = search rules;
      };
      frozen = λ ss s. record {
        sized = sized_so c.args.freezes c.args.session.now.limits ss
            (after_sources c.args.session.now.limits ss (progress_of c.args.session.now)) c.args.session.now
            c.read_sources.new.session
            c.if-freezes.session _ _ _ _ _ _ _ _ refl (c.in_ok-read_sources.ensures.writes ss s).goes k.gives;
      };
      last = λ ss s. tt;
      reads = record {
        reached = λ n. closed_reached g.R.ByteSource.script c.args.sources.now c.read_sources.new.sources
            c.args.freezes c.args.session.now c.read_sources.new.session c.if-freezes.session _ _ _ _ _ _ n
            c.in_ok-read_sources.ensures.left.1 c.in_ok-read_sources.ensures.reads.reached c.wrapped-wrapped.result _ _ refl
            refl k.gives;
        failed = search rules;
        taken = search rules;
      };
      marks = record {
        read = k.any_missing ∙ c.in_ok-read_sources.ensures.marks.read;
        exited = λ code e n. absurd (went_well e);
      };
      writers = record {
        failed = (
          (
            k.writers.failed.0.0 ∙ c.in_ok-read_sources.ensures.write.0,
            k.writers.failed.0.1 ∙ c.in_ok-read_sources.ensures.write.1,
          ),
          k.writers.failed.1,
        );
        spared = k.writers.spared;
        spared_by = tt;
      };
    })
