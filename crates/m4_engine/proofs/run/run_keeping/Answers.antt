use Rattle.std.proofs.Common.{◌≡◌, ◌∙◌, ap, rules, refl, Some, None}
use Rattle.std.specs.Prelude.{Err}
use Rattle.m4_state.specs.State.{IsSized}
use Rattle.m4_engine.specs.declared.ending.Ending.{Ending}
use Rattle.m4_engine.specs.Start.{start_of}
use Rattle.m4_engine.specs.Writers.{both, three}
use Rattle.m4_engine.proofs.Whole.{cause_same, last_unused, left_status}
use Rattle.m4_engine.proofs.Starts as starts
use Rattle.m4_engine.proofs.Readers.{none_taken_yet, all_sound, run_fails}
use Rattle.m4_engine.proofs.RunReached.{never_passed, passed}
use Rattle.m4_engine.proofs.Ordering.{never_told, run_told}
use Rattle.m4_engine.proofs.Missed.{begun_unmissed, left_exited, never_exited, status_so}
use Rattle.m4_engine.proofs.run.run_keeping.Goals.{in-Some, in-None}
use Rattle.m4_engine.proofs.run.run_keeping.Goals as goal
use Rattle.m4_engine.specs.SessionSteps.{ending_by}

-- the run did not begin
pub returns-in-Err : goal.returns-in-Err
returns-in-Err g c =
    let b : starts.Began g.R.ByteSource.script g.R.ByteSource.failures c.args.options c.args.frozen.now c.match-frozen.frozen
    (g.O.ByteSink.contents c.args.out.now) (g.O.ByteSink.contents c.match-frozen.out)
    (g.O.ByteSink.failures c.args.out.now) (g.O.ByteSink.failures c.match-frozen.out) c.match-frozen.begun = elim c.match-frozen.branch [
      | in-Some w ↦ starts.began_so g.R.ByteSource.script g.R.ByteSource.failures c.args.options c.args.frozen.now
          (Some w.reload-begun.new.frozen) c.match-frozen.frozen g.O.ByteSink.contents g.O.ByteSink.failures c.args.out.now
          w.reload-begun.new.out c.match-frozen.out w.reload-begun.result c.match-frozen.begun w.frozen-is w.out-is w.begun-is
          (starts.reload_began g.R.ByteSource.script g.R.ByteSource.failures c.args.options c.args.frozen.now
          (Some w.reload-begun.new.frozen) w.in-Some.reader w.reload-begun.new.frozen _ _ _ _ w.reload-begun.result
          w.in-Some.is refl w.reload-begun.ensures.gives w.reload-begun.ensures.read w.reload-begun.ensures.write)
      | in-None w ↦ starts.began_so g.R.ByteSource.script g.R.ByteSource.failures c.args.options c.args.frozen.now
          None c.match-frozen.frozen g.O.ByteSink.contents g.O.ByteSink.failures c.args.out.now c.args.out.now
          c.match-frozen.out w.fresh-begun.result c.match-frozen.begun (w.frozen-is ∙ w.in-None.is) w.out-is w.begun-is
          (starts.fresh_began g.R.ByteSource.script g.R.ByteSource.failures c.args.options c.args.frozen.now
          None _ _ w.fresh-begun.result w.in-None.is refl w.fresh-begun.ensures.fresh w.fresh-begun.ensures.refused)
    ] in
    let d : Ending = record { status = c.status.result; cause = c.ending-unbegun.result.cause; wrapped = c.ending-unbegun.result.wrapped } in
    let ends : d ≡ ending_by (starts.status_after c.in-Err.stop) (Err c.in-Err.stop) =
    starts.never_ends c.in-Err.stop c.status.result c.ending-unbegun.result c.ending-unbegun.ensures c.status.ensures in
    record {
      gives = λ file t ss s. starts.never_gives c.args.options (start_of c.args.options.prefix file) ss
          c.match-frozen.begun c.in-Err.stop (starts.status_after c.in-Err.stop) d _ _ _ _ c.in-Err.is refl ends
          (b.gives file t);
      status = status_so c.args.sources.now _ d
          (starts.never_status c.args.options c.match-frozen.begun c.in-Err.stop (starts.status_after c.in-Err.stop) d _
          c.in-Err.is refl ends b.begun)
          (λ code e. never_exited c.args.options c.match-frozen.begun c.in-Err.stop (starts.status_after c.in-Err.stop) d code c.in-Err.is ends b.begun e);
      sized = search rules;
      read = (
        starts.never_read g.R.ByteSource.script g.R.ByteSource.failures
            c.args.sources.now c.args.sources.now c.args.options c.match-frozen.begun c.in-Err.stop
            (starts.status_after c.in-Err.stop) d c.in-Err.is refl ends b.begun
            (all_sound g.R.ByteSource.failures c.args.sources.now),
        starts.never_frozen g.R.ByteSource.failures c.args.frozen.now c.match-frozen.frozen c.args.options
            c.match-frozen.begun c.in-Err.stop (starts.status_after c.in-Err.stop) d c.in-Err.is refl ends b.begun b.read,
      );
      write = starts.never_wrote c.args.options c.match-frozen.begun c.in-Err.stop (starts.status_after c.in-Err.stop) d _ _ _ _
          (three g.Z.ByteSink.contents
          (both g.O.ByteSink.contents g.M.ByteSink.contents c.args.out.now c.match-frozen.out c.args.messages.now
          c.args.messages.now) c.args.freeze_to.now c.args.freeze_to.now) c.in-Err.is refl
          ends b.begun refl b.write;
      taken = none_taken_yet g.R.ByteSource.script c.args.sources.now;
      one_pass = λ file t. never_passed g.R.ByteSource.script c.args.sources.now c.args.options
          (start_of c.args.options.prefix file) _ c.match-frozen.begun c.in-Err.stop (starts.status_after c.in-Err.stop)
          d c.in-Err.is ends b.begun;
      order = λ file t ss s. never_told c.args.options (start_of c.args.options.prefix file) ss c.match-frozen.begun
          c.in-Err.stop (starts.status_after c.in-Err.stop) d _ _ _ c.in-Err.is ends (b.gives file t);
      refused = λ fault e. starts.never_done c.args.sources.now c.args.options c.match-frozen.begun c.in-Err.stop
          (starts.status_after c.in-Err.stop) d fault _ _ _ _ c.in-Err.is refl ends b.begun e (b.refused fault);
      last = λ file t ss s. last_unused d.cause _ _ _ _ refl;
      spared = (
        search rules,
        starts.spares_any d.cause
            (three g.Z.ByteSink.contents (both g.O.ByteSink.contents g.M.ByteSink.contents c.args.out.now
            c.match-frozen.out c.args.messages.now c.args.messages.now) c.args.freeze_to.now c.args.freeze_to.now) refl,
      );
    }

-- the run began
pub returns : goal.returns
returns g c =
    let b : starts.Began g.R.ByteSource.script g.R.ByteSource.failures c.args.options c.args.frozen.now c.match-frozen.frozen
    (g.O.ByteSink.contents c.args.out.now) (g.O.ByteSink.contents c.match-frozen.out)
    (g.O.ByteSink.failures c.args.out.now) (g.O.ByteSink.failures c.match-frozen.out) c.match-frozen.begun = elim c.match-frozen.branch [
      | in-Some w ↦ starts.began_so g.R.ByteSource.script g.R.ByteSource.failures c.args.options c.args.frozen.now
          (Some w.reload-begun.new.frozen) c.match-frozen.frozen g.O.ByteSink.contents g.O.ByteSink.failures c.args.out.now
          w.reload-begun.new.out c.match-frozen.out w.reload-begun.result c.match-frozen.begun w.frozen-is w.out-is w.begun-is
          (starts.reload_began g.R.ByteSource.script g.R.ByteSource.failures c.args.options c.args.frozen.now
          (Some w.reload-begun.new.frozen) w.in-Some.reader w.reload-begun.new.frozen _ _ _ _ w.reload-begun.result
          w.in-Some.is refl w.reload-begun.ensures.gives w.reload-begun.ensures.read w.reload-begun.ensures.write)
      | in-None w ↦ starts.began_so g.R.ByteSource.script g.R.ByteSource.failures c.args.options c.args.frozen.now
          None c.match-frozen.frozen g.O.ByteSink.contents g.O.ByteSink.failures c.args.out.now c.args.out.now
          c.match-frozen.out w.fresh-begun.result c.match-frozen.begun (w.frozen-is ∙ w.in-None.is) w.out-is w.begun-is
          (starts.fresh_began g.R.ByteSource.script g.R.ByteSource.failures c.args.options c.args.frozen.now
          None _ _ w.fresh-begun.result w.in-None.is refl w.fresh-begun.ensures.fresh w.fresh-begun.ensures.refused)
    ] in
    record {
      gives = λ file t ss s. starts.begun_gives c.args.options (start_of c.args.options.prefix file) ss c.in-Ok.session
          c.match-frozen.begun c.ending.result _ _ _ _ _ _ _ _ c.in-Ok.is
          (c.ending.ensures ∙ ap (λ n. ending_by n c.read_to_end-answer.result) c.status-2.ensures) (b.gives file t)
          (c.read_to_end-answer.ensures.writes ss s).gives;
      status = status_so c.args.sources.now _ c.ending.result
          (left_status c.read_to_end-answer.new.session c.read_to_end-answer.result c.ending.result _
          c.read_to_end-answer.ensures.left (search rules)
          (c.ending.ensures ∙ ap (λ n. ending_by n c.read_to_end-answer.result) c.status-2.ensures)) (λ code e.
          left_exited c.args.sources.now c.read_to_end-answer.new.sources c.read_to_end-answer.new.session
          c.read_to_end-answer.result c.ending.result code c.read_to_end-answer.ensures.left
          (c.ending.ensures ∙ ap (λ n. ending_by n c.read_to_end-answer.result) c.status-2.ensures) e
          (λ r. c.read_to_end-answer.ensures.marks.exited code r (begun_unmissed c.args.options c.in-Ok.session c.match-frozen.begun c.in-Ok.is b.begun)));
      sized = λ file t ss s e f.
          starts.begun_state IsSized c.args.options (start_of c.args.options.prefix file) ss c.in-Ok.session
          c.match-frozen.begun _ _ c.in-Ok.is (b.gives file t)
          (starts.ended_done _ c.read_to_end-answer.new.session _ c.read_to_end-answer.result c.ending.result
          c.ending.ensures c.read_to_end-answer.ensures.left e (c.read_to_end-answer.ensures.frozen ss s).sized f);
      read = (
        run_fails g.R.ByteSource.script g.R.ByteSource.failures _ c.args.sources.now c.read_to_end-answer.new.sources
            c.read_to_end-answer.result c.ending.result c.ending.ensures c.read_to_end-answer.ensures.reads.failed,
        starts.begun_frozen g.R.ByteSource.failures c.args.frozen.now c.match-frozen.frozen c.in-Ok.session
            c.match-frozen.begun c.read_to_end-answer.new.session _ c.read_to_end-answer.result c.ending.result
            c.in-Ok.is c.ending.ensures c.read_to_end-answer.ensures.left b.read,
      );
      write = starts.begun_wrote c.in-Ok.session c.match-frozen.begun _ c.read_to_end-answer.result c.ending.result
          _ _ _ _ _ _ _
          (three g.Z.ByteSink.contents
          (both g.O.ByteSink.contents g.M.ByteSink.contents c.args.out.now c.read_to_end-answer.new.out
          c.args.messages.now c.read_to_end-answer.new.messages)
          c.args.freeze_to.now c.read_to_end-answer.new.freeze_to)
          c.in-Ok.is c.ending.ensures b.write c.read_to_end-answer.ensures.writers.failed;
      taken = c.read_to_end-answer.ensures.reads.taken;
      order = λ file t ss s. run_told c.args.options (start_of c.args.options.prefix file) ss c.in-Ok.session
          c.match-frozen.begun _ _ _ _ _ _ c.read_to_end-answer.result c.ending.result c.in-Ok.is (b.gives file t)
          c.ending.ensures (c.read_to_end-answer.ensures.writes ss s).order;
      one_pass = λ file t. passed g.R.ByteSource.script c.args.sources.now c.read_to_end-answer.new.sources c.args.options
          (start_of c.args.options.prefix file) c.in-Ok.session c.match-frozen.begun _ c.read_to_end-answer.result
          c.ending.result _ _ _ _ _ c.in-Ok.is c.ending.ensures (b.gives file t)
          c.read_to_end-answer.ensures.reads.reached;
      refused = λ fault e. absurd (starts.not_refused c.read_to_end-answer.new.session _ c.read_to_end-answer.result
          c.ending.result fault c.ending.ensures c.read_to_end-answer.ensures.left e);
      last = λ file t ss s. starts.begun_last c.args.options (start_of c.args.options.prefix file) ss c.in-Ok.session c.match-frozen.begun
          (ending_by 0 c.read_to_end-answer.result).cause c.ending.result.cause _ _ _ _ _ _ _ _ _ c.in-Ok.is
          (ap (λ (x : Ending). x.cause) c.ending.ensures ∙ cause_same _ 0 c.read_to_end-answer.result) (b.gives file t)
          (c.read_to_end-answer.ensures.last ss s);
      spared = (
        c.read_to_end-answer.ensures.writers.spared,
        starts.ended_spared _ c.read_to_end-answer.result c.ending.result
            (both g.O.ByteSink.contents g.M.ByteSink.contents c.match-frozen.out c.read_to_end-answer.new.out
            c.args.messages.now c.read_to_end-answer.new.messages)
            (both g.O.ByteSink.contents g.M.ByteSink.contents c.args.out.now c.read_to_end-answer.new.out c.args.messages.now c.read_to_end-answer.new.messages)
            _ _ c.ending.ensures c.read_to_end-answer.ensures.writers.spared_by,
      );
    }
