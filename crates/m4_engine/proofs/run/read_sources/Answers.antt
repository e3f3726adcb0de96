use Rattle.std.proofs.Common.{◌≡◌, ◌<◌, ℕ, length, rules, refl, sym, subst, ◌+◌, ◌∙◌}
use Rattle.std.specs.Prelude.{Result, Ok, Err, OnOk, slice_index_or, slice_set}
use Rattle.m4_engine.specs.declared.ending.Cause.TheVariants as causes
use Rattle.m4_engine.specs.declared.source.Source.{Source as RunSource}
use Rattle.m4_engine.specs.declared.source.Source.TheVariants as sources
use Rattle.m4_engine.specs.declared.stop.Stop.{Stop}
use Rattle.m4_engine.specs.declared.stop.Stop.TheVariants as stops
use Rattle.m4_engine.specs.Session.{IsOpen}
use Rattle.m4_engine.specs.SessionFailures.{WriteFails}
use Rattle.m4_engine.specs.SessionSteps.{IsLeft}
use Rattle.m4_engine.specs.Writers.{both, writers}
use Rattle.m4_engine.specs.RunSources.{is_sound, ConsumesOnly}
use Rattle.m4_engine.proofs.Reading.{none_read, one_read, all_read, stopped_so, item, first_for, none_left, rest_kept}
use Rattle.m4_engine.proofs.Readers.{none_taken_yet, all_sound, pair_item, sources_fail, missed_on, missed_last}
use Rattle.m4_engine.proofs.Reached.{none_yet, one_more_read, stops_so, all_read_so}
use Rattle.m4_engine.proofs.Missed.{begun_on, exited_there, same_stop, passed_on}
use Rattle.m4_engine.proofs.Reading.{step_so}
use Rattle.m4_engine.proofs.OneSource.{OneRead, file_read, missing_read, read_so, unread}
use Rattle.m4_engine.proofs.run.read_sources.Goals.{in-Opened+in-Ok, in-Unopened}
use Rattle.m4_engine.proofs.run.read_sources.Goals as goal

-- what is so of the call's error is so of the answer that passes it on
stopped_by : (P : Result Unit Stop → Type 0) (e : Stop) (q r : Result Unit Stop) → q ≡ Err e → r ≡ Err e → P q → P r
stopped_by P e q r i j h = subst P (i ∙ sym j) h

-- the failures of a step, where no writer failed before it
fails_on : (r : Result Unit Stop) (o o' o'' m m' m'' : ℕ) → o' ≡ o → m' ≡ m → WriteFails r (writers o' o'' m' m'')
    → WriteFails r (writers o o'' m m'')
fails_on r o o' o'' m m' m'' i j h =
    subst (λ x. WriteFails r (writers x o'' m m'')) i (subst (λ x. WriteFails r (writers o' o'' x m'')) j h)

pub sources-init : goal.sources-init
sources-init g c = (
  c.requires,
  refl,
  (refl, refl),
  none_taken_yet g.R.ByteSource.script c.args.sources.now,
  λ ss e. none_read ss c.args.session.now _ _,
  all_sound g.R.ByteSource.failures c.args.sources.now,
  refl,
  none_yet g.R.ByteSource.script c.args.sources.now c.args.session.now _ _,
  refl,
)

pub sources-preserved : goal.sources-preserved
sources-preserved g c =
    let inside : c.sources.source-index < length c.sources.sources = search rules in
    let k : (v : RunSource g.row.R.Denot)
    × (c.match-source.sources ≡ slice_set c.sources.sources c.sources.source-index v)
    × OneRead g.R.ByteSource.script g.R.ByteSource.failures g.O.ByteSink.contents g.M.ByteSink.contents
    g.O.ByteSink.failures g.M.ByteSink.failures
    (slice_index_or c.sources.sources c.sources.source-index c.source-item.result) v c.sources.session c.sources.out c.sources.messages
    c.match-source.session c.match-source.out c.match-source.messages (Ok tt) = elim c.match-source.branch [
      | in-Opened+in-Ok w ↦ (
        sources.Opened w.in-Opened.name w.file-answer.new.reader,
        w.sources-is,
        read_so g.R.ByteSource.script g.R.ByteSource.failures g.O.ByteSink.contents g.M.ByteSink.contents g.O.ByteSink.failures g.M.ByteSink.failures
            (slice_index_or c.sources.sources c.sources.source-index c.source-item.result)
            (sources.Opened w.in-Opened.name w.file-answer.new.reader)
            (sources.Opened w.in-Opened.name w.file-answer.new.reader) c.sources.session c.sources.out c.sources.messages
            w.file-answer.new.self c.match-source.session w.file-answer.new.out c.match-source.out
            w.file-answer.new.messages c.match-source.messages w.file-answer.result (Ok tt)
            refl w.session-is w.out-is w.messages-is (sym c.in_ok-answer.was ∙ w.answer-is)
            (file_read g.R.ByteSource.script g.R.ByteSource.failures g.O.ByteSink.contents g.M.ByteSink.contents g.O.ByteSink.failures g.M.ByteSink.failures
            w.in-Ok.name w.in-Opened.reader w.file-answer.new.reader
            (slice_index_or c.sources.sources c.sources.source-index c.source-item.result)
            (sources.Opened w.in-Opened.name w.file-answer.new.reader) c.sources.session c.sources.out c.sources.messages
            w.file-answer.new.self w.file-answer.new.out w.file-answer.new.messages w.file-answer.result (search rules) (search rules)
            c.sources.invariant.0 w.file-answer.ensures.gives w.file-answer.ensures.order w.file-answer.ensures.read
            w.file-answer.ensures.write w.file-answer.ensures.any_missing),
      )
      | in-Unopened w ↦ (
        sources.Unopened w.in-Unopened.name,
        (search rules),
        read_so g.R.ByteSource.script g.R.ByteSource.failures g.O.ByteSink.contents g.M.ByteSink.contents g.O.ByteSink.failures g.M.ByteSink.failures
            (slice_index_or c.sources.sources c.sources.source-index c.source-item.result)
            (sources.Unopened w.in-Unopened.name) (sources.Unopened w.in-Unopened.name) c.sources.session
            c.sources.out c.sources.messages
            w.missing-answer.new.self c.match-source.session c.sources.out c.match-source.out
            w.missing-answer.new.messages c.match-source.messages w.missing-answer.result (Ok tt)
            refl w.session-is w.out-is w.messages-is (sym c.in_ok-answer.was ∙ w.answer-is)
            (missing_read g.R.ByteSource.script g.R.ByteSource.failures g.O.ByteSink.contents g.M.ByteSink.contents g.O.ByteSink.failures g.M.ByteSink.failures
            w.as_slice.result.now (slice_index_or c.sources.sources c.sources.source-index c.source-item.result)
            (sources.Unopened w.in-Unopened.name) c.sources.session c.sources.out c.sources.messages
            w.missing-answer.new.self w.missing-answer.new.messages w.missing-answer.result (search rules) (search rules)
            c.sources.invariant.0 w.missing-answer.ensures.gives w.missing-answer.ensures.write w.missing-answer.ensures.any_missing),
      )
    ] in
    rw k.1 (
      k.2.left.1,
      rest_kept c.sources.sources c.args.sources.now c.sources.source-index k.0 c.sources.invariant.1,
      (k.2.write.0 ∙ c.sources.invariant.2.0, k.2.write.1 ∙ c.sources.invariant.2.1),
      pair_item (ConsumesOnly g.R.ByteSource.script) c.sources.source-index c.sources.sources c.args.sources.now
          c.source-item.result k.0 c.sources.invariant.3 c.sources.invariant.1 inside k.2.reads.taken,
      λ ss e.
          let t = item g.R.ByteSource.script c.sources.source-index c.sources.sources c.args.sources.now
          c.source-item.result k.0 ss c.sources.invariant.1 inside e in
          one_read ss c.sources.source-index (c.sources.source-index + 1) c.args.session.now c.sources.session
          c.match-source.session t.source _ _ _ _ _ _ (c.sources.invariant.4 ss t.first) t.there
          ((k.2.writes t.source t.describes).goes).0,
      pair_item (is_sound g.R.ByteSource.failures) c.sources.source-index c.sources.sources c.args.sources.now
          c.source-item.result k.0 c.sources.invariant.5 c.sources.invariant.1 inside k.2.reads.failed,
      missed_on c.sources.source-index c.sources.sources c.args.sources.now c.source-item.result
          c.sources.session.any_missing c.match-source.session.any_missing _ c.sources.invariant.1 inside
          k.2.marks.read c.sources.invariant.6,
      one_more_read g.R.ByteSource.script c.sources.source-index c.sources.sources c.args.sources.now
          c.source-item.result k.0 c.args.session.now c.sources.session c.match-source.session _ _ _ _ _ _
          c.sources.invariant.1 inside c.sources.invariant.7 k.2.reads.reached,
      begun_on c.sources.source-index c.sources.sources c.args.sources.now c.source-item.result
          c.sources.session.any_missing c.match-source.session.any_missing _ c.sources.invariant.1 inside
          k.2.marks.read c.sources.invariant.8,
    )

pub returns-in_err-answer : goal.returns-in_err-answer
returns-in_err-answer g c =
    let broken : c.from_residual.result ≡ Err c.in_err-answer.field-0.0 = passed_on _ _ c.from_residual.ensures in
    let inside : c.sources.source-index < length c.sources.sources = search rules in
    let k : (v : RunSource g.row.R.Denot)
    × (c.match-source.sources ≡ slice_set c.sources.sources c.sources.source-index v)
    × OneRead g.R.ByteSource.script g.R.ByteSource.failures g.O.ByteSink.contents g.M.ByteSink.contents
    g.O.ByteSink.failures g.M.ByteSink.failures
    (slice_index_or c.sources.sources c.sources.source-index c.source-item.result) v c.sources.session c.sources.out c.sources.messages
    c.match-source.session c.match-source.out c.match-source.messages c.match-source.answer = elim c.match-source.branch [
      | in-Opened+in-Ok w ↦ (
        sources.Opened w.in-Opened.name w.file-answer.new.reader,
        w.sources-is,
        read_so g.R.ByteSource.script g.R.ByteSource.failures g.O.ByteSink.contents g.M.ByteSink.contents g.O.ByteSink.failures g.M.ByteSink.failures
            (slice_index_or c.sources.sources c.sources.source-index c.source-item.result)
            (sources.Opened w.in-Opened.name w.file-answer.new.reader)
            (sources.Opened w.in-Opened.name w.file-answer.new.reader) c.sources.session c.sources.out c.sources.messages
            w.file-answer.new.self c.match-source.session w.file-answer.new.out c.match-source.out
            w.file-answer.new.messages c.match-source.messages w.file-answer.result c.match-source.answer
            refl w.session-is w.out-is w.messages-is w.answer-is
            (file_read g.R.ByteSource.script g.R.ByteSource.failures g.O.ByteSink.contents g.M.ByteSink.contents g.O.ByteSink.failures g.M.ByteSink.failures
            w.in-Ok.name w.in-Opened.reader w.file-answer.new.reader
            (slice_index_or c.sources.sources c.sources.source-index c.source-item.result)
            (sources.Opened w.in-Opened.name w.file-answer.new.reader) c.sources.session c.sources.out c.sources.messages
            w.file-answer.new.self w.file-answer.new.out w.file-answer.new.messages w.file-answer.result (search rules) (search rules)
            c.sources.invariant.0 w.file-answer.ensures.gives w.file-answer.ensures.order w.file-answer.ensures.read
            w.file-answer.ensures.write w.file-answer.ensures.any_missing),
      )
      | in-Unopened w ↦ (
        sources.Unopened w.in-Unopened.name,
        (search rules),
        read_so g.R.ByteSource.script g.R.ByteSource.failures g.O.ByteSink.contents g.M.ByteSink.contents g.O.ByteSink.failures g.M.ByteSink.failures
            (slice_index_or c.sources.sources c.sources.source-index c.source-item.result)
            (sources.Unopened w.in-Unopened.name) (sources.Unopened w.in-Unopened.name) c.sources.session
            c.sources.out c.sources.messages
            w.missing-answer.new.self c.match-source.session c.sources.out c.match-source.out
            w.missing-answer.new.messages c.match-source.messages w.missing-answer.result c.match-source.answer
            refl w.session-is w.out-is w.messages-is w.answer-is
            (missing_read g.R.ByteSource.script g.R.ByteSource.failures g.O.ByteSink.contents g.M.ByteSink.contents g.O.ByteSink.failures g.M.ByteSink.failures
            w.as_slice.result.now (slice_index_or c.sources.sources c.sources.source-index c.source-item.result)
            (sources.Unopened w.in-Unopened.name) c.sources.session c.sources.out c.sources.messages
            w.missing-answer.new.self w.missing-answer.new.messages w.missing-answer.result (search rules) (search rules)
            c.sources.invariant.0 w.missing-answer.ensures.gives w.missing-answer.ensures.write w.missing-answer.ensures.any_missing),
      )
    ] in
    rw k.1 (record {
      left = stopped_by (λ r. IsLeft c.match-source.session r × OnOk r (IsOpen c.match-source.session))
          c.in_err-answer.field-0.0
          c.match-source.answer c.from_residual.result c.in_err-answer.was broken k.2.left;
      writes = λ ss e.
          let t = item g.R.ByteSource.script c.sources.source-index c.sources.sources c.args.sources.now
          c.source-item.result k.0 ss c.sources.invariant.1 inside
          (first_for g.R.ByteSource.script (c.sources.source-index + 1) c.args.sources.now _ ss e) in
          record {
            goes = stopped_so ss c.sources.source-index (c.sources.source-index + 1) c.args.session.now c.sources.session
                c.match-source.session t.source _ _ _ _ _ _ c.in_err-answer.field-0.0 c.match-source.answer c.from_residual.result
                c.in_err-answer.was broken c.requires (c.sources.invariant.4 ss t.first) t.there
                (k.2.writes t.source t.describes).goes;
            order = step_so ss c.sources.source-index (c.sources.source-index + 1) c.args.session.now c.sources.session t.source _ _ _
                _ _ _ c.in_err-answer.field-0.0 c.match-source.answer c.from_residual.result c.in_err-answer.was broken
                (c.sources.invariant.4 ss t.first) t.there (k.2.writes t.source t.describes).order;
          };
      reads = record {
        reached = stops_so g.R.ByteSource.script c.sources.source-index c.sources.sources
            c.args.sources.now c.source-item.result k.0 c.args.session.now c.sources.session c.match-source.session
            _ _ _ _ _ _ c.sources.invariant.1 inside c.sources.invariant.7 c.in_err-answer.field-0.0
            c.match-source.answer
            c.from_residual.result c.in_err-answer.was broken k.2.reads.reached;
        failed = sources_fail g.R.ByteSource.script g.R.ByteSource.failures c.sources.source-index c.sources.sources
            c.args.sources.now c.source-item.result k.0 c.in_err-answer.field-0.0 c.match-source.answer
            c.from_residual.result c.in_err-answer.was broken c.sources.invariant.5 c.sources.invariant.1 inside
            k.2.reads.failed;
        taken = pair_item (ConsumesOnly g.R.ByteSource.script) c.sources.source-index c.sources.sources
            c.args.sources.now c.source-item.result k.0 c.sources.invariant.3 c.sources.invariant.1 inside
            k.2.reads.taken;
      };
      marks = record {
        read = search rules;
        exited = λ code e n.
            exited_there c.sources.source-index c.sources.sources c.args.sources.now c.source-item.result k.0
            c.sources.session.any_missing c.match-source.session.any_missing _ c.sources.invariant.1 inside
            c.sources.invariant.8
            (k.2.marks.exited code (same_stop c.in_err-answer.field-0.0 _ c.match-source.answer c.from_residual.result
            c.in_err-answer.was broken e)) n;
      };
      write = stopped_by (λ r. WriteFails r (both g.O.ByteSink.failures g.M.ByteSink.failures c.args.out.now
          c.match-source.out c.args.messages.now c.match-source.messages)) c.in_err-answer.field-0.0
          c.match-source.answer c.from_residual.result c.in_err-answer.was broken
          (fails_on c.match-source.answer _ _ _ _ _ _ c.sources.invariant.2.0 c.sources.invariant.2.1 k.2.write);
    })

pub returns-in_default : goal.returns-in_default
returns-in_default g c =
    let inside : c.sources.source-index < length c.sources.sources = search rules in
    let k : OneRead g.R.ByteSource.script g.R.ByteSource.failures g.O.ByteSink.contents g.M.ByteSink.contents g.O.ByteSink.failures g.M.ByteSink.failures
    (slice_index_or c.sources.sources c.sources.source-index c.source-item.result)
    (sources.Opened c.in-Opened.name c.in-Opened.reader) c.sources.session c.sources.out c.sources.messages
    c.settle.new.self c.sources.out c.sources.messages c.settle.result =
    unread g.R.ByteSource.script g.R.ByteSource.failures g.O.ByteSink.contents g.M.ByteSink.contents g.O.ByteSink.failures g.M.ByteSink.failures
    c.in-Opened.name c.in-Opened.reader (slice_index_or c.sources.sources c.sources.source-index c.source-item.result)
    c.sources.session c.sources.out c.sources.messages c.settle.new.self c.settle.result
    (search rules) c.sources.invariant.0 c.settle.ensures.answer (search rules) in
    record {
      left = k.left;
      writes = λ ss e.
          let t = item g.R.ByteSource.script c.sources.source-index c.sources.sources c.args.sources.now
          c.source-item.result (sources.Opened c.in-Opened.name c.in-Opened.reader) ss c.sources.invariant.1
          inside (first_for g.R.ByteSource.script (c.sources.source-index + 1) c.args.sources.now _ ss e) in
          record {
            goes = stopped_so ss c.sources.source-index (c.sources.source-index + 1) c.args.session.now c.sources.session
                c.settle.new.self t.source _ _ _ _ _ _ (stops.Ended causes.OutOfMemory) c.settle.result c.settle.result
                (search rules) (search rules) c.requires (c.sources.invariant.4 ss t.first) t.there
                (k.writes t.source t.describes).goes;
            order = step_so ss c.sources.source-index (c.sources.source-index + 1) c.args.session.now c.sources.session t.source _ _ _
                _ _ _ (stops.Ended causes.OutOfMemory) c.settle.result c.settle.result (search rules) (search rules)
                (c.sources.invariant.4 ss t.first) t.there (k.writes t.source t.describes).order;
          };
      reads = record {
        reached = stops_so g.R.ByteSource.script c.sources.source-index c.sources.sources
            c.args.sources.now c.source-item.result (sources.Opened c.in-Opened.name c.in-Opened.reader) c.args.session.now c.sources.session c.settle.new.self
            _ _ _ _ _ _ c.sources.invariant.1 inside c.sources.invariant.7 (stops.Ended causes.OutOfMemory)
            c.settle.result
            c.settle.result (search rules) (search rules) k.reads.reached;
        failed = sources_fail g.R.ByteSource.script g.R.ByteSource.failures c.sources.source-index c.sources.sources
            c.args.sources.now c.source-item.result (sources.Opened c.in-Opened.name c.in-Opened.reader) (stops.Ended causes.OutOfMemory) c.settle.result
            c.settle.result (search rules) (search rules) c.sources.invariant.5 c.sources.invariant.1 inside
            k.reads.failed;
        taken = pair_item (ConsumesOnly g.R.ByteSource.script) c.sources.source-index c.sources.sources
            c.args.sources.now c.source-item.result (sources.Opened c.in-Opened.name c.in-Opened.reader)
            c.sources.invariant.3 c.sources.invariant.1 inside k.reads.taken;
      };
      marks = record {
        read = search rules;
        exited = λ code e n.
            exited_there c.sources.source-index c.sources.sources c.args.sources.now c.source-item.result
            (sources.Opened c.in-Opened.name c.in-Opened.reader) c.sources.session.any_missing
            c.settle.new.self.any_missing _ c.sources.invariant.1 inside c.sources.invariant.8
            (k.marks.exited code (same_stop (stops.Ended causes.OutOfMemory) _ c.settle.result c.settle.result (search rules) (search rules) e)) n;
      };
      write = search rules;
    }

pub returns-clause-writes : goal.returns-clause-writes
returns-clause-writes g c = λ ss e. record {
  goes = all_read ss c.sources.source-index c.args.session.now c.sources.session _ c.requires c.sources.invariant.0
      (c.sources.invariant.4 ss
      (first_for g.R.ByteSource.script c.sources.source-index c.args.sources.now c.sources.sources ss e))
      (none_left g.R.ByteSource.script c.args.sources.now c.sources.sources ss c.sources.source-index e
      (search rules));
  order = search rules;
}

pub returns-clause-reads : goal.returns-clause-reads
returns-clause-reads g c = record {
  reached = all_read_so g.R.ByteSource.script c.sources.source-index c.sources.sources c.args.sources.now
      c.args.session.now c.sources.session _ c.sources.invariant.1 (search rules) c.requires c.sources.invariant.0
      c.sources.invariant.7;
  failed = search rules;
  taken = search rules;
}

pub returns-clause-marks : goal.returns-clause-marks
returns-clause-marks g c = record {
  read =
      missed_last c.sources.source-index c.sources.sources c.args.sources.now c.sources.session.any_missing _
      c.sources.invariant.1 (search rules) c.sources.invariant.6;
  exited = search rules;
}
