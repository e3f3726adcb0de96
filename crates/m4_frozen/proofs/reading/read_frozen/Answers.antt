-- Each window is read on; what is answered for it is what the clauses say.
use Rattle.std.proofs.Common.{◌∙◌, refl}
use Rattle.std.proofs.lemmas.Result.{err_from_is_err_and}
use Rattle.m4_frozen.proofs.WindowRead.{filled, left_within, dropped, window_refused, window_ended, window_failed}
use Rattle.m4_frozen.proofs.WindowRead.{never_read}
use Rattle.m4_frozen.proofs.reading.read_frozen.Goals as goal

pub returns-in_err-pause-clause-accepts : goal.returns-in_err-pause-clause-accepts
returns-in_err-pause-clause-accepts g c =
    let p = err_from_is_err_and c.from_residual-in_err-pause.result c.from_residual-in_err-pause.ensures.1 in
    rw (p.1, p.2) (window_refused (g.R.ByteSource.script c.args.reader.now) (g.R.ByteSource.script c.fill.new.reader)
    c.fill.new.self
    c.loop-loading.loading c.read_window.new.loading c.in_err-pause.field-0.0
    (filled (g.R.ByteSource.script c.args.reader.now) (g.R.ByteSource.script c.loop-loading.reader)
    (g.R.ByteSource.script c.fill.new.reader) c.loop-loading.window c.fill.new.self c.loop-loading.loading
    c.loop-loading.invariant.0 c.in_ok-after.ensures.takes.0)
    c.in_err-pause.ensures).accepts

pub returns-in_err-pause-clause-fault : goal.returns-in_err-pause-clause-fault
returns-in_err-pause-clause-fault g c =
    let p = err_from_is_err_and c.from_residual-in_err-pause.result c.from_residual-in_err-pause.ensures.1 in
    rw (p.1, p.2) (window_refused (g.R.ByteSource.script c.args.reader.now) (g.R.ByteSource.script c.fill.new.reader)
    c.fill.new.self
    c.loop-loading.loading c.read_window.new.loading c.in_err-pause.field-0.0
    (filled (g.R.ByteSource.script c.args.reader.now) (g.R.ByteSource.script c.loop-loading.reader)
    (g.R.ByteSource.script c.fill.new.reader) c.loop-loading.window c.fill.new.self c.loop-loading.loading
    c.loop-loading.invariant.0 c.in_ok-after.ensures.takes.0)
    c.in_err-pause.ensures).fault

pub returns-in_err-pause-clause-no_memory : goal.returns-in_err-pause-clause-no_memory
returns-in_err-pause-clause-no_memory g c =
    let p = err_from_is_err_and c.from_residual-in_err-pause.result c.from_residual-in_err-pause.ensures.1 in
    rw (p.1, p.2) (window_refused (g.R.ByteSource.script c.args.reader.now) (g.R.ByteSource.script c.fill.new.reader)
    c.fill.new.self
    c.loop-loading.loading c.read_window.new.loading c.in_err-pause.field-0.0
    (filled (g.R.ByteSource.script c.args.reader.now) (g.R.ByteSource.script c.loop-loading.reader)
    (g.R.ByteSource.script c.fill.new.reader) c.loop-loading.window c.fill.new.self c.loop-loading.loading
    c.loop-loading.invariant.0 c.in_ok-after.ensures.takes.0)
    c.in_err-pause.ensures).no_memory

pub returns-in_err-pause-clause-read_fault : goal.returns-in_err-pause-clause-read_fault
returns-in_err-pause-clause-read_fault g c =
    let p = err_from_is_err_and c.from_residual-in_err-pause.result c.from_residual-in_err-pause.ensures.1 in
    never_read _ c.from_residual-in_err-pause.result
    (rw (p.1, p.2) (window_refused (g.R.ByteSource.script c.args.reader.now) (g.R.ByteSource.script c.fill.new.reader)
    c.fill.new.self
    c.loop-loading.loading c.read_window.new.loading c.in_err-pause.field-0.0
    (filled (g.R.ByteSource.script c.args.reader.now) (g.R.ByteSource.script c.loop-loading.reader)
    (g.R.ByteSource.script c.fill.new.reader) c.loop-loading.window c.fill.new.self c.loop-loading.loading
    c.loop-loading.invariant.0 c.in_ok-after.ensures.takes.0)
    c.in_err-pause.ensures).not_read)

pub keep_last-requires : goal.keep_last-requires
keep_last-requires g c =
    left_within (g.R.ByteSource.script c.args.reader.now) (g.R.ByteSource.script c.fill.new.reader)
    c.fill.new.self
    c.loop-loading.loading c.read_window.new.loading c.in_ok-pause.pause
    (filled (g.R.ByteSource.script c.args.reader.now) (g.R.ByteSource.script c.loop-loading.reader)
    (g.R.ByteSource.script c.fill.new.reader) c.loop-loading.window c.fill.new.self c.loop-loading.loading
    c.loop-loading.invariant.0 c.in_ok-after.ensures.takes.0)
    c.in_ok-pause.ensures

pub loop-loading-preserved : goal.loop-loading-preserved
loop-loading-preserved g c = (
  dropped (g.R.ByteSource.script c.args.reader.now) (g.R.ByteSource.script c.fill.new.reader)
      c.fill.new.self
      c.keep_last.new.self c.loop-loading.loading c.read_window.new.loading c.in_ok-pause.pause
      (filled (g.R.ByteSource.script c.args.reader.now) (g.R.ByteSource.script c.loop-loading.reader)
      (g.R.ByteSource.script c.fill.new.reader) c.loop-loading.window c.fill.new.self c.loop-loading.loading
      c.loop-loading.invariant.0 c.in_ok-after.ensures.takes.0)
      c.in_ok-pause.ensures c.in_ok-keep_last-in-More.ensures.bytes c.in_ok-keep_last-in-More.ensures.dropped,
  (rw c.in-More.is at c.in_ok-after.ensures.counted) ∙ c.loop-loading.invariant.1,
)

pub returns-in-End-clause-loaded : goal.returns-in-End-clause-loaded
returns-in-End-clause-loaded g c =
    (window_ended (g.R.ByteSource.script c.args.reader.now) (g.R.ByteSource.script c.fill.new.reader)
    c.fill.new.self
    c.loop-loading.loading c.read_window.new.loading c.in_ok-pause.pause c.end.result
    (filled (g.R.ByteSource.script c.args.reader.now) (g.R.ByteSource.script c.loop-loading.reader)
    (g.R.ByteSource.script c.fill.new.reader) c.loop-loading.window c.fill.new.self c.loop-loading.loading
    c.loop-loading.invariant.0 c.in_ok-after.ensures.takes.0)
    c.in_ok-pause.ensures (rw c.in-End.is at c.in_ok-after.ensures.takes.1) c.end.ensures).loaded

pub returns-in-End-clause-accepts : goal.returns-in-End-clause-accepts
returns-in-End-clause-accepts g c =
    (window_ended (g.R.ByteSource.script c.args.reader.now) (g.R.ByteSource.script c.fill.new.reader)
    c.fill.new.self
    c.loop-loading.loading c.read_window.new.loading c.in_ok-pause.pause c.end.result
    (filled (g.R.ByteSource.script c.args.reader.now) (g.R.ByteSource.script c.loop-loading.reader)
    (g.R.ByteSource.script c.fill.new.reader) c.loop-loading.window c.fill.new.self c.loop-loading.loading
    c.loop-loading.invariant.0 c.in_ok-after.ensures.takes.0)
    c.in_ok-pause.ensures (rw c.in-End.is at c.in_ok-after.ensures.takes.1) c.end.ensures).accepts

pub returns-in-End-clause-fault : goal.returns-in-End-clause-fault
returns-in-End-clause-fault g c =
    (window_ended (g.R.ByteSource.script c.args.reader.now) (g.R.ByteSource.script c.fill.new.reader)
    c.fill.new.self
    c.loop-loading.loading c.read_window.new.loading c.in_ok-pause.pause c.end.result
    (filled (g.R.ByteSource.script c.args.reader.now) (g.R.ByteSource.script c.loop-loading.reader)
    (g.R.ByteSource.script c.fill.new.reader) c.loop-loading.window c.fill.new.self c.loop-loading.loading
    c.loop-loading.invariant.0 c.in_ok-after.ensures.takes.0)
    c.in_ok-pause.ensures (rw c.in-End.is at c.in_ok-after.ensures.takes.1) c.end.ensures).fault

pub returns-in-End-clause-no_memory : goal.returns-in-End-clause-no_memory
returns-in-End-clause-no_memory g c =
    (window_ended (g.R.ByteSource.script c.args.reader.now) (g.R.ByteSource.script c.fill.new.reader)
    c.fill.new.self
    c.loop-loading.loading c.read_window.new.loading c.in_ok-pause.pause c.end.result
    (filled (g.R.ByteSource.script c.args.reader.now) (g.R.ByteSource.script c.loop-loading.reader)
    (g.R.ByteSource.script c.fill.new.reader) c.loop-loading.window c.fill.new.self c.loop-loading.loading
    c.loop-loading.invariant.0 c.in_ok-after.ensures.takes.0)
    c.in_ok-pause.ensures (rw c.in-End.is at c.in_ok-after.ensures.takes.1) c.end.ensures).no_memory

pub returns-in-End-clause-read_fault : goal.returns-in-End-clause-read_fault
returns-in-End-clause-read_fault g c =
    never_read _ c.end.result
    (window_ended (g.R.ByteSource.script c.args.reader.now) (g.R.ByteSource.script c.fill.new.reader)
    c.fill.new.self
    c.loop-loading.loading c.read_window.new.loading c.in_ok-pause.pause c.end.result
    (filled (g.R.ByteSource.script c.args.reader.now) (g.R.ByteSource.script c.loop-loading.reader)
    (g.R.ByteSource.script c.fill.new.reader) c.loop-loading.window c.fill.new.self c.loop-loading.loading
    c.loop-loading.invariant.0 c.in_ok-after.ensures.takes.0)
    c.in_ok-pause.ensures (rw c.in-End.is at c.in_ok-after.ensures.takes.1) c.end.ensures).not_read

pub returns-in-Failure-clause-fault : goal.returns-in-Failure-clause-fault
returns-in-Failure-clause-fault g c = rw c.failed.ensures
    (λ room. window_failed (g.R.ByteSource.script c.args.reader.now) (g.R.ByteSource.script c.fill.new.reader)
    c.fill.new.self
    c.loop-loading.loading c.read_window.new.loading c.in_ok-pause.pause _
    (filled (g.R.ByteSource.script c.args.reader.now) (g.R.ByteSource.script c.loop-loading.reader)
    (g.R.ByteSource.script c.fill.new.reader) c.loop-loading.window c.fill.new.self c.loop-loading.loading
    c.loop-loading.invariant.0 c.in_ok-after.ensures.takes.0)
    c.in_ok-pause.ensures (rw c.in-Failure.is at c.in_ok-after.ensures.takes.1) refl)
