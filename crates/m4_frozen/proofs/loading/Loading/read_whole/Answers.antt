-- Each round reads lines, texts, lines and one more, pauses, or stops.
use Rattle.m4_frozen.proofs.ReadOn.{advanced_more, advanced_on, paused_at_end, advance_stopped, stop_within, end_after, end_skipped}
use Rattle.m4_frozen.proofs.loading.Loading.read_whole.Goals as goal

pub read_texts-requires-clause-end : goal.read_texts-requires-clause-end
read_texts-requires-clause-end c =
    end_skipped c.args.block.now c.loop-after.rest.now c.skip_lines-inside.result.1.now c.loop-after.self.inside c.skip_lines-inside.result.0
    (end_after c.args.block.now c.args.bytes.now c.loop-after.rest.now c.args.self.now c.loop-after.self c.requires.end
    c.loop-after.invariant) c.skip_lines-inside.ensures

pub loop-after-preserved : goal.loop-after-preserved
loop-after-preserved c =
    let one = rw c.in-Some.is at c.in-Ok.ensures in
    advanced_more c.args.bytes.now c.in_ok-after.after.now c.skip_lines-inside-in-loop-after.result.1.now
    c.in-Some.after.now c.args.self.now c.read_texts.new.self c.read_one.new.self
    c.skip_lines-inside-in-loop-after.result.0
    (advanced_on c.args.bytes.now c.loop-after.rest.now c.skip_lines-inside.result.1.now c.in_ok-after.after.now
    c.args.self.now c.loop-after.self c.read_texts.new.self
    c.skip_lines-inside.result.0 c.loop-after.invariant c.skip_lines-inside.ensures c.in_ok-after.ensures)
    c.skip_lines-inside-in-loop-after.ensures one

pub returns-in-None : goal.returns-in-None
returns-in-None c = λ read h.
    let o = rw c.in-None.is at c.in-Ok.ensures in
    rw o.2 (paused_at_end c.args.bytes.now c.in_ok-after.after.now c.skip_lines-inside-in-loop-after.result.1.now
    c.args.self.now c.read_texts.new.self c.skip_lines-inside-in-loop-after.result.0 read
    (advanced_on c.args.bytes.now c.loop-after.rest.now c.skip_lines-inside.result.1.now c.in_ok-after.after.now
    c.args.self.now c.loop-after.self c.read_texts.new.self
    c.skip_lines-inside.result.0 c.loop-after.invariant c.skip_lines-inside.ensures c.in_ok-after.ensures)
    c.skip_lines-inside-in-loop-after.ensures o.0 o.1 c.requires.whole h)

pub returns-in-Err : goal.returns-in-Err
returns-in-Err c =
    advance_stopped c.args.bytes.now c.in_ok-after.after.now c.skip_lines-inside-in-loop-after.result.1.now
    c.args.self.now c.read_texts.new.self c.read_one.new.self c.pause_at.new.self
    c.skip_lines-inside-in-loop-after.result.0 c.in-Err.stop c.pause_at.result c.requires.whole
    (advanced_on c.args.bytes.now c.loop-after.rest.now c.skip_lines-inside.result.1.now c.in_ok-after.after.now
    c.args.self.now c.loop-after.self c.read_texts.new.self
    c.skip_lines-inside.result.0 c.loop-after.invariant c.skip_lines-inside.ensures c.in_ok-after.ensures)
    c.skip_lines-inside-in-loop-after.ensures c.in-Err.ensures c.pause_at.ensures

pub pause_at-requires : goal.pause_at-requires
pause_at-requires c =
    stop_within c.skip_lines-inside-in-loop-after.result.1.now c.read_texts.new.self c.read_one.new.self
    c.skip_lines-inside-in-loop-after.result.0 c.in-Err.stop c.skip_lines-inside-in-loop-after.ensures.begins c.in-Err.ensures
