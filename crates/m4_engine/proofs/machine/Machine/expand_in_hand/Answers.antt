use Rattle.std.proofs.Common.{◌≡◌, ◌<◌, ◌≤◌, ℕ, List, [], true, false, length, rules, arith, refl, sym, subst, inl, ap, ◌∙◌}
use Rattle.std.proofs.lemmas.List.{nil_from_length}
use Rattle.m4_engine.proofs.OnlyGrows.{output_stays}
use Rattle.m4_engine.proofs.Running.{begins_so, begins_past, passed, went_on, went_past_line, fell}
use Rattle.m4_engine.proofs.Begins.{due_none, due_all}
use Rattle.m4_engine.proofs.Running.{fell_past_line, ended, needed, needs_line_after, write_breaks}
use Rattle.m4_engine.proofs.Running.{write_breaks_in_order, in_order_end, needs_line}
use Rattle.m4_engine.proofs.Running.{breaks, lack_breaks_in_order, filled, filled_on}
use Rattle.m4_engine.proofs.Running.{line_done_by, hand_ends, lack_gives, lack_gives_in_order, lack_counted}
use Rattle.m4_engine.proofs.Passing.{passes_messages, to_none, to_some}
use Rattle.m4_state.specs.Device.{one_more}
use Rattle.m4_engine.specs.declared.ending.Cause.{Cause}
use Rattle.m4_engine.specs.declared.turned.TurnEnd.{TurnEnd}
use Rattle.m4_engine.specs.declared.turned.TurnEnd.TheVariants as turn_ends
use Rattle.m4_engine.specs.Engine.{Engine}
use Rattle.m4_engine.specs.Turns.{cause_of_end}
use Rattle.m4_engine.specs.Writers.{Failures, FailsBy, NoneFailed, both}
use Rattle.m4_engine.proofs.machine.Machine.expand_in_hand.Goals.{in_default-via-in-Token-1, in_default-via-in-Line+else-not-skip_in_hand}
use Rattle.m4_engine.proofs.machine.Machine.expand_in_hand.Goals as goal

few_left : (x : List ℕ) → x ≡ [] → length x < 65536
few_left x e = let none : length x ≡ 0 = ap length e in omega arith

pub pass_plain-requires : goal.pass_plain-requires
pass_plain-requires g c = c.turns.invariant.runs.ready

pub turn-requires : goal.turn-requires
turn-requires g c =
    let w = to_some c.in-Ok.lookahead c.in-Some.lookahead c.pass_plain.new.next c.turns.self c.pass_plain.new.self
    c.turns.input c.pass_plain.new.input c.in-Some.is c.in-Ok.ensures.passes in
    record { seen = (w.0, w.2) }

-- a block of output is full
pub write_block-requires : goal.write_block-requires
write_block-requires g c =
    let w = to_none c.in-Ok.lookahead c.pass_plain.new.next c.turns.self c.pass_plain.new.self c.turns.input
    c.pass_plain.new.input (search rules) c.in-Ok.ensures.passes in
    record {
      quiet = passes_messages c.turns.self c.pass_plain.new.self c.turns.input c.pass_plain.new.input w.0 ∙ c.turns.invariant.quiet;
    }

pub returns-in-Err-clause-gives : goal.returns-in-Err-clause-gives
returns-in-Err-clause-gives g c =
    let w = to_none c.in-Ok.lookahead c.pass_plain.new.next c.turns.self c.pass_plain.new.self c.turns.input
    c.pass_plain.new.input (search rules) c.in-Ok.ensures.passes in
    let r = passed c.args.wanted c.args.self.now c.turns.self c.pass_plain.new.self c.args.input.now.pending
    c.turns.input c.pass_plain.new.input _ _ _ _ c.turns.invariant.runs w.0 in
    breaks c.args.wanted c.args.self.now c.pass_plain.new.self c.args.input.now.pending c.pass_plain.new.input _ _ _ _ _ r c.in-Err.ensures.puts

pub returns-in-Err-clause-order : goal.returns-in-Err-clause-order
returns-in-Err-clause-order g c =
    let w = to_none c.in-Ok.lookahead c.pass_plain.new.next c.turns.self c.pass_plain.new.self c.turns.input
    c.pass_plain.new.input (search rules) c.in-Ok.ensures.passes in
    let r = passed c.args.wanted c.args.self.now c.turns.self c.pass_plain.new.self c.args.input.now.pending
    c.turns.input c.pass_plain.new.input _ _ _ _ c.turns.invariant.runs w.0 in
    lack_breaks_in_order c.args.wanted c.args.self.now c.pass_plain.new.self c.args.input.now.pending c.pass_plain.new.input
    _ _ _ _ _ r
    (passes_messages c.turns.self c.pass_plain.new.self c.turns.input c.pass_plain.new.input w.0 ∙ c.turns.invariant.quiet)
    c.in-Err.ensures.puts

pub turns-smaller-in_default-lookahead : goal.turns-smaller-in_default-lookahead
turns-smaller-in_default-lookahead g c =
    let w = to_none c.in-Ok.lookahead c.pass_plain.new.next c.turns.self c.pass_plain.new.self c.turns.input
    c.pass_plain.new.input (search rules) c.in-Ok.ensures.passes in
    filled c.turns.self c.pass_plain.new.self c.write_block.new.self c.turns.input c.pass_plain.new.input
    w.0 c.turns.invariant.few (search rules) c.in_default-write_block.ensures.engine

pub turns-preserved-in_default-lookahead : goal.turns-preserved-in_default-lookahead
turns-preserved-in_default-lookahead g c =
    let w = to_none c.in-Ok.lookahead c.pass_plain.new.next c.turns.self c.pass_plain.new.self c.turns.input
    c.pass_plain.new.input (search rules) c.in-Ok.ensures.passes in
    let r = passed c.args.wanted c.args.self.now c.turns.self c.pass_plain.new.self c.args.input.now.pending
    c.turns.input c.pass_plain.new.input _ _ _ _ c.turns.invariant.runs w.0 in
    record {
      runs = filled_on c.args.wanted c.args.self.now c.pass_plain.new.self c.write_block.new.self c.args.input.now.pending c.pass_plain.new.input
          _ _ _ _ _ r
          (passes_messages c.turns.self c.pass_plain.new.self c.turns.input c.pass_plain.new.input w.0 ∙ c.turns.invariant.quiet)
          c.in_default-write_block.ensures.engine c.in_default-write_block.ensures.puts;
      quiet = ap (λ (d : Engine). d.messages) c.in_default-write_block.ensures.engine;
      few = few_left _ (ap (λ (d : Engine). d.output) c.in_default-write_block.ensures.engine);
      out = c.in_default-write_block.ensures.counted ∙ c.turns.invariant.out;
      reported = c.turns.invariant.reported;
    }

-- a pass or a turn had no memory: what was buffered before it was given out
pub returns-in_default-clause-gives : goal.returns-in_default-clause-gives
returns-in_default-clause-gives g c = lack_gives c.args.wanted c.args.self.now c.turns.self c.pass_plain.new.self
    c.pass_plain.new.self c.args.input.now c.turns.input c.pass_plain.new.input c.len-made.result _ _ _ _ _ c.give_out.result
    c.turns.invariant.runs (search rules) c.in_default-2.ensures.kept c.give_out.ensures.gives

pub returns-in_default-turn-clause-gives : goal.returns-in_default-turn-clause-gives
returns-in_default-turn-clause-gives g c =
    let w = to_some c.in-Ok.lookahead c.in-Some.lookahead c.pass_plain.new.next c.turns.self c.pass_plain.new.self
    c.turns.input c.pass_plain.new.input c.in-Some.is c.in-Ok.ensures.passes in
    let r = passed c.args.wanted c.args.self.now c.turns.self c.pass_plain.new.self c.args.input.now.pending
    c.turns.input w.0 _ _ _ _ c.turns.invariant.runs w.1 in
    lack_gives c.args.wanted c.args.self.now c.pass_plain.new.self c.turn.new.self c.turn.new.self
    c.args.input.now w.0 c.turn.new.input c.len-earlier.result _ _ _ _ _ c.give_out-in_default-turn.result
    r (search rules) c.in_default-turn.ensures.kept c.give_out-in_default-turn.ensures.gives

pub returns-clause-gives : goal.returns-clause-gives
returns-clause-gives g c = needs_line c.args.self.now c.args.input.now c.skip_in_hand.new.self c.args.wanted
    (g.O.ByteSink.contents c.args.out.now) (g.M.ByteSink.contents c.args.messages.now) c.in-Line.is c.requires.ready
    c.requires.flushed
    (line_done_by c.args.input.now c.skip_in_hand.new.self c.skip_in_hand.result false (search rules)
    c.skip_in_hand.ensures)

pub turns-init : goal.turns-init
turns-init g c = record {
  runs = elim c.in_default.branch [
    | in_default-via-in-Token-1 w ↦ begins_so c.args.self.now c.args.input.now c.in_default.input c.args.wanted _ _
        (search rules) (search rules) c.requires.ready c.requires.flushed
    | in_default-via-in-Line+else-not-skip_in_hand w ↦ begins_past c.args.self.now c.args.input.now w.skip_in_hand.new.self c.in_default.input
        c.args.wanted _ _ (search rules) (search rules) c.requires.ready c.requires.flushed
        (line_done_by c.args.input.now w.skip_in_hand.new.self w.skip_in_hand.result true
        (search rules) w.skip_in_hand.ensures)
  ];
  quiet = c.requires.flushed.messages;
  few = few_left _ c.requires.flushed.output;
  out = refl;
  reported = refl;
}

pub returns-in-Err-flush-clause-gives : goal.returns-in-Err-flush-clause-gives
returns-in-Err-flush-clause-gives g c =
    let w = to_some c.in-Ok.lookahead c.in-Some.lookahead c.pass_plain.new.next c.turns.self c.pass_plain.new.self
    c.turns.input c.pass_plain.new.input c.in-Some.is c.in-Ok.ensures.passes in
    let t = c.in-Ok-turn.ensures.turns w.0 w.2 in
    let r = passed c.args.wanted c.args.self.now c.turns.self c.pass_plain.new.self c.args.input.now.pending
    c.turns.input w.0 _ _ _ _ c.turns.invariant.runs w.1 in
    write_breaks c.args.wanted c.args.self.now c.pass_plain.new.self c.turn.new.self c.args.input.now.pending
    w.0 c.turn.new.input c.in-Ok-turn.turned _ _ _ _ _ _ r t.moves
    t.made c.in-Err-flush.ensures.begun

pub turns-smaller-in-turns : goal.turns-smaller-in-turns
turns-smaller-in-turns g c =
    let w = to_some c.in-Ok.lookahead c.in-Some.lookahead c.pass_plain.new.next c.turns.self c.pass_plain.new.self
    c.turns.input c.pass_plain.new.input c.in-Some.is c.in-Ok.ensures.passes in
    let t = c.in-Ok-turn.ensures.turns w.0 w.2 in
    fell c.turns.self c.pass_plain.new.self c.turn.new.self
    c.turn.new.self c.turns.input w.0 c.turn.new.input _ _ _ _ c.in-Ok-turn.turned
    w.1 t.moves t.ready c.in-GoesOn.is
    (due_none c.turn.new.self (g.O.ByteSink.contents c.turns.out) (g.M.ByteSink.contents c.turns.messages))

pub turns-preserved-in-turns : goal.turns-preserved-in-turns
turns-preserved-in-turns g c =
    let w = to_some c.in-Ok.lookahead c.in-Some.lookahead c.pass_plain.new.next c.turns.self c.pass_plain.new.self
    c.turns.input c.pass_plain.new.input c.in-Some.is c.in-Ok.ensures.passes in
    let t = c.in-Ok-turn.ensures.turns w.0 w.2 in
    let r = passed c.args.wanted c.args.self.now c.turns.self c.pass_plain.new.self c.args.input.now.pending
    c.turns.input w.0 _ _ _ _ c.turns.invariant.runs w.1 in
    record {
      runs = went_on c.args.wanted c.args.self.now c.pass_plain.new.self c.turn.new.self c.turn.new.self
          c.args.input.now.pending w.0 c.turn.new.input _ _ _ _ _ _ c.in-Ok-turn.turned r
          t.moves t.ready c.in-GoesOn.is t.limits
          (due_none c.turn.new.self (g.O.ByteSink.contents c.turns.out) (g.M.ByteSink.contents c.turns.messages));
      quiet = nil_from_length c.turn.new.self.messages (search rules);
      few = search rules;
      out = c.turns.invariant.out;
      reported = c.turns.invariant.reported;
    }

pub turns-smaller-in-GoesOn-turned : goal.turns-smaller-in-GoesOn-turned
turns-smaller-in-GoesOn-turned g c =
    let w = to_some c.in-Ok.lookahead c.in-Some.lookahead c.pass_plain.new.next c.turns.self c.pass_plain.new.self
    c.turns.input c.pass_plain.new.input c.in-Some.is c.in-Ok.ensures.passes in
    let t = c.in-Ok-turn.ensures.turns w.0 w.2 in
    fell c.turns.self c.pass_plain.new.self c.turn.new.self
    c.flush.new.self c.turns.input w.0 c.turn.new.input _ _ _ _ c.in-Ok-turn.turned
    w.1 t.moves t.ready c.in-GoesOn-turned.is
    (due_all c.turn.new.self c.flush.new.self _ _ _ _ c.in_default-flush.ensures.engine c.in_default-flush.ensures.output c.in_default-flush.ensures.messages)

pub turns-preserved-in-GoesOn-turned : goal.turns-preserved-in-GoesOn-turned
turns-preserved-in-GoesOn-turned g c =
    let w = to_some c.in-Ok.lookahead c.in-Some.lookahead c.pass_plain.new.next c.turns.self c.pass_plain.new.self
    c.turns.input c.pass_plain.new.input c.in-Some.is c.in-Ok.ensures.passes in
    let t = c.in-Ok-turn.ensures.turns w.0 w.2 in
    let r = passed c.args.wanted c.args.self.now c.turns.self c.pass_plain.new.self c.args.input.now.pending
    c.turns.input w.0 _ _ _ _ c.turns.invariant.runs w.1 in
    record {
      runs = went_on c.args.wanted c.args.self.now c.pass_plain.new.self c.turn.new.self c.flush.new.self
          c.args.input.now.pending w.0 c.turn.new.input _ _ _ _ _ _ c.in-Ok-turn.turned r
          t.moves t.ready c.in-GoesOn-turned.is t.limits
          (due_all c.turn.new.self c.flush.new.self _ _ _ _ c.in_default-flush.ensures.engine
          c.in_default-flush.ensures.output c.in_default-flush.ensures.messages);
      quiet = ap (λ (d : Engine). d.messages) c.in_default-flush.ensures.engine;
      few = few_left _ (ap (λ (d : Engine). d.output) c.in_default-flush.ensures.engine);
      out = c.in_default-flush.ensures.counted.0 ∙ c.turns.invariant.out;
      reported = c.in_default-flush.ensures.counted.1 ∙ c.turns.invariant.reported;
    }

pub flush-requires : goal.flush-requires
flush-requires g c =
    let w = to_some c.in-Ok.lookahead c.in-Some.lookahead c.pass_plain.new.next c.turns.self c.pass_plain.new.self
    c.turns.input c.pass_plain.new.input c.in-Some.is c.in-Ok.ensures.passes in
    let t = c.in-Ok-turn.ensures.turns w.0 w.2 in
    let held : c.len-earlier.result ≡ length c.pass_plain.new.self.output = search rules in
    let grows : length c.pass_plain.new.self.output ≤ length c.turn.new.self.output =
    output_stays c.pass_plain.new.self c.turn.new.self w.0 c.turn.new.input c.in-Ok-turn.turned
    t.moves t.made in
    omega arith

pub returns-then-not-skip_in_hand-2-clause-gives : goal.returns-then-not-skip_in_hand-2-clause-gives
returns-then-not-skip_in_hand-2-clause-gives g c =
    let w = to_some c.in-Ok.lookahead c.in-Some.lookahead c.pass_plain.new.next c.turns.self c.pass_plain.new.self
    c.turns.input c.pass_plain.new.input c.in-Some.is c.in-Ok.ensures.passes in
    let t = c.in-Ok-turn.ensures.turns w.0 w.2 in
    let r = passed c.args.wanted c.args.self.now c.turns.self c.pass_plain.new.self c.args.input.now.pending
    c.turns.input w.0 _ _ _ _ c.turns.invariant.runs w.1 in
    needs_line_after c.args.wanted c.args.self.now c.pass_plain.new.self c.turn.new.self c.flush.new.self
    c.args.input.now.pending c.args.input.now w.0 c.turn.new.input c.skip_in_hand-in-SkipsLine.new.self _ _
    _ _ _ _ c.in-Ok-turn.turned refl r t.moves t.ready c.in-SkipsLine.is
    t.limits
    (passes_messages c.turns.self c.pass_plain.new.self c.turns.input w.0 w.1
    ∙ c.turns.invariant.quiet)
    c.in_default-flush.ensures.engine c.in_default-flush.ensures.output
    c.in_default-flush.ensures.messages
    (line_done_by c.turn.new.input c.skip_in_hand-in-SkipsLine.new.self c.skip_in_hand-in-SkipsLine.result false (search rules)
    c.skip_in_hand-in-SkipsLine.ensures)

pub turns-smaller : goal.turns-smaller
turns-smaller g c =
    let w = to_some c.in-Ok.lookahead c.in-Some.lookahead c.pass_plain.new.next c.turns.self c.pass_plain.new.self
    c.turns.input c.pass_plain.new.input c.in-Some.is c.in-Ok.ensures.passes in
    let t = c.in-Ok-turn.ensures.turns w.0 w.2 in
    fell_past_line c.turns.self c.pass_plain.new.self c.turn.new.self c.flush.new.self c.turns.input
    w.0 c.turn.new.input c.skip_in_hand-in-SkipsLine.new.self _ _ _ _ c.in-Ok-turn.turned w.1
    t.moves t.ready c.in-SkipsLine.is
    (due_all c.turn.new.self c.flush.new.self _ _ _ _ c.in_default-flush.ensures.engine
    c.in_default-flush.ensures.output c.in_default-flush.ensures.messages)
    (line_done_by c.turn.new.input c.skip_in_hand-in-SkipsLine.new.self c.skip_in_hand-in-SkipsLine.result true (search rules)
    c.skip_in_hand-in-SkipsLine.ensures)

pub turns-preserved : goal.turns-preserved
turns-preserved g c =
    let w = to_some c.in-Ok.lookahead c.in-Some.lookahead c.pass_plain.new.next c.turns.self c.pass_plain.new.self
    c.turns.input c.pass_plain.new.input c.in-Some.is c.in-Ok.ensures.passes in
    let t = c.in-Ok-turn.ensures.turns w.0 w.2 in
    let r = passed c.args.wanted c.args.self.now c.turns.self c.pass_plain.new.self c.args.input.now.pending
    c.turns.input w.0 _ _ _ _ c.turns.invariant.runs w.1 in
    record {
      runs = went_past_line c.args.wanted c.args.self.now c.pass_plain.new.self c.turn.new.self c.flush.new.self
          c.args.input.now.pending w.0 c.turn.new.input c.skip_in_hand-in-SkipsLine.new.self _ _ _ _ _ _
          c.in-Ok-turn.turned r t.moves t.ready c.in-SkipsLine.is
          t.limits
          (due_all c.turn.new.self c.flush.new.self _ _ _ _ c.in_default-flush.ensures.engine
          c.in_default-flush.ensures.output c.in_default-flush.ensures.messages)
          (line_done_by c.turn.new.input c.skip_in_hand-in-SkipsLine.new.self c.skip_in_hand-in-SkipsLine.result true (search rules)
          c.skip_in_hand-in-SkipsLine.ensures);
      quiet = ap (λ (d : Engine). d.messages) c.in_default-flush.ensures.engine;
      few = few_left _ (ap (λ (d : Engine). d.output) c.in_default-flush.ensures.engine);
      out = c.in_default-flush.ensures.counted.0 ∙ c.turns.invariant.out;
      reported = c.in_default-flush.ensures.counted.1 ∙ c.turns.invariant.reported;
    }

pub returns-in-NeedsMore-clause-gives : goal.returns-in-NeedsMore-clause-gives
returns-in-NeedsMore-clause-gives g c =
    let w = to_some c.in-Ok.lookahead c.in-Some.lookahead c.pass_plain.new.next c.turns.self c.pass_plain.new.self
    c.turns.input c.pass_plain.new.input c.in-Some.is c.in-Ok.ensures.passes in
    let t = c.in-Ok-turn.ensures.turns w.0 w.2 in
    let r = passed c.args.wanted c.args.self.now c.turns.self c.pass_plain.new.self c.args.input.now.pending
    c.turns.input w.0 _ _ _ _ c.turns.invariant.runs w.1 in
    needed c.args.wanted c.args.self.now c.pass_plain.new.self c.turn.new.self c.flush.new.self
    c.args.input.now.pending c.args.input.now w.0 c.turn.new.input _ _ _ _ _ _
    c.in-Ok-turn.turned refl r t.made c.in-NeedsMore.is c.in_default-flush.ensures.engine
    c.in_default-flush.ensures.output c.in_default-flush.ensures.messages

pub returns-in-Ends-clause-gives : goal.returns-in-Ends-clause-gives
returns-in-Ends-clause-gives g c =
    let w = to_some c.in-Ok.lookahead c.in-Some.lookahead c.pass_plain.new.next c.turns.self c.pass_plain.new.self
    c.turns.input c.pass_plain.new.input c.in-Some.is c.in-Ok.ensures.passes in
    let t = c.in-Ok-turn.ensures.turns w.0 w.2 in
    let r = passed c.args.wanted c.args.self.now c.turns.self c.pass_plain.new.self c.args.input.now.pending
    c.turns.input w.0 _ _ _ _ c.turns.invariant.runs w.1 in
    hand_ends c.args.wanted c.args.self.now c.flush.new.self c.args.input.now c.turn.new.input _ c.in-Ends.end _ c.cause.ensures
    (ended c.args.wanted c.args.self.now c.pass_plain.new.self c.turn.new.self c.flush.new.self
    c.args.input.now.pending c.turn.new.input.pending w.0 _ _ _ _ _ _ c.in-Ok-turn.turned
    c.in-Ends.end r t.moves c.in-Ends.is c.in_default-flush.ensures.engine
    t.limits c.in_default-flush.ensures.output c.in_default-flush.ensures.messages)

pub returns-in-Err-flush-clause-order : goal.returns-in-Err-flush-clause-order
returns-in-Err-flush-clause-order g c =
    let w = to_some c.in-Ok.lookahead c.in-Some.lookahead c.pass_plain.new.next c.turns.self c.pass_plain.new.self
    c.turns.input c.pass_plain.new.input c.in-Some.is c.in-Ok.ensures.passes in
    let t = c.in-Ok-turn.ensures.turns w.0 w.2 in
    let r = passed c.args.wanted c.args.self.now c.turns.self c.pass_plain.new.self c.args.input.now.pending
    c.turns.input w.0 _ _ _ _ c.turns.invariant.runs w.1 in
    write_breaks_in_order c.args.wanted c.args.self.now c.pass_plain.new.self c.turn.new.self c.args.input.now.pending
    w.0 c.turn.new.input c.in-Ok-turn.turned c.len-earlier.result _ _ _ _ _ _ r
    t.moves t.made
    (passes_messages c.turns.self c.pass_plain.new.self c.turns.input w.0 w.1
    ∙ c.turns.invariant.quiet)
    (search rules) c.in-Err-flush.ensures.order

pub returns-in-Ends-clause-order : goal.returns-in-Ends-clause-order
returns-in-Ends-clause-order g c = rw c.cause.ensures (in_order_end c.args.wanted c.args.self.now c.args.input.now.pending _ c.in-Ends.end)

pub returns-in_default-clause-order : goal.returns-in_default-clause-order
returns-in_default-clause-order g c = lack_gives_in_order c.args.wanted c.args.self.now c.turns.self
    c.pass_plain.new.self c.args.input.now.pending c.turns.input c.len-made.result _ _ _ _ _ c.give_out.result
    c.turns.invariant.runs c.turns.invariant.quiet (search rules) c.in_default-2.ensures.kept c.give_out.ensures.gives

pub returns-in_default-turn-clause-order : goal.returns-in_default-turn-clause-order
returns-in_default-turn-clause-order g c =
    let w = to_some c.in-Ok.lookahead c.in-Some.lookahead c.pass_plain.new.next c.turns.self c.pass_plain.new.self
    c.turns.input c.pass_plain.new.input c.in-Some.is c.in-Ok.ensures.passes in
    let r = passed c.args.wanted c.args.self.now c.turns.self c.pass_plain.new.self c.args.input.now.pending
    c.turns.input w.0 _ _ _ _ c.turns.invariant.runs w.1 in
    lack_gives_in_order c.args.wanted c.args.self.now c.pass_plain.new.self c.turn.new.self c.args.input.now.pending
    w.0 c.len-earlier.result _ _ _ _ _ c.give_out-in_default-turn.result
    r
    (passes_messages c.turns.self c.pass_plain.new.self c.turns.input w.0 w.1
    ∙ c.turns.invariant.quiet)
    (search rules) c.in_default-turn.ensures.kept c.give_out-in_default-turn.ensures.gives

pub returns-in_default-clause-counted : goal.returns-in_default-clause-counted
returns-in_default-clause-counted g c = lack_counted _ _ _ c.give_out.result _ _ _ _ _ c.give_out.ensures.gives
    c.give_out.ensures.counted c.turns.invariant.out c.turns.invariant.reported

pub returns-in_default-turn-clause-counted : goal.returns-in_default-turn-clause-counted
returns-in_default-turn-clause-counted g c = lack_counted _ _ _ c.give_out-in_default-turn.result _ _ _ _ _
    c.give_out-in_default-turn.ensures.gives c.give_out-in_default-turn.ensures.counted c.turns.invariant.out
    c.turns.invariant.reported

-- no writer failed
pub returns-in-NeedsMore-clause-counted : goal.returns-in-NeedsMore-clause-counted
returns-in-NeedsMore-clause-counted g c = (
  c.in_default-flush.ensures.counted.0 ∙ c.turns.invariant.out,
  c.in_default-flush.ensures.counted.1 ∙ c.turns.invariant.reported,
)

pub returns-then-not-skip_in_hand-2-clause-counted : goal.returns-then-not-skip_in_hand-2-clause-counted
returns-then-not-skip_in_hand-2-clause-counted g c = (
  c.in_default-flush.ensures.counted.0 ∙ c.turns.invariant.out,
  c.in_default-flush.ensures.counted.1 ∙ c.turns.invariant.reported,
)

-- no turn ends a run by a write fault
none_fails : (end : TurnEnd) (f : Failures) → NoneFailed f → FailsBy (cause_of_end end) f
none_fails turn_ends.Done f h = h
none_fails end f h = h

pub returns-in-Ends-clause-counted : goal.returns-in-Ends-clause-counted
returns-in-Ends-clause-counted g c =
    let f : Failures = both g.O.ByteSink.failures g.M.ByteSink.failures c.args.out.now c.flush.new.out
    c.args.messages.now c.flush.new.messages in
    subst (λ (x : Cause). FailsBy x f) (sym c.cause.ensures)
    (none_fails c.in-Ends.end f (
      c.in_default-flush.ensures.counted.0 ∙ c.turns.invariant.out,
      c.in_default-flush.ensures.counted.1 ∙ c.turns.invariant.reported,
    ))

-- one did
pub returns-in-Err-flush-clause-counted : goal.returns-in-Err-flush-clause-counted
returns-in-Err-flush-clause-counted g c =
    rw c.turns.invariant.out at (rw c.turns.invariant.reported at c.in-Err-flush.ensures.counted)

pub returns-in-Err-clause-counted : goal.returns-in-Err-clause-counted
returns-in-Err-clause-counted g c =
    inl (c.in-Err.ensures.counted ∙ ap one_more c.turns.invariant.out, c.turns.invariant.reported)
