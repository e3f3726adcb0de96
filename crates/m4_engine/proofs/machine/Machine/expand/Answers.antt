use Rattle.std.proofs.Common.{◌≡◌, rules, refl, sym, ap, ◌∙◌}
use Rattle.m4_engine.proofs.Blockwise.{takes_nothing, needs_so, blocks_came, stopped_so, fault_counted_so, lasting_so}
use Rattle.m4_engine.proofs.Blockwise.{none_failed, came_counted, ends_so, told_so, told_at_fault}
use Rattle.m4_input.specs.Input.{IsLasting}
use Rattle.m4_engine.specs.Continued.{fault_cause}
use Rattle.m4_engine.proofs.machine.Machine.expand.Goals.{in-Read, in-OutOfMemory}
use Rattle.m4_engine.proofs.machine.Machine.expand.Goals as goal

pub blocks-2-init : goal.blocks-2-init
blocks-2-init g c = record {
  takes = takes_nothing c.args.self.now c.args.input.now _ _ _ c.requires.idle
      c.requires.ready;
  read = refl;
  out = refl;
  reported = refl;
}

pub expand_in_hand-requires : goal.expand_in_hand-requires
expand_in_hand-requires g c = record { ready = c.blocks-2.invariant.takes.ready; flushed = c.blocks-2.invariant.takes.flushed }

pub returns-in-Over-clause-expands : goal.returns-in-Over-clause-expands
returns-in-Over-clause-expands g c = ends_so c.args.self.now c.blocks-2.self c.expand_in_hand.new.self
    c.args.input.now.pending c.blocks-2.input c.expand_in_hand.new.input _ _ _ _ _ _ _ _ c.blocks-2.wanted
    c.in-Over.cause c.expand_in_hand.result c.in-Over.is c.requires.idle c.blocks-2.invariant.takes
    c.expand_in_hand.ensures.gives

pub returns-in-Over-clause-order : goal.returns-in-Over-clause-order
returns-in-Over-clause-order g c = told_so c.args.self.now c.blocks-2.self c.args.input.now.pending c.blocks-2.input _ _
    _ _ _ _ _ _ c.blocks-2.wanted c.in-Over.cause c.expand_in_hand.result c.in-Over.is c.requires.idle
    c.blocks-2.invariant.takes c.expand_in_hand.ensures.order

pub blocks-2-preserved : goal.blocks-2-preserved
blocks-2-preserved g c =
    let h = needs_so c.blocks-2.wanted c.in-For.more c.blocks-2.self c.expand_in_hand.new.self c.blocks-2.input
    c.expand_in_hand.new.input _ c.expand_in_hand.result c.in-For.is c.expand_in_hand.ensures.gives in
    record {
      takes = blocks_came c.args.self.now c.blocks-2.self c.expand_in_hand.new.self c.args.input.now.pending
          c.blocks-2.input c.expand_in_hand.new.input c.read_on.new.input _ _ _ _ _ _ _ _ _ c.blocks-2.wanted
          c.in-For.more c.requires.idle c.blocks-2.invariant.takes h c.in_default.ensures.gives;
      read = came_counted c.in-For.more c.expand_in_hand.new.self _ _ c.expand_in_hand.new.input c.read_on.new.input _ _
          h.ready.sound c.in_default.ensures.gives c.in_default.ensures.counted ∙ c.blocks-2.invariant.read;
      out = c.in-For.ensures.counted.0 ∙ c.blocks-2.invariant.out;
      reported = c.in-For.ensures.counted.1 ∙ c.blocks-2.invariant.reported;
    }

pub unreachable-requires : goal.unreachable-requires
unreachable-requires g c =
    let lasting : IsLasting c.in-Err.fault =
    lasting_so c.in-For.more c.expand_in_hand.new.self _ _ c.expand_in_hand.new.input c.read_on.new.input
    c.in-Err.fault c.in-Err.ensures.gives in
    search rules

pub returns-in-Err : goal.returns-in-Err
returns-in-Err g c =
    let h = needs_so c.blocks-2.wanted c.in-For.more c.blocks-2.self c.expand_in_hand.new.self c.blocks-2.input
    c.expand_in_hand.new.input _ c.expand_in_hand.result c.in-For.is c.expand_in_hand.ensures.gives in
    let cause : c.match-fault.result ≡ fault_cause c.in-Err.fault = elim c.match-fault.branch [
      | in-Read w ↦ w.result-is ∙ sym (ap fault_cause w.in-Read.is)
      | in-OutOfMemory w ↦ w.result-is ∙ sym (ap fault_cause w.in-OutOfMemory.is)
    ] in
    record {
      expands = stopped_so c.args.self.now c.blocks-2.self c.expand_in_hand.new.self c.args.input.now.pending
          c.blocks-2.input c.expand_in_hand.new.input c.read_on.new.input _ _ _ _ _ _ _ _ _ c.blocks-2.wanted
          c.in-For.more c.in-Err.fault c.match-fault.result cause c.requires.idle
          c.blocks-2.invariant.takes h c.in-Err.ensures.gives;
      order = told_at_fault c.args.self.now c.blocks-2.self c.expand_in_hand.new.self c.args.input.now.pending
          c.blocks-2.input c.expand_in_hand.new.input c.read_on.new.input _ _ _ _ _ _ _ _ _ c.blocks-2.wanted
          c.in-For.more c.in-Err.fault c.match-fault.result cause c.requires.idle
          c.blocks-2.invariant.takes h c.in-Err.ensures.gives;
      read = fault_counted_so c.in-For.more c.expand_in_hand.new.self _ _ c.expand_in_hand.new.input c.read_on.new.input
          c.in-Err.fault c.match-fault.result _ _ _ cause h.ready.sound c.in-Err.ensures.gives
          c.blocks-2.invariant.read c.in-Err.ensures.counted;
      counted = none_failed c.match-fault.result c.in-Err.fault _ cause
          (c.in-For.ensures.counted.0 ∙ c.blocks-2.invariant.out, c.in-For.ensures.counted.1 ∙ c.blocks-2.invariant.reported);
    }
