use Rattle.std.proofs.Common.{rules}
use Rattle.m4_engine.proofs.JoinsBack.{joined_on}
use Rattle.m4_engine.proofs.machine.Machine.take_saved.Goals as goal

pub loop-text-preserved : goal.loop-text-preserved
loop-text-preserved c =
    joined_on c.loop-text.joined.items c.extend_from_slice.new.self.items c.in-Some.text _ c.loop-text.left.items
    c.pop.new.self.items c.loop-text.invariant (search rules) (search rules)

pub loop-text-init : goal.loop-text-init
loop-text-init c = search rules
