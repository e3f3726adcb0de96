use Rattle.m4_builtins.specs.Act.{act}
use Rattle.m4_builtins.specs.Steps.{LeadsTo, left_of}
use Rattle.m4_builtins.proofs.act.act_on.Given as goal

-- what the step leads to from here is what the call does
abbrev pub invariant-loop-step : goal.invariant-loop-step
invariant-loop-step l = LeadsTo (act l.def l.name l.list l.place l.fn.state) l.place l.state l.effect l.step

abbrev pub decreases-loop-step : goal.decreases-loop-step
decreases-loop-step l = left_of l.step
