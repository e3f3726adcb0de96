use Rattle.std.proofs.Common.{◌≡◌, ◌++◌, drop}
use Rattle.m4_builtins.specs.Diverting.{brought_back, issued_by_all}
use Rattle.m4_builtins.proofs.diverting.bring_back.Given as goal

-- the numbers that are left lead to the state and the output that all lead to
abbrev pub invariant-loop-number : goal.invariant-loop-number
invariant-loop-number l = record {
  state : brought_back (drop l.number-index l.numbers) l.state ≡ brought_back l.numbers l.fn.state;
  output : l.output.items ++ issued_by_all (drop l.number-index l.numbers) l.state ≡ l.fn.output.items ++ issued_by_all l.numbers l.fn.state;
}
