use Rattle.std.proofs.Common.{◌≡◌, ◌++◌, drop}
use Rattle.m4_builtins.specs.Printing.{lines_of}
use Rattle.m4_builtins.proofs.printing.push_lines.Given as goal

-- the names that are left lead to the lines that all lead to
abbrev pub invariant-loop-name : goal.invariant-loop-name
invariant-loop-name l = l.messages ++ lines_of (drop l.name-index l.names) l.state ≡ l.fn.messages ++ lines_of l.names l.state
