use Rattle.std.proofs.Common.{◌≡◌, drop}
use Rattle.m4_builtins.specs.Printing.{warnings_on}
use Rattle.m4_builtins.specs.Warned.{with_messages}
use Rattle.m4_builtins.proofs.printing.push_warnings.Given as goal

-- the names that are left lead to the warnings that all lead to
abbrev pub invariant-loop-name : goal.invariant-loop-name
invariant-loop-name l =
    with_messages l.effect (warnings_on (drop l.name-index l.names) l.place l.state)
    ≡ with_messages l.fn.effect (warnings_on l.names l.place l.state)
