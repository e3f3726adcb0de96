-- Where no frozen file was refused nothing is put.
use Rattle.std.proofs.Common.{rules, ◌∙◌, ap, sym}
use Rattle.m4_state.proofs.CallerLaws.{with_bytes-nil}
use Rattle.m4_state.specs.Device.{with_bytes}
use Rattle.m4_tool.proofs.EndLemmas.{refused_line-none}
use Rattle.m4_tool.proofs.endings.put_refused.Goals as goal

pub returns-in_default-clause-puts : goal.returns-in_default-clause-puts
returns-in_default-clause-puts g c =
    with_bytes-nil _ ∙ ap (with_bytes _) (sym (refused_line-none _ c.args.cause c.in_default.not-Frozen))

pub returns-in-Frozen-clause-puts : goal.returns-in-Frozen-clause-puts
returns-in-Frozen-clause-puts g c = search rules
