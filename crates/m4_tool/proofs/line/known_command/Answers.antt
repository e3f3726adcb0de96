-- Each step states what it changes of the command, so the whole is `known_words`.
use Rattle.std.proofs.Common.{◌∙◌, ap, ap₂}
use Rattle.std.proofs.lemmas.Result.{IfOk-weaker}
use Rattle.clap.specs.Words.{with_rule}
use Rattle.m4_tool.specs.CommandLine.{with_frozen, with_limits, with_modes, with_prefix}
use Rattle.m4_tool.proofs.line.known_command.Goals as goal

pub returns : goal.returns
returns c =
    let modes_are = c.in_ok-command.ensures ∙ ap with_modes c.bare_command.ensures in
    let frozen_are = c.in_ok-command-2.ensures ∙ ap with_frozen modes_are in
    let limits_are = c.in_ok-command-3.ensures ∙ ap with_limits frozen_are in
    let prefix_is = c.in_ok-command-4.ensures ∙ ap with_prefix limits_are in
    let files_are = c.in_ok-command-5.ensures.shape c.files.ensures.local ∙ ap₂ with_rule prefix_is c.files.ensures.rule in
    IfOk-weaker c.arg-2.result _ _ (λ command added. added.shape c.help.ensures.local ∙ ap₂ with_rule files_are c.help.ensures.rule) c.arg-2.ensures
