-- Each mode adds its rule.
use Rattle.std.proofs.Common.{◌∙◌, ap, ap₂}
use Rattle.std.proofs.lemmas.Result.{IfOk-weaker}
use Rattle.clap.specs.Words.{app_of, with_rule}
use Rattle.m4_tool.proofs.line.with_modes.Goals as goal

pub returns : goal.returns
returns c =
    let canon_is = c.in_ok-command.ensures.shape c.path_option.ensures.local
    ∙ ap (with_rule (app_of c.args.command)) c.path_option.ensures.rule in
    IfOk-weaker c.arg-2.result _ _
    (λ command added. added.shape c.path_option-2.ensures.local ∙ ap₂ with_rule canon_is c.path_option-2.ensures.rule)
    c.arg-2.ensures
