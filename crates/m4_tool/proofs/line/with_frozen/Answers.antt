-- Each frozen file adds its rule, which has a short name too.
use Rattle.std.proofs.Common.{rules, ◌≡◌, ◌∙◌, Some, ap, ap₂}
use Rattle.std.proofs.lemmas.Result.{IfOk-weaker}
use Rattle.clap.specs.Words.{Rule, app_of, rule_of, with_rule}
use Rattle.m4_tool.specs.CommandLine.{freeze_word, reload_word}
use Rattle.m4_tool.proofs.line.with_frozen.Goals as goal

pub returns : goal.returns
returns c =
    let freeze_is : rule_of c.short-freeze.result ≡ freeze_word =
    ap rule_of c.short-freeze.ensures ∙ ap (λ (r : Rule). record r { short = Some 70 }) c.path_option.ensures.rule in
    let reload_is : rule_of c.short-reload.result ≡ reload_word =
    ap rule_of c.short-reload.ensures ∙ ap (λ (r : Rule). record r { short = Some 82 }) c.path_option-2.ensures.rule in
    let first = c.in_ok-command.ensures.shape (search rules) ∙ ap (with_rule (app_of c.args.command)) freeze_is in
    IfOk-weaker c.arg-2.result _ _
    (λ command added. added.shape (search rules) ∙ ap₂ with_rule first reload_is) c.arg-2.ensures
