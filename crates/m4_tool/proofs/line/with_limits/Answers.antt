-- Each limit adds its rule; that of open calls has a short name too.
use Rattle.std.proofs.Common.{rules, ◌≡◌, ◌∙◌, Some, ap, ap₂}
use Rattle.std.proofs.lemmas.Result.{IfOk-weaker}
use Rattle.clap.specs.Words.{Rule, app_of, rule_of, with_rule}
use Rattle.m4_tool.specs.CommandLine.{nesting_word}
use Rattle.m4_tool.proofs.line.with_limits.Goals as goal

pub returns : goal.returns
returns c =
    let nesting_is : rule_of c.short-nesting.result ≡ nesting_word =
    ap rule_of c.short-nesting.ensures ∙ ap (λ (r : Rule). record r { short = Some 76 }) c.limit_option.ensures.rule in
    let first = c.in_ok-command.ensures.shape (search rules) ∙ ap (with_rule (app_of c.args.command)) nesting_is in
    IfOk-weaker c.arg-2.result _ _
    (λ command added. added.shape c.limit_option-2.ensures.local ∙ ap₂ with_rule first c.limit_option-2.ensures.rule)
    c.arg-2.ensures
