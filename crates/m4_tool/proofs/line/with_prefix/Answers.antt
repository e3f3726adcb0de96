-- The option adds its rule.
use Rattle.std.proofs.Common.{rules, ◌≡◌, ◌∙◌, ap}
use Rattle.std.proofs.lemmas.Result.{IfOk-weaker}
use Rattle.clap.specs.Words.{app_of, rule_of, with_rule}
use Rattle.m4_tool.specs.CommandLine.{prefix_word}
use Rattle.m4_tool.proofs.line.with_prefix.Goals as goal

pub returns : goal.returns
returns c =
    let prefix_is : rule_of c.help-prefix.result ≡ prefix_word = search rules in
    IfOk-weaker c.arg.result _ _
    (λ command added. added.shape (search rules) ∙ ap (with_rule (app_of c.args.command)) prefix_is) c.arg.ensures
