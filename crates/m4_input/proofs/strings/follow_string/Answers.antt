use Rattle.std.proofs.Common.{sym, ◌∙◌}
use Rattle.m4_input.proofs.OpenTokens.{short_so_far}
use Rattle.m4_input.proofs.strings.follow_string.Goals as goal

pub returns-in-Some-Some : goal.returns-in-Some-Some
returns-in-Some-Some c =
    short_so_far c.args.quotes.now c.in-Some-Some.begin c.in-Some-Some.end c.args.may_follow c.args.depth c.args.text.now c.follow_quoted.result
    (sym c.as_slice.ensures ∙ c.in-Some-Some.ensures.some) (sym c.as_slice-2.ensures ∙ c.in-Some-Some.ensures'.some) (c.follow_quoted.ensures c.args.may_follow)
