use Rattle.std.proofs.Common.{◌≡◌, None, sym, ◌∙◌, rules}
use Rattle.m4_input.proofs.OpenTokens.{comment_on}
use Rattle.m4_input.proofs.open_token.comment_goes_on.Goals as goal

pub returns : goal.returns
returns c =
    let none : c.find.result ≡ None = search rules in
    comment_on c.args.end.now c.args.text.now _ (sym none ∙ c.find.ensures.value) (search rules)
