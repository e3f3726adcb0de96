use Rattle.std.proofs.Common.{rules}
use Rattle.m4_input.proofs.Looks.{name_begins}
use Rattle.m4_input.proofs.look.look_by_kind.Goals as goal

pub name_token-requires : goal.name_token-requires
name_token-requires c =
    name_begins c.args.delims.now.quotes.now c.args.delims.now.comments.now c.args.may_follow c.in-Some.first.now c.args.text.now c.kind.result
    (search rules) c.kind.ensures.value (search rules)
