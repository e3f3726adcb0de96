use Rattle.std.proofs.Common.{map, rules}
use Rattle.m4_builtins.specs.Args.{text_of_arg}
use Rattle.m4_builtins.proofs.Joins.{all_plain}
use Rattle.m4_builtins.proofs.substitute.is_plain.Goals as goal

pub returns : goal.returns
returns c = λ equal name list quotes. all_plain name (map text_of_arg list) quotes c.args.text.now (search rules)
