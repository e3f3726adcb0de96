use Rattle.std.proofs.Common.{map, refl, rules}
use Rattle.m4_builtins.specs.QuotesView.{pair_of}
use Rattle.m4_builtins.specs.Args.{text_of_arg}
use Rattle.m4_builtins.proofs.Joins.{all_plain}
use Rattle.m4_builtins.proofs.effect_buffer.EffectBuffer.give_expansion.Goals as goal

-- a text without a dollar is its own expansion
pub returns-then-plain-bytes-clause-own : goal.returns-then-plain-bytes-clause-own
returns-then-plain-bytes-clause-own c = λ e.
    (refl, all_plain c.args.name.now (map text_of_arg c.args.list.now) (pair_of c.args.quotes) c.args.text.now (search rules))
