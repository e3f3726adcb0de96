-- A literal leads to the place after its operand.
use Rattle.std.proofs.Common.{arith}
use Rattle.std.proofs.lemmas.Bool.{ne_eqb}
use Rattle.std.proofs.lemmas.Option.{IfSome_then}
use Rattle.m4_eval.proofs.Chains.{digit_below, decimal_read}
use Rattle.m4_eval.proofs.chain.split_literal.Goals as goal

pub returns-in-49-to-57-clause-value : goal.returns-in-49-to-57-clause-value
returns-in-49-to-57-clause-value c =
    IfSome_then c.decimal.result c.decimal.ensures.read
    (λ r p w. decimal_read w c.args.byte c.args.after.now r.1.now r.0 (omega arith) (omega arith)
    (ne_eqb c.args.byte 48 (λ e. omega (arith, e))) (digit_below c.args.byte (omega arith) (omega arith)) p.0 p.1)
