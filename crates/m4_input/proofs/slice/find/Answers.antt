use Rattle.std.proofs.Common.{◌∙◌, ℕ, List, sym, ap, arith}
use Rattle.std.proofs.lemmas.Grind.{common_steps}
use Rattle.m4_input.specs.Token.{before}
use Rattle.m4_input.proofs.ByteSearch.{first_before}
use Rattle.m4_input.proofs.FirstPlace.{found_before}
use Rattle.m4_input.proofs.slice.find.Goals as goal

pub returns-in-Some-clause-value : goal.returns-in-Some-clause-value
returns-in-Some-clause-value c =
    first_before c.in-Some.byte c.args.text.now c.memchr.result c.memchr.ensures
    ∙ ap (λ (d : List ℕ). before d c.args.text.now) (sym c.in-Some.ensures.some)

pub returns-in-None-2-clause-value : goal.returns-in-None-2-clause-value
returns-in-None-2-clause-value c =
    found_before c.args.text.now c.args.delimiter.now c.find.result (grind (arith, common_steps)) c.find.ensures
