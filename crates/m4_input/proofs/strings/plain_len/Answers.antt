use Rattle.std.proofs.Common.{drop, rules}
use Rattle.m4_input.proofs.QuoteSearch.{plain_before, plain_all}
use Rattle.m4_input.proofs.strings.plain_len.Goals as goal

pub returns-in-Some-Some-clause-some : goal.returns-in-Some-Some-clause-some
returns-in-Some-Some-clause-some c =
    let q = c.args.quotes.now in
    plain_before q c.in-Some-Some.begin.now c.in-Some-Some.end.now (drop 1 q.begin) (drop 1 q.end) (search rules)
    (search rules) c.args.text.now c.first_of_two.result c.first_of_two.ensures

pub returns-in-Some-Some-clause-none : goal.returns-in-Some-Some-clause-none
returns-in-Some-Some-clause-none c =
    let q = c.args.quotes.now in
    plain_all q c.in-Some-Some.begin.now c.in-Some-Some.end.now (drop 1 q.begin) (drop 1 q.end) (search rules)
    (search rules) c.args.text.now c.first_of_two.result c.first_of_two.ensures
