-- What was read of the words is the number that they write.
use Rattle.std.proofs.Common.{◌≡◌, ◌<◌, ℕ, Option, Some, arith, subst, sym}
use Rattle.std.specs.Str.Parse.{ExplainsUnsignedError, HasUnsignedDigitsIfOk, ParsesUnsigned}
use Rattle.clap.proofs.WalkLemmas.{one_text-rows}
use Rattle.clap.specs.Words.{Text, found_of, one_of, one_text, rows_of}
use Rattle.m4_tool.specs.CommandLine.{IsLimit}
use Rattle.m4_tool.proofs.RowLemmas.{limit_read, limit_unread}
use Rattle.m4_tool.proofs.line.limit.Goals as goal
use Rattle.m4_tool.proofs.line.limit.Goals.{in_default-via-in-Some+else-given-least, in_default-via-in_default}

pub returns-in-Some-clause-says : goal.returns-in-Some-clause-says
returns-in-Some-clause-says c =
    let found = found_of c.args.matches.now in
    let read = limit_read _ (λ bs r. ParsesUnsigned 32 10 bs r × ExplainsUnsignedError 10 bs r × HasUnsignedDigitsIfOk bs r)
    c.args.least c.args.usual c.in-Some.given (one_text found c.args.name.now)
    c.in-Some.ensures.none c.in-Some.ensures.value (λ t x g. g.0) in
    let by_rows = subst (λ (o : Option Text). IsLimit c.args.least c.args.usual o c.in-Some.given)
    (one_text-rows found c.args.name.now) read in
    subst (λ (n : ℕ). IsLimit c.args.least c.args.usual (one_of c.args.name.now (rows_of found)) n) (sym c.from.ensures) by_rows

pub returns-in_default-clause-says : goal.returns-in_default-clause-says
returns-in_default-clause-says c =
    let found = found_of c.args.matches.now in
    let below : (n : ℕ) → c.get_one.result ≡ Some n → n < c.args.least = λ n is.
    elim c.in_default.branch [
      | in_default-via-in-Some+else-given-least w ↦
          let same : n ≡ w.in-Some.given = cc (is, w.in-Some.is) in
          omega (arith, same, w.if-given-least.false)
      | in_default-via-in_default w ↦ absurd (w.in_default.not-Some n is)
    ] in
    let unread = limit_unread _ (λ bs r. ParsesUnsigned 32 10 bs r × ExplainsUnsignedError 10 bs r × HasUnsignedDigitsIfOk bs r)
    c.args.least c.args.usual (one_text found c.args.name.now) c.get_one.result
    c.get_one.ensures.none c.get_one.ensures.value (λ t x g. g.0) below in
    let by_rows = subst (λ (o : Option Text). IsLimit c.args.least c.args.usual o c.args.usual)
    (one_text-rows found c.args.name.now) unread in
    subst (λ (n : ℕ). IsLimit c.args.least c.args.usual (one_of c.args.name.now (rows_of found)) n) (sym c.from-in_default.ensures) by_rows
