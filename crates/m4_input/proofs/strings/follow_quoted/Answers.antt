use Rattle.std.proofs.Common.{true, ◌+◌, ◌∷◌, [], sym, subst}
use Rattle.m4_state.specs.declared.delimiters.Delimiters.{Delimiters}
use Rattle.m4_input.specs.OpenToken.{HasPassed}
use Rattle.m4_input.proofs.QuoteSearch.{found_begin, found_end, found_close, none_found}
use Rattle.m4_input.proofs.strings.follow_quoted.Goals.{then-text-k, else-text-k+else-nested-eq0}
use Rattle.m4_input.proofs.strings.follow_quoted.Goals as goal

pub returns-then-nested-eq0 : goal.returns-then-nested-eq0
returns-then-nested-eq0 c =
    found_close c.args.begin c.args.end c.args.depth c.args.text.now c.quotes.nested c.quotes.k c.quotes.invariant
    c.in-Some.plain c.in-Some.ensures c.if-text-k.false c.if-nested-eq0.true

pub quotes-preserved : goal.quotes-preserved
quotes-preserved c =
    let q : Delimiters = record { begin = c.args.begin ∷ []; end = c.args.end ∷ [] } in
    let x = c.args.text.now in
    let n = c.args.depth in
    elim c.if-text-k.branch [
      | then-text-k w ↦ subst (λ o. HasPassed q true n x o (c.quotes.k + c.in-Some.plain + 1)) (sym w.nested-is)
          (found_begin c.args.begin c.args.end n x c.quotes.nested c.quotes.k c.quotes.invariant c.in-Some.plain
          c.in-Some.ensures w.if-text-k.true)
      | else-text-k+else-nested-eq0 w ↦ subst (λ o. HasPassed q true n x o (c.quotes.k + c.in-Some.plain + 1))
          (sym w.nested-is) (found_end c.args.begin c.args.end n x c.quotes.nested c.quotes.k c.quotes.invariant
          c.in-Some.plain c.in-Some.ensures w.if-text-k.false w.if-nested-eq0.false)
    ]

pub returns : goal.returns
returns c = none_found c.args.begin c.args.end c.args.depth c.args.text.now c.quotes.nested c.quotes.k c.quotes.invariant c.in_default.ensures
