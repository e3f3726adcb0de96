use Rattle.std.proofs.Common.{◌≡◌, [], ◌∷◌, Some, None, sym, ◌∙◌, rules}
use Rattle.m4_input.specs.Token.{before}
use Rattle.m4_input.proofs.ByteSearch.{first_before}
use Rattle.m4_input.proofs.Lines.{line_some, line_none}
use Rattle.m4_input.proofs.slice.line_len.Goals as goal

pub returns-clause-value : goal.returns-clause-value
returns-clause-value c =
    let found : c.memchr.result ≡ before (10 ∷ []) c.args.text.now = first_before 10 c.args.text.now c.memchr.result c.memchr.ensures in
    let is : c.memchr.result ≡ Some c.in_ok-memchr.field-0 = search rules in
    line_some c.args.text.now c.in_ok-memchr.field-0 (sym is ∙ found)

pub returns-in_err-memchr-clause-value : goal.returns-in_err-memchr-clause-value
returns-in_err-memchr-clause-value c =
    let found : c.memchr.result ≡ before (10 ∷ []) c.args.text.now = first_before 10 c.args.text.now c.memchr.result c.memchr.ensures in
    let is : c.memchr.result ≡ None = search rules in
    let none : c.from_residual.result ≡ None = search rules in
    none ∙ line_none c.args.text.now (sym is ∙ found)
