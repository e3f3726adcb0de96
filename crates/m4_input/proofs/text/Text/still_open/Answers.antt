use Rattle.std.proofs.Common.{◌≡◌, ℕ, ◌+◌, List, length, drop, ap, subst, sym, ◌∙◌, arith}
use Rattle.m4_input.specs.declared.open_token.OpenToken.{OpenToken}
use Rattle.m4_input.specs.Ascii.{is_name_byte}
use Rattle.m4_input.specs.OpenToken.{IsOpenAt, CommentGoesOn}
use Rattle.m4_input.specs.Text.{text_in}
use Rattle.m4_input.specs.Token.{run_length}
use Rattle.m4_input.proofs.OpenTokens.{name_stays_open, comment_stays_open, string_stays_open}
use Rattle.m4_input.proofs.text.Text.still_open.Goals as goal

pub returns-in-Name : goal.returns-in-Name
returns-in-Name c =
    let q = c.args.delims.now.quotes.now in
    let d = c.args.delims.now.comments.now in
    let rest = c.in_ok-rest-in-Name.rest.now in
    let all : run_length is_name_byte rest ≡ length rest = sym c.word_len.ensures.value ∙ omega (arith, c.word_len.ensures.within, c.if-word_len-rest.false) in
    name_stays_open q d c.in-Name.at (text_in c.args.self.now) rest
    (subst (λ (o : OpenToken). IsOpenAt q d o (text_in c.args.self.now)) c.in-Name.is c.requires)
    c.in_ok-rest-in-Name.ensures all

pub returns-in-Comment : goal.returns-in-Comment
returns-in-Comment c =
    let q = c.args.delims.now.quotes.now in
    let d = c.args.delims.now.comments.now in
    comment_stays_open q d c.in-Comment.at c.in_ok-further-in-Comment.further (text_in c.args.self.now) c.in_ok-rest-in-Comment.rest.now
    (subst (λ (o : OpenToken). IsOpenAt q d o (text_in c.args.self.now)) c.in-Comment.is c.requires)
    (c.in_ok-rest-in-Comment.ensures ∙ ap (λ (b : List ℕ). drop (length b + c.in-Comment.at) (text_in c.args.self.now)) c.as_slice.ensures)
    (subst (λ (e : List ℕ). CommentGoesOn e c.in_ok-further-in-Comment.further c.in_ok-rest-in-Comment.rest.now)
    c.as_slice-in-Comment.ensures c.in_ok-further-in-Comment.ensures)

pub returns : goal.returns
returns c =
    let q = c.args.delims.now.quotes.now in
    let d = c.args.delims.now.comments.now in
    string_stays_open q d c.in-Quoted.at c.in-Quoted.depth c.in-Open.further c.in-Open.nested (text_in c.args.self.now) c.in_ok-rest-in-Quoted.rest.now
    (subst (λ (o : OpenToken). IsOpenAt q d o (text_in c.args.self.now)) c.in-Quoted.is c.requires)
    (c.in_ok-rest-in-Quoted.ensures ∙ ap (λ (b : List ℕ). drop (length b + c.in-Quoted.at) (text_in c.args.self.now))
    c.as_slice-in-Quoted.ensures) c.in-Open.ensures
