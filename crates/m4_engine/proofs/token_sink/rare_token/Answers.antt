-- The first token with the delimiters of the state is the one with those that were made of it.
use Rattle.std.proofs.Common.{ap, sym, ◌∙◌}
use Rattle.m4_input.specs.Token.{scan}
use Rattle.m4_engine.proofs.token_sink.rare_token.Goals as goal

pub of-requires-clause-value : goal.of-requires-clause-value
of-requires-clause-value c =
    ap (λ q. scan q c.args.state.now.comments c.args.more c.args.text.now) (sym c.of-delims.ensures.quotes)
    ∙ ap (λ d. scan c.of-delims.result.quotes.now d c.args.more c.args.text.now) (sym c.of-delims.ensures.comments)
    ∙ c.look_by_kind-look.ensures.value
