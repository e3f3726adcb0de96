-- Each look finds the first token of the rest, and the sink takes it or leaves it.
use Rattle.m4_engine.proofs.token_sink.pass_tokens.Goals as goal

pub take-requires-clause-token : goal.take-requires-clause-token
take-requires-clause-token g c =
    (c.args.state.now, c.of.new.next, c.args.more, rw c.split_at.ensures.back at c.in_ok-token.ensures)

pub tokens-preserved-in-Some : goal.tokens-preserved-in-Some
tokens-preserved-in-Some g c = record {
  within = (rw c.in-UpTo.is at c.in_ok-end.ensures.within).1;
  takes = (rw c.in-UpTo.is at c.in_ok-end.ensures.takes) c.args.state.now c.of.new.next c.args.more c.args.sink.now
      c.of-delims.ensures.quotes c.of-delims.ensures.comments (rw c.split_at.ensures.back at c.in_ok-token.ensures)
      c.tokens.invariant.takes;
}

pub returns-in-Left-clause-after : goal.returns-in-Left-clause-after
returns-in-Left-clause-after g c = (rw c.in-Left.is at c.in_ok-end.ensures.left) c.args.state.now
    c.of.new.next c.args.more (rw c.split_at.ensures.back at c.in_ok-token.ensures)

pub take-requires-in-Some-delimited_token-clause-token : goal.take-requires-in-Some-delimited_token-clause-token
take-requires-in-Some-delimited_token-clause-token g c =
    (c.args.state.now, c.of-in-Some-delimited_token.new.next, c.args.more, rw c.split_at.ensures.back at c.in_ok-token-2.ensures)

pub tokens-preserved-in-Some-delimited_token : goal.tokens-preserved-in-Some-delimited_token
tokens-preserved-in-Some-delimited_token g c = record {
  within = (rw c.in-UpTo-2.is at c.in_ok-end-2.ensures.within).1;
  takes = (rw c.in-UpTo-2.is at c.in_ok-end-2.ensures.takes) c.args.state.now c.of-in-Some-delimited_token.new.next c.args.more c.args.sink.now
      c.of-delims.ensures.quotes c.of-delims.ensures.comments (rw c.split_at.ensures.back at c.in_ok-token-2.ensures)
      c.tokens.invariant.takes;
}

pub returns-in-Left-2-clause-after : goal.returns-in-Left-2-clause-after
returns-in-Left-2-clause-after g c = (rw c.in-Left-2.is at c.in_ok-end-2.ensures.left) c.args.state.now
    c.of-in-Some-delimited_token.new.next c.args.more (rw c.split_at.ensures.back at c.in_ok-token-2.ensures)

pub take-requires-in-tokens-clause-token : goal.take-requires-in-tokens-clause-token
take-requires-in-tokens-clause-token g c =
    (c.args.state.now, c.rare_token.new.next, c.args.more, rw c.split_at.ensures.back at c.in_ok-token-3.ensures)

pub tokens-preserved : goal.tokens-preserved
tokens-preserved g c = record {
  within = (rw c.in-UpTo-3.is at c.in_ok-end-3.ensures.within).1;
  takes = (rw c.in-UpTo-3.is at c.in_ok-end-3.ensures.takes) c.args.state.now c.rare_token.new.next c.args.more c.args.sink.now
      c.of-delims.ensures.quotes c.of-delims.ensures.comments (rw c.split_at.ensures.back at c.in_ok-token-3.ensures)
      c.tokens.invariant.takes;
}

pub returns-in-Left-3-clause-after : goal.returns-in-Left-3-clause-after
returns-in-Left-3-clause-after g c = (rw c.in-Left-3.is at c.in_ok-end-3.ensures.left) c.args.state.now
    c.rare_token.new.next c.args.more (rw c.split_at.ensures.back at c.in_ok-token-3.ensures)
