use Rattle.std.proofs.Common.{◌-◌, ◌≤◌, length}
use Rattle.m4_engine.proofs.token_sink.pass_tokens.Given as goal

-- the sink took the tokens so far
abbrev pub invariant-tokens : goal.invariant-tokens
invariant-tokens g l = record { within : l.len ≤ length l.text; takes : g.K.TokenSink.takes l.state l.more l.len l.fn.sink l.sink l.text }

abbrev pub decreases-tokens : goal.decreases-tokens
decreases-tokens g l = length l.text - l.len
