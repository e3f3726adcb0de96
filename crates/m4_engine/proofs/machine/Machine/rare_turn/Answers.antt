use Rattle.std.proofs.Common.{◌≡◌, ◌≢◌, ◌∙◌, None, sym, ap, subst}
use Rattle.m4_input.specs.declared.front.Scan.TheVariants.{Broken}
use Rattle.m4_input.specs.declared.front.Unended.TheVariants.{InString, InComment}
use Rattle.m4_input.specs.Pending.{text_of}
use Rattle.m4_input.specs.Input.{Held}
use Rattle.m4_input.specs.Token.{scan}
use Rattle.std.specs.Prelude.{Ok}
use Rattle.m4_engine.specs.declared.role.ListEnd.TheVariants as ends
use Rattle.m4_engine.specs.declared.turned.Turned.TheVariants as turns
use Rattle.m4_engine.specs.declared.lookahead.Lookahead.TheVariants as aheads
use Rattle.m4_engine.specs.Engine.{IsReady}
use Rattle.m4_engine.specs.Turns.{Turns}
use Rattle.m4_engine.proofs.ListEnds.{argument_turn, end_inside}
use Rattle.m4_engine.proofs.Passing.{past, past_nothing, seen_as}
use Rattle.m4_engine.proofs.Turning.{end_turn, broken_turn, undecided_turn}
use Rattle.m4_engine.proofs.machine.Machine.rare_turn.Goals as goal

-- a comma that ends an argument
pub returns-in_ok-end_argument-in-EndsArgument-clause-turns : goal.returns-in_ok-end_argument-in-EndsArgument-clause-turns
returns-in_ok-end_argument-in-EndsArgument-clause-turns c = λ i w.
    let e = c.args.self.now in
    let k = c.args.input.now in
    let w = seen_as c.args.lookahead aheads.EndsArgument c.args.next.now e i k c.in-EndsArgument.is w in
    argument_turn e c.end_argument.new.self i k w.ready w.token.0 w.token.1.1 (w.after ∙ ap (λ n. past n i) w.token.1.0)
    c.in_ok-end_argument-in-EndsArgument.ensures.engine

-- the innermost call has no open parenthesis in its argument
pub end_argument-requires : goal.end_argument-requires
end_argument-requires c =
    let e = c.args.self.now in
    let k = c.args.input.now in
    let i = c.requires.seen.0 in
    let w = c.requires.seen.1 in
    let w = seen_as c.args.lookahead aheads.EndsArgument c.args.next.now e i k c.in-EndsArgument.is w in
    (end_inside ends.Argument e.open_calls e.state i.pending.may_follow (text_of i.pending) w.token.1.1).0

pub returns-in-Undecided-clause-turns : goal.returns-in-Undecided-clause-turns
returns-in-Undecided-clause-turns c = λ i w.
    let e = c.args.self.now in
    let k = c.args.input.now in
    let w = seen_as c.args.lookahead aheads.Undecided c.args.next.now e i k c.in-Undecided.is w in
    subst (λ (v : Held). Turns (Ok turns.NeedsMore) e e i v) (sym (past_nothing w.len i k w.token.1.0 w.token.0 w.after))
    (undecided_turn e i w.ready w.token.0 w.token.1.1)

pub returns-in-End-clause-turns : goal.returns-in-End-clause-turns
returns-in-End-clause-turns c = λ i w.
    let e = c.args.self.now in
    let k = c.args.input.now in
    let w = seen_as c.args.lookahead aheads.End c.args.next.now e i k c.in-End.is w in
    subst (λ (v : Held). Turns c.take_end.result e c.take_end.new.self i v) (sym (past_nothing w.len i k w.token.1.0 w.token.0 w.after))
    (end_turn e c.take_end.new.self 0 i c.take_end.result w.ready w.token.0 w.token.1.1 c.take_end.ensures.makes)

pub returns-in-UnendedString-clause-turns : goal.returns-in-UnendedString-clause-turns
returns-in-UnendedString-clause-turns c = λ i w.
    let e = c.args.self.now in
    let k = c.args.input.now in
    let w = seen_as c.args.lookahead aheads.UnendedString c.args.next.now e i k c.in-UnendedString.is w in
    let same : k ≡ i = past_nothing w.len i k w.token.1.0 w.token.0 w.after in
    subst (λ (v : Held). Turns c.take_unended.result e c.take_unended.new.self v k) same
    (broken_turn e c.take_unended.new.self InString c.line.result k c.take_unended.result
    (subst IsReady (sym same) w.ready) (subst (λ (v : Held). (v.pending).definition ≡ None) (sym same) w.token.0)
    (subst (λ (v : Held). scan e.state.quotes e.state.comments (v.pending).may_follow (text_of v.pending) ≡ Broken InString) (sym same) w.token.1.1)
    c.line.ensures c.take_unended.ensures.makes)

pub returns-in-UnendedComment-clause-turns : goal.returns-in-UnendedComment-clause-turns
returns-in-UnendedComment-clause-turns c = λ i w.
    let e = c.args.self.now in
    let k = c.args.input.now in
    let w = seen_as c.args.lookahead aheads.UnendedComment c.args.next.now e i k c.in-UnendedComment.is w in
    let same : k ≡ i = past_nothing w.len i k w.token.1.0 w.token.0 w.after in
    subst (λ (v : Held). Turns c.take_unended-in-UnendedComment.result e c.take_unended-in-UnendedComment.new.self v k) same
    (broken_turn e c.take_unended-in-UnendedComment.new.self InComment c.line-in-UnendedComment.result k c.take_unended-in-UnendedComment.result
    (subst IsReady (sym same) w.ready) (subst (λ (v : Held). (v.pending).definition ≡ None) (sym same) w.token.0)
    (subst (λ (v : Held). scan e.state.quotes e.state.comments (v.pending).may_follow (text_of v.pending) ≡ Broken InComment) (sym same) w.token.1.1)
    c.line-in-UnendedComment.ensures c.take_unended-in-UnendedComment.ensures.makes)

pub take_definition-requires : goal.take_definition-requires
take_definition-requires c =
    let e = c.args.self.now in
    let k = c.args.input.now in
    let i = c.requires.seen.0 in
    let w = c.requires.seen.1 in
    let w = seen_as c.args.lookahead aheads.Definition c.args.next.now e i k c.in-Definition.is w in
    record {
      ready = subst IsReady (sym w.after) w.ready;
      first = subst (λ (v : Held). (v.pending).definition ≢ None) (sym w.after) w.token;
    }

pub returns-in-Definition-clause-turns : goal.returns-in-Definition-clause-turns
returns-in-Definition-clause-turns c = λ i w.
    let e = c.args.self.now in
    let k = c.args.input.now in
    let w = seen_as c.args.lookahead aheads.Definition c.args.next.now e i k c.in-Definition.is w in
    subst (λ (v : Held). Turns c.take_definition.result e c.take_definition.new.self v c.take_definition.new.input) w.after
    c.take_definition.ensures.turns
