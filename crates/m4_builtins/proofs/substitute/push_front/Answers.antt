use Rattle.std.proofs.Common.{map}
use Rattle.m4_builtins.specs.QuotesView.{pair_of}
use Rattle.m4_builtins.specs.Args.{text_of_arg}
use Rattle.m4_builtins.proofs.Joins.{front_plain, front_dollar}
use Rattle.m4_builtins.proofs.substitute.push_front.Goals as goal

pub returns-in-None-clause-pushed : goal.returns-in-None-clause-pushed
returns-in-None-clause-pushed c =
    front_plain c.args.name.now (map text_of_arg c.args.list.now) (pair_of c.args.quotes) c.args.out.now
    c.push_plain.new.out c.args.text.now c.split_at.result.1.now c.args.plain
    c.requires.count c.split_at.ensures.back c.in_ok-push_plain.ensures

pub returns-in_ok-used-in-Some-clause-pushed : goal.returns-in_ok-used-in-Some-clause-pushed
returns-in_ok-used-in-Some-clause-pushed c =
    front_dollar c.args.name.now (map text_of_arg c.args.list.now) (pair_of c.args.quotes) c.args.out.now
    c.push_plain.new.out c.push_dollar.new.out c.args.text.now c.split_at.result.1.now
    c.in-Some.after.now c.split_at-in-Some.result.1.now c.args.plain c.in-Some.field-0-0.now
    c.in_ok-used-in-Some.used
    c.requires.count c.split_at.ensures.back c.in_ok-push_plain.ensures
    c.in-Some.ensures.cases.0 c.in_ok-used-in-Some.ensures.used c.in_ok-used-in-Some.ensures.text c.split_at-in-Some.ensures.back
