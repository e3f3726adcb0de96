use Rattle.std.proofs.Common.{◌≡◌, sym, subst, length, nat_lt, false, true, rules}
use Rattle.m4_state.specs.Columns.{least_of, most_of}
use Rattle.m4_builtins.specs.Acted.{Acted}
use Rattle.m4_builtins.specs.Act.{is_above, row, goes_on}
use Rattle.m4_builtins.specs.Steps.{LeadsTo}
use Rattle.m4_builtins.proofs.RowsTaken.{acts_plainly, acts_warning}
use Rattle.m4_builtins.proofs.act.act_builtin.Goals as goal

-- the arguments are enough and not too many
pub returns-then-not-is_above-clause-leads : goal.returns-then-not-is_above-clause-leads
returns-then-not-is_above-clause-leads c =
    let b = c.args.builtin in
    let list = c.args.list.now in
    let p = c.args.place.now in
    let s = c.args.state.now in
    let enough : nat_lt (length list) (least_of b) ≡ false = search rules in
    let few : is_above (most_of b) (length list) ≡ false = search rules in
    subst (λ (r : Acted). LeadsTo r p c.row-2.new.state c.row-2.new.effect c.in_ok-step.step)
    (sym (acts_plainly (goes_on list p s) b list p s enough few)) c.in_ok-step.ensures.leads

-- some are above the most
pub returns-in_ok-add_warning_first-in-Done-clause-leads : goal.returns-in_ok-add_warning_first-in-Done-clause-leads
returns-in_ok-add_warning_first-in-Done-clause-leads c =
    let b = c.args.builtin in
    let list = c.args.list.now in
    let p = c.args.place.now in
    let s = c.args.state.now in
    let enough : nat_lt (length list) (least_of b) ≡ false = search rules in
    let more : is_above (most_of b) (length list) ≡ true = search rules in
    let does = subst (λ step. LeadsTo (row (goes_on list p s) b list p s) p c.row-2.new.state c.row-2.new.effect step)
    c.in-Done.is c.in_ok-step.ensures.leads in
    acts_warning (goes_on list p s) b list p s c.row-2.new.state c.row-2.new.effect enough does
    c.add_warning_first.new.self more c.in_ok-add_warning_first-in-Done.ensures
