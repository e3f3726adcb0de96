use Rattle.std.proofs.Common.{◌≡◌, List, ℕ, arith, ◌++◌, ◌∙◌, ◌<◌, length, ap, sym, append-nil, map}
use Rattle.m4_builtins.specs.Args.{text_of_arg}
use Rattle.m4_builtins.specs.Subst.{nth_text}
use Rattle.m4_builtins.proofs.Joins.{nth_within, nth_beyond}
use Rattle.m4_builtins.proofs.substitute.push_numbered.Goals as goal

-- the argument is there
pub returns-in_ok-push_argument : goal.returns-in_ok-push_argument
returns-in_ok-push_argument c m e =
    let name = c.args.name.now in
    let list = c.args.list.now in
    let same : c.in-Some.n ≡ m = rw c.in-Some.is at e in
    c.in_ok-push_argument.ensures
    ∙ ap (λ (x : List ℕ). c.args.out.now ++ x)
    (sym (nth_within name list c.in-Some.n c.index-list-n.result c.if-n-eq0.false c.if-n-count.true c.index-list-n.is)
    ∙ ap (λ (k : ℕ). nth_text name (map text_of_arg list) k) same)

-- its number is above their count
pub returns-else-n-count : goal.returns-else-n-count
returns-else-n-count c m e =
    let same : c.in-Some.n ≡ m = rw c.in-Some.is at e in
    let above : length c.args.list.now < m = omega arith in
    sym (ap (λ (x : List ℕ). c.args.out.now ++ x) (nth_beyond c.args.name.now c.args.list.now m above) ∙ append-nil c.args.out.now)
