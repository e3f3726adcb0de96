use Rattle.std.proofs.Common.{◌≡◌, ◌++◌, [], ◌∷◌, drop, map}
use Rattle.m4_builtins.specs.QuotesView.{pair_of}
use Rattle.m4_builtins.specs.Args.{texts_of, quoted, joined_by}
use Rattle.m4_builtins.proofs.Joins.{joined_rest}
use Rattle.m4_builtins.proofs.substitute.push_list.Given as goal

abbrev pub invariant-loop-arg : goal.invariant-loop-arg
invariant-loop-arg l = l.out ++ joined_rest l.first (l.separator ∷ []) (map (quoted (pair_of l.quotes)) (texts_of (drop l.arg-index l.args)))
    ≡ l.fn.out ++ joined_by (l.separator ∷ []) (map (quoted (pair_of l.quotes)) (texts_of l.args))
