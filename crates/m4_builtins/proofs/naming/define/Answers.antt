use Rattle.std.proofs.Common.{◌≡◌, ◌∷◌, rules, sym, subst}
use Rattle.std.specs.List.{AllByRecursion}
use Rattle.m4_state.specs.Definition.{IsDefinition}
use Rattle.m4_builtins.specs.declared.args.Arg.TheVariants.{Text}
use Rattle.m4_builtins.specs.Args.{IsArg}
use Rattle.m4_builtins.proofs.ActKeeps.{second_valid}
use Rattle.m4_builtins.proofs.naming.define.Goals as goal

-- the second argument is in order as a definition
pub define_borrowed-requires : goal.define_borrowed-requires
define_borrowed-requires c =
    let read : c.args.list.now ≡ Text c.in-Some.name.now ∷ c.in-Some.rest.now = search rules in
    let valid = subst (AllByRecursion IsArg) read c.requires.args in
    subst IsDefinition (sym c.in_ok-def.ensures) (second_valid c.in-Some.rest.now valid.1)
