-- Calls: the definitions that an open call holds stay in order.
use Rattle.std.proofs.Common.{◌≡◌, ℕ, List, ◌∷◌, ◌++◌, [], subst, sym, refl}
use Rattle.std.specs.List.{AllByRecursion}
use Rattle.m4_state.proofs.Tables.{AllByRecursion-push}
use Rattle.m4_builtins.specs.declared.args.Arg.{Arg}
use Rattle.m4_builtins.specs.declared.args.Arg.TheVariants.{Text}
use Rattle.m4_builtins.specs.Args.{IsArg}
use Rattle.m4_engine.specs.Args.{argument_of}

pub done_valid : (xs ys : List Arg) (a : Arg) → ys ≡ xs ++ a ∷ [] → AllByRecursion IsArg xs → IsArg a → AllByRecursion IsArg ys
done_valid xs ys a e h i = subst (AllByRecursion IsArg) (sym e) (AllByRecursion-push IsArg xs a h i)

-- an argument without definitions is its text
pub text_argument : (x : List ℕ) → argument_of x [] ≡ Text x
text_argument [] = refl
text_argument (b ∷ x) = refl
