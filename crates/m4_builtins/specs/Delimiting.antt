-- Delimiting: the builtins that set quotes and comment delimiters.
-- Believed. Manual: "Changing the quote characters", "Changing the comment delimiters".
-- Words: changequote, changecom.
use Rattle.std.specs.Prelude.{List, [], ◌∷◌}
use Rattle.m4_state.specs.Delimiters.{default_quotes}
use Rattle.m4_state.specs.State.{State, with_quotes, with_comments}
use Rattle.m4_builtins.specs.declared.args.Arg.{Arg}
use Rattle.m4_builtins.specs.Args.{text_of_arg, text_at}

-- `changequote`: without arguments the defaults; otherwise as a frozen file sets quotes
abbrev pub changequote : List Arg → State → State
changequote [] s = record s { quotes = default_quotes }
changequote (a ∷ rest) s = with_quotes s (text_of_arg a) (text_at rest 0)

-- `changecom`: without arguments none; otherwise as a frozen file sets comment delimiters
abbrev pub changecom : List Arg → State → State
changecom list s = with_comments s (text_at list 0) (text_at list 1)
