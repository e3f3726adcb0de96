-- Warned: the warnings of the code, each as a message of Messages, and an effect to which some are added.
-- Not believed: it only connects the code with specs/Messages.antt. Words: warned_of, with_messages.
use Rattle.std.specs.Prelude.{ℕ, List, ◌++◌}
use Rattle.m4_builtins.specs.declared.effect.Effect.{Effect}
use Rattle.m4_builtins.specs.declared.messages.Warning.{Warning}
use Rattle.m4_builtins.specs.declared.messages.Warning.TheVariants as about
use Rattle.m4_builtins.specs.declared.place.Place.{Place}
use Rattle.m4_builtins.specs.Messages.{too_few, excess, empty_number, not_numeric, bad_name, unknown_macro}
use Rattle.m4_builtins.specs.Messages.{unknown_builtin, unsupported, dropped, divide_by_zero, bad_expression}
use Rattle.m4_builtins.specs.Messages.{bad_status, out_of_range}

abbrev pub warned_of : Place → Warning → List ℕ
warned_of p (about.TooFew b) = too_few p b
warned_of p (about.Excess b) = excess p b
warned_of p (about.EmptyNumber b) = empty_number p b
warned_of p (about.NotNumeric b) = not_numeric p b
warned_of p (about.BadName b) = bad_name p b
warned_of p (about.UnknownMacro name) = unknown_macro p name.now
warned_of p (about.UnknownBuiltin name) = unknown_builtin p name.now
warned_of p (about.Unsupported name) = unsupported p name.now
warned_of p about.Dropped = dropped p
warned_of p about.DivideByZero = divide_by_zero p
warned_of p about.BadExpression = bad_expression p
warned_of p about.BadStatus = bad_status p
warned_of p about.OutOfRange = out_of_range p

-- the same effect with more messages after its own
abbrev pub with_messages : Effect → List ℕ → Effect
with_messages e more = record e { messages = e.messages ++ more }
