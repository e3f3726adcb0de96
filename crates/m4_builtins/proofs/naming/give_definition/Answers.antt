use Rattle.std.proofs.Common.{rules}
use Rattle.m4_builtins.proofs.naming.give_definition.Goals as goal

pub returns-in_ok-push_one_quoted-in-Some-Text : goal.returns-in_ok-push_one_quoted-in-Some-Text
returns-in_ok-push_one_quoted-in-Some-Text c = search rules
