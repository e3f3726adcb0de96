-- CallView: a call of the code as a call of the definitions.
-- Not believed: it only maps the fields.
-- Words: call_view, IsOpenCall.
use Rattle.std.specs.Prelude.{◌≤◌, length, take}
use Rattle.std.specs.List.{AllByRecursion}
use Rattle.m4_state.specs.Definition.{IsDefinition}
use Rattle.m4_builtins.specs.Args.{IsArg}
use Rattle.m4_engine.specs.declared.call.OpenCall.TheInside.{Inside}
use Rattle.m4_engine.specs.Expansion.{Call}

-- a call whose arguments are being collected: those after the first `count` ones are of earlier calls
abbrev pub call_view : Inside → Call
call_view c = record {
  definition = c.definition;
  name = c.name;
  place = c.place;
  done = take c.count c.args.items;
  parentheses = c.parentheses;
  begun = c.begun;
  bytes = c.bytes;
  tokens = c.tokens.items;
}

-- the arguments are there, and the definitions among them are valid
pub record IsOpenCall (c : Inside) : Type 0 where
  pub valid : IsDefinition c.definition
  pub counted : c.count ≤ length c.args.items
  pub nested : c.parentheses ≤ length c.bytes
  pub done : AllByRecursion IsArg (call_view c).done
  pub tokens : AllByRecursion IsDefinition (call_view c).tokens
