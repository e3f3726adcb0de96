-- A directive of the code, as the definitions see it.
-- Not believed: each variant keeps its name, its number and the bytes of its strings.
-- Manual: "Frozen file format". Words: directive_of, IsJoined.
use Rattle.std.specs.Prelude.{◌≤◌, length, take, drop}
use Rattle.m4_frozen.specs.declared.directive.Directive.{Directive as CodeDirective}
use Rattle.m4_frozen.specs.declared.directive.Directive.TheVariants as code
use Rattle.m4_frozen.specs.Directive.{Directive, Quotes, Comments, Text, Builtin, Diversion}

-- the directive without the place of its strings in the file
abbrev pub directive_of : CodeDirective → Directive
directive_of (code.Quotes begin end) = Quotes begin.now end.now
directive_of (code.Comments begin end) = Comments begin.now end.now
directive_of (code.Text both middle) = Text (take middle both.now) (drop middle both.now)
directive_of (code.Builtin name builtin) = Builtin name.now builtin.now
directive_of (code.Diversion number text) = Diversion number text.now

-- the name of a text is within the bytes that hold both
abbrev pub IsJoined : CodeDirective → Type 0
IsJoined (code.Text both middle) = middle ≤ length both.now
IsJoined (code.Quotes begin end) = Unit {0}
IsJoined (code.Comments begin end) = Unit {0}
IsJoined (code.Builtin name builtin) = Unit {0}
IsJoined (code.Diversion number text) = Unit {0}
