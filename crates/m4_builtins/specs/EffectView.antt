-- EffectView: the meaning of the fields of an effect.
-- Not believed: it only connects the code with specs/Acted.antt. Words: text_of_any, effect_view, IsEffect.
use Rattle.std.specs.Prelude.{◌≡◌, true, false, List, [], ℕ, Option, Some, None}
use Rattle.m4_input.specs.declared.pushed.Pushed.{Pushed}
use Rattle.m4_input.specs.declared.pushed.Pushed.TheVariants as pushes
use Rattle.m4_builtins.specs.declared.effect_buffer.EffectBuffer.TheInside.{Inside}
use Rattle.m4_builtins.specs.declared.effect_buffer.Push.{Push}
use Rattle.m4_builtins.specs.declared.effect_buffer.Push.TheVariants.{Buffer, Value}
use Rattle.m4_builtins.specs.declared.effect.Effect.{Effect}
use Rattle.m4_builtins.specs.declared.args.Arg.{Arg}
use Rattle.m4_builtins.specs.Args.{text_of_arg}
use Rattle.m4_builtins.specs.Acted.{IsPushed, nothing}

-- an argument that may be missing, as text
abbrev pub text_of_any : Option Arg → List ℕ
text_of_any None = []
text_of_any (Some a) = text_of_arg a

-- the value that is inserted, with this text in the buffer
abbrev pub inserted : Push → List ℕ → Option Pushed
inserted (Buffer false) text = None
inserted (Buffer true) text = Some (pushes.Text text)
inserted (Value value) text = Some value

abbrev pub effect_view : Inside → Effect
effect_view e = record {
  push = inserted e.push e.buffer;
  messages = e.messages.items;
  output = e.output.items;
  wrap = e.wrap;
  skip = e.skip;
  exit = e.exit;
}

-- without more to do, there is at most a value to insert, and a definition that is inserted is valid
pub record IsEffect (e : Inside) : Type 0 where
  pub more : e.has_more ≡ false → effect_view e ≡ record nothing { push = (effect_view e).push }
  pub push : IsPushed (effect_view e).push
