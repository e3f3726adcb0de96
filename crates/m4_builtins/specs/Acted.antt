-- Acted: the state and the effect of a call, and the forms that the builtins' rows use for them.
-- Believed. An effect has the fields of the code's record `Effect` (src/effect.rt).
-- Words: Acted, IsPushed, nothing, gives, expands, only_warning, warning_first, leaves, changes.
use Rattle.std.specs.Prelude.{ℕ, false, List, [], ◌++◌, Option, Some, None}
use Rattle.m4_state.specs.Definition.{IsDefinition}
use Rattle.m4_state.specs.State.{State}
use Rattle.m4_input.specs.declared.pushed.Pushed.{Pushed}
use Rattle.m4_input.specs.declared.pushed.Pushed.TheVariants as pushes
use Rattle.m4_builtins.specs.declared.effect.Effect.{Effect}

-- the state and the effect of a call
pub record Acted : Type 0 where
  pub state : State
  pub effect : Effect

-- a definition that is pushed is valid
abbrev pub IsPushed : Option Pushed → Type 0
IsPushed None = Unit {0}
IsPushed (Some (pushes.Text x)) = Unit {0}
IsPushed (Some (pushes.Definition d)) = IsDefinition d

-- nothing is left to do
abbrev pub nothing : Effect
nothing = record { push = None; messages = []; output = []; wrap = None; skip = false; exit = None }

-- the call expands to a value
abbrev pub gives : Pushed → Effect
gives v = record nothing { push = Some v }

-- the call expands to a text
abbrev pub expands : List ℕ → Effect
expands x = gives (pushes.Text x)

-- the call expands to nothing, with a message
abbrev pub only_warning : List ℕ → Effect
only_warning message = record nothing { messages = message }

-- with a message before the others
abbrev pub warning_first : List ℕ → Effect → Effect
warning_first x e = record e { messages = x ++ e.messages }

-- the state after a call, and its effect
abbrev pub leaves : State → Effect → Acted
leaves s e = record { state = s; effect = e }

-- the state changes and the call expands to nothing
abbrev pub changes : State → Acted
changes s = leaves s nothing
