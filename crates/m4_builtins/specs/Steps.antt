-- Steps: how the code goes from one indirect call to the next in a loop.
-- Not believed: it only connects the code with `act`.
use Rattle.std.specs.Prelude.{◌≡◌, ◌<◌, ℕ, suc, [], Option, None, length}
use Rattle.std.specs.List.{AllByRecursion}
use Rattle.m4_state.specs.declared.definition.Def.TheVariants as defs
use Rattle.m4_state.specs.State.{State}
use Rattle.m4_builtins.specs.declared.indirect.Step.{Step}
use Rattle.m4_builtins.specs.declared.indirect.Step.TheVariants as steps
use Rattle.m4_builtins.specs.declared.place.Place.{Place}
use Rattle.m4_builtins.specs.Args.{IsArg}
use Rattle.m4_builtins.specs.declared.effect.Effect.{Effect}
use Rattle.m4_builtins.specs.Acted.{Acted, nothing}
use Rattle.m4_builtins.specs.Act.{act}

-- the effect of a call is complete, or is clear and the call is that of a builtin with these arguments
abbrev pub LeadsTo : Acted → Place → State → Effect → Step → Type 0
LeadsTo acted p s e steps.Done = acted ≡ record { state = s; effect = e }
LeadsTo acted p s e (steps.On b list) =
    (acted ≡ act (defs.Builtin b) [] list.now p s) × AllByRecursion IsArg list.now × (e ≡ nothing)

-- the call continues, if it does, with fewer than n arguments
abbrev pub IsShorter : ℕ → Step → Type 0
IsShorter n steps.Done = Unit {0}
IsShorter n (steps.On b list) = length list.now < n

-- the call continues, if it does, only if any number of arguments is allowed
abbrev pub IsUnbounded : Option ℕ → Step → Type 0
IsUnbounded most steps.Done = Unit {0}
IsUnbounded most (steps.On b list) = most ≡ None

-- the number of arguments that a step has left, with the builtin counted too
abbrev pub left_of : Step → ℕ
left_of steps.Done = 0
left_of (steps.On b list) = suc (length list.now)
