-- GrammarView: the code's stack and value, seen as a place of the definitions.
-- Not believed: it only connects the code with specs/EvaluateSteps.antt. Words: place, NoSign,
-- NoneJoined, NotOpened, placed.
use Rattle.std.specs.Prelude.{ℕ, ◌<◌, List, [], ◌∷◌, Option, option_map, ⊤}
use Rattle.m4_eval.specs.declared.frame.Frame.{Frame}
use Rattle.m4_eval.specs.declared.frame.Frame.TheVariants.{Opened, Prefixed, Left}
use Rattle.m4_eval.specs.declared.grammar.Step.{Step}
use Rattle.m4_eval.specs.declared.value.Value.{Value}
use Rattle.m4_eval.specs.Expression.{level_of}
use Rattle.m4_eval.specs.EvaluateSteps.{Place}

abbrev pub place : List Frame → Option Value → Place
place w v = record { waiting = w; current = v }

-- the innermost frame is not a sign
abbrev pub NoSign : List Frame → Type 0
NoSign [] = ⊤
NoSign (Opened ∷ w) = ⊤
NoSign (Prefixed s ∷ w) = ⊥
NoSign (Left d o ∷ w) = ⊤

-- the innermost frame is not an operator that binds at least as tightly as a level
abbrev pub NoneJoined : ℕ → List Frame → Type 0
NoneJoined level [] = ⊤
NoneJoined level (Opened ∷ w) = ⊤
NoneJoined level (Prefixed s ∷ w) = ⊤
NoneJoined level (Left d o ∷ w) = level_of o < level

-- the innermost frame is not a parenthesis
abbrev pub NotOpened : List Frame → Type 0
NotOpened [] = ⊤
NotOpened (Opened ∷ w) = ⊥
NotOpened (Prefixed s ∷ w) = ⊤
NotOpened (Left d o ∷ w) = ⊤

-- what a token did, with the stack after it
abbrev pub placed : List Frame → Option Step → Option (Place × ℕ)
placed w r = option_map (λ s. (place w s.operand, s.more)) r
