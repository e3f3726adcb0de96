-- ReadsAs: the value that the code reads from an argument, with the warnings that it adds.
-- Not believed: it only connects the code of `eval`, which reads one argument after another, with the
-- definition, which continues with all of them.
use Rattle.std.specs.Prelude.{◌≡◌, ℕ, List, Option, Some, None}
use Rattle.m4_builtins.specs.declared.effect.Effect.{Effect}
use Rattle.m4_builtins.specs.Acted.{only_warning, warning_first}
use Rattle.m4_builtins.specs.Warned.{with_messages}

-- the effect after warnings: `does` with the value that was read, or nothing without one
abbrev pub after : {A : Type 0} → List ℕ → (A → Effect) → Option A → Effect
after warnings does None = only_warning warnings
after warnings does (Some x) = warning_first warnings (does x)

-- the effect has more warnings, and continuing with the argument is continuing with this answer
abbrev pub ReadsAs : {A : Type 0} → ((A → Effect) → Effect) → Option A → Effect → Effect → Type 0
ReadsAs {A} argument answer before now =
    (warnings : List ℕ) × (now ≡ with_messages before warnings)
    × ((does : A → Effect) → argument does ≡ after warnings does answer)
