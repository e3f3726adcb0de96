-- What is reported of a run that was not ended by its frozen file.
use Rattle.std.proofs.Common.{◌≡◌, ℕ, List, [], refl}
use Rattle.m4_engine.specs.declared.ending.Cause.{Cause}
use Rattle.m4_engine.specs.declared.ending.Cause.TheVariants as causes
use Rattle.m4_frozen.specs.declared.fault.FrozenFault.{FrozenFault}
use Rattle.m4_tool.specs.LineRun.{refused_line}

-- no line of a frozen file, where none was refused
pub refused_line-none : (file : List ℕ) (cause : Cause) → ((fault : FrozenFault) → cause ≡ causes.Frozen fault → ⊥)
    → refused_line file cause ≡ []
refused_line-none file (causes.Frozen fault) other = absurd (other fault refl)
refused_line-none file cause other = refl
