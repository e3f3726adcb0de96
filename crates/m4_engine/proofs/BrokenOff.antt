-- BrokenOff: what is said of a run only if a writer or an allocation broke it off.
use Rattle.m4_engine.specs.declared.ending.Cause.{Cause}
use Rattle.m4_engine.specs.declared.ending.Cause.TheVariants as causes
use Rattle.m4_engine.specs.Writers.{IfBroken}

-- it holds if it is so of every run
pub if_broken : (cause : Cause) (P : Type 0) → P → IfBroken cause P
if_broken causes.Write P h = h
if_broken causes.OutOfMemory P h = h
if_broken cause P h = tt

-- it leads to what it implies, of the same run
pub broken_map : (cause : Cause) (P Q : Type 0) → (P → Q) → IfBroken cause P → IfBroken cause Q
broken_map causes.Write P Q f h = f h
broken_map causes.OutOfMemory P Q f h = f h
broken_map cause P Q f h = tt
