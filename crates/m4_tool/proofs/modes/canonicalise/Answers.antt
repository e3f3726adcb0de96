use Rattle.std.proofs.Common.{Option, Some, None}
use Rattle.std.specs.Prelude.{IfSome}
use Rattle.m4_tool.proofs.modes.canonicalise.Goals as goal

-- what holds where there is one
if_some : {A : Type 0} (o : Option A) (P Q : A → Type 0) → IfSome o P → ((x : A) → P x → Q x) → IfSome o Q
if_some None P Q h f = tt
if_some (Some x) P Q h f = f x h

-- what was loaded is what the reader's file holds
pub returns-clause-ends : goal.returns-clause-ends
returns-clause-ends g c =
    if_some _ _ _ c.in_ok-loaded.ensures.loaded (λ script h. c.write_loaded-end.ensures.ends script (record { ended = h.0; loads = h.1 }))
