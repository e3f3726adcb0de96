-- The result for the bytes that were read is the result for the bytes of the reader's script.
use Rattle.std.proofs.Common.{◌≡◌, ℕ, Bool, true, false, List, [], ◌++◌, Option, Some, None, refl, sym, subst}
use Rattle.std.proofs.Common.{append_assoc, inl}
use Rattle.std.specs.Prelude.{IfSome}
use Rattle.std.proofs.lemmas.List.{append-nil}
use Rattle.m4_state.specs.Device.{Script, after_bytes, IsAtEnd, IsAtFault}
use Rattle.m4_frozen.specs.declared.loading.Loaded.{Loaded}
use Rattle.m4_frozen.specs.Directive.{Directive}
use Rattle.m4_frozen.specs.FaultAt.{ExactFault, FaultAt, IsSettledBy, IsFaultOfFailed}
use Rattle.m4_frozen.specs.Outcome.{HasFault, Loads}
use Rattle.m4_frozen.specs.Spells.{Spells}
use Rattle.m4_frozen.proofs.FirstFault.{spelled_no_fault}

-- a fact about the script, if there is none or if bytes were read first
by_remaining : (P : Script → Type 0) (at_first remaining : Option Script) (given : List ℕ)
    → at_first ≡ after_bytes given remaining
    → ((s : Script) → remaining ≡ Some s → P (record { bytes = given ++ s.bytes; fails = s.fails }))
    → IfSome at_first P
by_remaining P at_first None given e f = subst (λ (o : Option Script). IfSome o P) (sym e) tt
by_remaining P at_first (Some s) given e f = subst (λ (o : Option Script). IfSome o P) (sym e) (f s refl)

-- the fault of bytes that settle it
of_settled : (fails : Bool) (given more : List ℕ) (fault : ExactFault) → IsSettledBy given fault
    → HasFault fails (given ++ more) fault
of_settled false given more fault h = h more
of_settled true given more fault h = inl (λ others. rw (append_assoc given more others) (h (more ++ others)))

pub settled_of_reader : (at_first remaining : Option Script) (given : List ℕ) (fault : ExactFault)
    → at_first ≡ after_bytes given remaining → IsSettledBy given fault
    → IfSome at_first (λ s. HasFault s.fails s.bytes fault)
settled_of_reader at_first remaining given fault e h =
    by_remaining (λ s. HasFault s.fails s.bytes fault) at_first remaining given e
    (λ s k. of_settled s.fails given s.bytes fault h)

-- the script at the end
at_end : (remaining : Option Script) (s : Script) → IsAtEnd remaining → remaining ≡ Some s
    → (s.bytes ≡ []) × (s.fails ≡ false)
at_end remaining s h e = rw e at h

at_fault : (remaining : Option Script) (s : Script) → IsAtFault remaining → remaining ≡ Some s
    → (s.bytes ≡ []) × (s.fails ≡ true)
at_fault remaining s h e = rw e at h

-- the end was reached
pub ended_of_reader : (at_first remaining : Option Script) (given : List ℕ) (fault : ExactFault)
    → at_first ≡ after_bytes given remaining → IsAtEnd remaining → FaultAt given fault
    → IfSome at_first (λ s. HasFault s.fails s.bytes fault)
ended_of_reader at_first remaining given fault e end h =
    by_remaining (λ s. HasFault s.fails s.bytes fault) at_first remaining given e
    (λ s k. let p = at_end remaining s end k in rw (p.0, p.1, append-nil given) h)

pub loaded_of_reader : (at_first remaining : Option Script) (given : List ℕ) (loaded : Loaded)
    → at_first ≡ after_bytes given remaining → IsAtEnd remaining → Loads given loaded
    → IfSome at_first (λ s. (s.fails ≡ false) × Loads s.bytes loaded)
loaded_of_reader at_first remaining given loaded e end h =
    by_remaining (λ s. (s.fails ≡ false) × Loads s.bytes loaded) at_first remaining given e
    (λ s k. let p = at_end remaining s end k in (p.1, rw (p.0, append-nil given) h))

-- the reader failed
pub failed_of_reader : (at_first remaining : Option Script) (given : List ℕ) (fault : ExactFault)
    → at_first ≡ after_bytes given remaining → IsAtFault remaining → IsFaultOfFailed given fault
    → IfSome at_first (λ s. HasFault s.fails s.bytes fault)
failed_of_reader at_first remaining given fault e end h =
    by_remaining (λ s. HasFault s.fails s.bytes fault) at_first remaining given e
    (λ s k. let p = at_fault remaining s end k in rw (p.0, p.1, append-nil given) h)

-- bytes that have a fault are not spelled, unless the reader failed
not_spelled : (fails : Bool) (bytes : List ℕ) (fault : ExactFault) (ds : List Directive)
    → HasFault fails bytes fault → Spells ds bytes → fails ≡ true
not_spelled true bytes fault ds h p = refl
not_spelled false bytes fault ds h p = absurd (spelled_no_fault ds bytes fault p h.is)

pub refused_reported : (at_first : Option Script) (fault : ExactFault)
    → IfSome at_first (λ s. HasFault s.fails s.bytes fault)
    → IfSome at_first (λ s. (ds : List Directive) → Spells ds s.bytes → s.fails ≡ true)
refused_reported None fault h = tt
refused_reported (Some s) fault h = λ ds p. not_spelled s.fails s.bytes fault ds h p
