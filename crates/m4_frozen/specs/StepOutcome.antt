-- A predicate that compares results of the reader's private functions with the reader's own steps.
-- Not believed: the law `TiesReaderSteps` ties the steps to Spells and FaultAt.
-- Words: Gives.
use Rattle.std.specs.Prelude.{◌≡◌, Result, Ok, Err}
use Rattle.m4_frozen.specs.declared.fault.Refusal.{Refusal}

-- the result of a function, seen by view, is the result of the step
abbrev pub Gives : {X Y : Type 0} → (X → Y) → Result X Refusal → Result Y Refusal → Type 0
Gives view (Ok x) step = step ≡ Ok (view x)
Gives view (Err e) step = step ≡ Err e
