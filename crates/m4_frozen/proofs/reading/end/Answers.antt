-- A refusal is the fault of the bytes that came, whose count gives its place.
use Rattle.std.proofs.Common.{ℕ, List, ◌++◌, ap, ◌∙◌}
use Rattle.m4_frozen.specs.declared.fault.FrozenFault.{FrozenFault}
use Rattle.m4_frozen.specs.ReaderSteps.{fault_of}
use Rattle.m4_frozen.proofs.Answered.{refusal_is_fault}
use Rattle.m4_frozen.proofs.WindowRead.{place_of}
use Rattle.m4_frozen.proofs.reading.end.Goals as goal

pub returns-in-Some : goal.returns-in-Some
returns-in-Some c = λ read ends within dropped.
    let given : List ℕ = read ++ c.args.window.now.bytes in
    let e = c.in-Some.refusal in (
      fault_of given e,
      refusal_is_fault e given (rw c.in-Some.is at ends).0,
      c.fault_of.ensures ∙ ap (λ (n : ℕ). let g : FrozenFault = record { kind = e.kind; offset = n } in g)
          (place_of read c.args.window.now.bytes e.bytes_left c.args.window.now.dropped dropped (rw c.in-Some.is at within)),
    )
