-- A refusal that stays is settled by the bytes that came, whose count gives its place.
use Rattle.std.proofs.Common.{ℕ, List, ◌++◌, ap, ◌∙◌, inr}
use Rattle.m4_frozen.specs.declared.fault.FrozenFault.{FrozenFault}
use Rattle.m4_frozen.specs.ReaderSteps.{fault_of}
use Rattle.m4_frozen.proofs.Answered.{settled_if_stays}
use Rattle.m4_frozen.proofs.WindowRead.{place_of}
use Rattle.m4_frozen.proofs.reading.read_window.Goals as goal

pub returns-in-Err-Refused : goal.returns-in-Err-Refused
returns-in-Err-Refused c = inr (λ read h dropped.
    let e = c.in-Err-Refused.refusal in
    let a = rw c.in-Err-Refused.field-0-is at c.in-Err-Refused.ensures in
    let r = rw c.bytes.ensures at (a read h) in
    let bytes : List ℕ = c.args.window.now.bytes in (
      fault_of (read ++ bytes) e,
      settled_if_stays (read ++ bytes) e r.0 r.1,
      c.fault_of.ensures ∙ ap (λ (n : ℕ). let g : FrozenFault = record { kind = e.kind; offset = n } in g)
          (place_of read bytes e.bytes_left c.args.window.now.dropped dropped r.2),
    ))
