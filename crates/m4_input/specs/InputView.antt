-- InputView: the meaning of an input's fields, and the effects of the parts of its calls.
-- Not believed: it only connects the code with specs/Input.antt.
-- Words: view_of, IsHeld, fault_of.
use Rattle.std.specs.Prelude.{ℕ, IfSome}
use Rattle.m4_input.specs.declared.fault.InputFault.{InputFault}
use Rattle.m4_input.specs.declared.fault.InputFault.TheVariants as faults
use Rattle.m4_input.specs.declared.front.Unended.{Unended}
use Rattle.m4_input.specs.declared.front.Unended.TheVariants.{InString, InComment}
use Rattle.m4_input.specs.declared.input.Input.TheInside.{Inside}
use Rattle.m4_input.specs.Input.{Held, IsLasting}

-- the fields, with the parts of the text
abbrev pub view_of : Inside → Held
view_of i = record {
  pending = record {
    definition = i.definition;
    pushed = (i.text).pushed;
    unread = (i.text).unread;
    may_follow = i.may_follow;
    file = i.name;
    newlines = (i.text).newlines;
  };
  fault = i.fault;
}

-- the invariant of each input
abbrev pub IsHeld : Held → Type 0
IsHeld h = IfSome h.fault IsLasting

-- the fault of a token without an end
abbrev pub fault_of : Unended → ℕ → InputFault
fault_of InString line = faults.EndInString line
fault_of InComment line = faults.EndInComment line
