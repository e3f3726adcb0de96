-- Writers that were flushed, or failed.
use Rattle.std.proofs.Common.{◌≡◌, ℕ, List, Option, inl, inr}
use Rattle.std.specs.Prelude.{Result, Ok, Err, OnOk}
use Rattle.m4_state.specs.Device.{count_after}
use Rattle.m4_tool.specs.declared.fault.ModeFault.{ModeFault}
use Rattle.m4_tool.specs.declared.fault.ModeFault.TheVariants as faults
use Rattle.m4_tool.specs.FailureCounts.{Grew}
use Rattle.m4_tool.specs.LineEnd.{IsShownSince}
use Rattle.m4_tool.specs.Modes.{IsOfDevice, ReportsFault}
use Rattle.m4_tool.proofs.Counts.{grew_after, grew_none, grew_one, grew_then, rose_one, then_rose}

-- after a flush
pub shown_by : {E : Type 0} → (r : Result (Unit {0}) E) (base f g : ℕ) (shown contents : Option (List ℕ))
    → Grew base f → g ≡ count_after r f → OnOk r (shown ≡ contents) → IsShownSince base shown contents g
shown_by (Ok x) base f g shown contents a e h = record { grew = grew_then base f g a (grew_none f g e); shows = inl h }
shown_by (Err x) base f g shown contents a e h = record { grew = grew_then base f g a (grew_one f g e); shows = inr (then_rose base f g a (rose_one f g e)) }

-- after a write, and then a flush
pub shown_after_put : {E F : Type 0} → (p : Result (Unit {0}) F) (r : Result (Unit {0}) E) (base f g h : ℕ) (shown contents : Option (List ℕ))
    → Grew base f → g ≡ count_after p f → h ≡ count_after r g → OnOk r (shown ≡ contents) → IsShownSince base shown contents h
shown_after_put p r base f g h shown contents a e k s = shown_by r base g h shown contents (grew_then base f g a (grew_after p f g e)) k s

-- the output and the messages of a mode
pub mode_output_grew : (end : Result (Unit {0}) ModeFault) (r r' f g : ℕ) → IsOfDevice end r r' f g → Grew f g
mode_output_grew (Ok done) r r' f g h = grew_none f g h.1
mode_output_grew (Err (faults.Frozen x)) r r' f g h = grew_none f g h.1
mode_output_grew (Err faults.Issues) r r' f g h = grew_none f g h.1
mode_output_grew (Err faults.Write) r r' f g h = grew_one f g h.1
mode_output_grew (Err faults.OutOfMemory) r r' f g h = grew_none f g h.1

pub mode_messages_grew : (end : Result (Unit {0}) ModeFault) (file : List ℕ) (old new : Option (List ℕ)) (f g : ℕ)
    → ReportsFault end file old new f g → Grew f g
mode_messages_grew (Ok done) file old new f g h = grew_none f g h.1
mode_messages_grew (Err fault) file old new f g h = grew_after h.0 f g h.2
