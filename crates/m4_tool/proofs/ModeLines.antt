-- The end of a line with a mode.
use Rattle.std.proofs.Common.{◌≡◌, ℕ, List, Option, Some, None, refl, sym, ap, ◌∙◌, subst}
use Rattle.std.specs.Prelude.{option_map, unwrap_or, Result, Ok, Err, IfSome, Bool, true, false}
use Rattle.m4_state.specs.Device.{Script, Puts, count_after}
use Rattle.m4_state.specs.declared.device.DeviceFault.{DeviceFault}
use Rattle.m4_engine.specs.File.{cannot_open}
use Rattle.m4_tool.specs.declared.fault.ModeFault.{ModeFault}
use Rattle.m4_tool.specs.declared.modes.Mode.{Mode}
use Rattle.m4_tool.specs.World.{Files}
use Rattle.m4_tool.specs.ModeFault.{fault_line, status_of}
use Rattle.m4_tool.specs.declared.fault.ModeFault.TheVariants as faults
use Rattle.m4_tool.specs.Modes.{IsOfDevice, ModeRuns, ReportsFault}
use Rattle.m4_tool.specs.FailureCounts.{Counts, counts}
use Rattle.m4_tool.specs.LineEnd.{Reports}
use Rattle.m4_tool.specs.LineRun.{FlushedAs, ModeCloses}
use Rattle.m4_tool.proofs.Counts.{flushed_grew, grew_after, grew_none, reported_by, rose_one, rose_then, then_any}
use Rattle.m4_tool.specs.LineMode.{FlushedOr, ModeFailedAs, ModeFollows, OnlyMessagesRose, closed_lines}
use Rattle.m4_tool.specs.LineMode.{closed_status, ends_of, fault_lines}
use Rattle.m4_tool.proofs.LineEnds.{reports-append, seen_from}

fault_reported : (end : Result (Unit {0}) ModeFault) (file : List ℕ) (m m' : Option (List ℕ)) (f f' : ℕ)
    → ReportsFault end file m m' f f' → Reports (fault_lines file end) m m' f f'
fault_reported (Ok done) file m m' f f' h = (h.0, grew_none f f' h.1)
fault_reported (Err fault) file m m' f f' h = (m', f', reported_by h.0 (fault_line file fault) m m' f f' h.1 h.2, (refl, grew_none f' f' refl))

-- a mode that wrote the line of its fault, and its last flush
fault_counted : (flushed : Bool) (put : Result (Unit {0}) DeviceFault) (o o1 o2 f f1 f2 w w2 : ℕ) → o1 ≡ o
    → f1 ≡ count_after put f → FlushedAs flushed (counts o1 o2 f1 f2 w w2)
    → FlushedOr flushed (OnlyMessagesRose (counts o o2 f f2 w w2)) (counts o o2 f f2 w w2)
fault_counted true put o o1 o2 f f1 f2 w w2 d p h = (h.0 ∙ d, h.2)
fault_counted false put o o1 o2 f f1 f2 w w2 d p h =
    then_any o o1 o2 f f1 f2 w w w2 (grew_none o o1 d, grew_after put f f1 p, grew_none w w refl) h.1

done_counted : (flushed : Bool) (o o1 o2 f f1 f2 w w2 : ℕ) → o1 ≡ o → f1 ≡ f → FlushedAs flushed (counts o1 o2 f1 f2 w w2)
    → ModeFailedAs (Ok tt) flushed (counts o o2 f f2 w w2)
done_counted true o o1 o2 f f1 f2 w w2 d p h = (h.0 ∙ d, h.1 ∙ p, h.2)
done_counted false o o1 o2 f f1 f2 w w2 d p h =
    then_any o o1 o2 f f1 f2 w w w2 (grew_none o o1 d, grew_none f f1 p, grew_none w w refl) h.1

mode_counted : (end : Result (Unit {0}) ModeFault) (flushed : Bool) (file : List ℕ) (m m1 : Option (List ℕ))
    (rf rf' o o1 o2 f f1 f2 w w2 : ℕ) → IsOfDevice end rf rf' o o1 → ReportsFault end file m m1 f f1
    → FlushedAs flushed (counts o1 o2 f1 f2 w w2) → ModeFailedAs end flushed (counts o o2 f f2 w w2)
mode_counted (Ok done) flushed file m m1 rf rf' o o1 o2 f f1 f2 w w2 d r h = done_counted flushed o o1 o2 f f1 f2 w w2 d.1 r.1 h
mode_counted (Err (faults.Frozen k)) flushed file m m1 rf rf' o o1 o2 f f1 f2 w w2 d r h = fault_counted flushed r.0 o o1 o2 f f1 f2 w w2 d.1 r.2 h
mode_counted (Err faults.Issues) flushed file m m1 rf rf' o o1 o2 f f1 f2 w w2 d r h = fault_counted flushed r.0 o o1 o2 f f1 f2 w w2 d.1 r.2 h
mode_counted (Err faults.Write) flushed file m m1 rf rf' o o1 o2 f f1 f2 w w2 d r h =
    rose_then o o1 o2 (rose_one o o1 d.1) (flushed_grew flushed (counts o1 o2 f1 f2 w w2) h).0
mode_counted (Err faults.OutOfMemory) flushed file m m1 rf rf' o o1 o2 f f1 f2 w w2 d r h = fault_counted flushed r.0 o o1 o2 f f1 f2 w w2 d.1 r.2 h

-- a mode on a file that was opened
pub mode_ends : (mode : Mode) (file : List ℕ) (script : Option Script) (given : Option Script) (rf rf' : ℕ)
    (o o1 o2 m m1 m2 : Option (List ℕ)) (of of1 of2 f f1 f2 wf wf' : ℕ) (status answer : ℕ) (w w' : Option Files)
    → Some script ≡ option_map (λ s. let p : Option Script = Some s in p) given
    → ModeRuns (ends_of mode) file (record { script = script; failures_old = rf; failures_new = rf' })
    (record { old = o; new = o1; failures_old = of; failures_new = of1 })
    (record { old = m; new = m1; failures_old = f; failures_new = f1 }) status
    → ModeCloses status answer o1 o2 m1 m2 f1 f2 (counts of1 of2 f1 f2 wf wf') → w' ≡ w
    → ModeFollows mode file given answer (seen_from o o2 m m2 f f2 w w') (counts of of2 f f2 wf wf')
mode_ends mode file script None rf rf' o o1 o2 m m1 m2 of of1 of2 f f1 f2 wf wf' status answer w w' e r k q = absurd cc
mode_ends mode file script (Some s) rf rf' o o1 o2 m m1 m2 of of1 of2 f f1 f2 wf wf' status answer w w' e r k q =
    let is : script ≡ Some s = ap (λ (p : Option (Option Script)). unwrap_or p None) e in
    let output = subst (λ (p : Option Script). IfSome p (λ x. ends_of mode r.end x o o1)) is r.output in
    let lines = subst (λ (n : ℕ). Reports (closed_lines n k.flushed) m1 m2 f1 f2) r.status k.reports in
    record {
      end = r.end;
      flushed = k.flushed;
      is_status = k.is_status ∙ ap (λ (n : ℕ). closed_status n k.flushed) r.status;
      output = subst (λ (x : Option (List ℕ)). ends_of mode r.end s o x) (sym k.output) output;
      messages = reports-append (fault_lines file r.end) (closed_lines (status_of r.end) k.flushed) m m1 m2 f f1 f2
          (fault_reported r.end file m m1 f f1 r.messages) lines;
      counted = mode_counted r.end k.flushed file m m1 rf rf' of of1 of2 f f1 f2 wf wf' r.device r.messages k.counted;
      files = q;
    }

-- a mode on a file that can't be opened
pub mode_missed : (mode : Mode) (file : List ℕ) (given : Option Script) (put : Result (Unit {0}) DeviceFault)
    (o o' m m1 m2 : Option (List ℕ)) (f f1 f2 : ℕ) (answer : ℕ) (w w' : Option Files) (c d : Counts)
    → None ≡ option_map (λ s. let p : Option Script = Some s in p) given → Puts put m m1 (cannot_open file) → f1 ≡ count_after put f
    → ModeCloses 1 answer o o' m1 m2 f1 f2 c → w' ≡ w
    → ModeFollows mode file given answer (seen_from o o' m m2 f f2 w w') d
mode_missed mode file None put o o' m m1 m2 f f1 f2 answer w w' c d e p n k q = record {
  is_status = k.is_status;
  output = k.output;
  messages = (m1, f1, reported_by put (cannot_open file) m m1 f f1 p n, (k.reports.0, k.reports.1));
  files = q;
}
mode_missed mode file (Some x) put o o' m m1 m2 f f1 f2 answer w w' c d e p n k q = absurd cc
