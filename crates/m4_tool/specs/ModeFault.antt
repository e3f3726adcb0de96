-- The messages and statuses for a mode that did not do its work.
-- Believed. Words: frozen_line, fault_line, status_of_fault, status_of.
-- own: all of it; the manual has no such modes.
use Rattle.std.specs.Prelude.{ℕ, List, [], ◌++◌, codes, decimal, Result, Ok, Err}
use Rattle.m4_frozen.specs.declared.fault.FrozenFault.{FrozenFault}
use Rattle.m4_frozen.specs.declared.fault.FrozenKind.{FrozenKind}
use Rattle.m4_frozen.specs.declared.fault.FrozenKind.TheVariants as kinds
use Rattle.m4_frozen.specs.declared.fault.WriteFault.{WriteFault}
use Rattle.m4_frozen.specs.declared.fault.WriteFault.TheVariants as writes
use Rattle.m4_engine.specs.Run.{frozen_status}
use Rattle.m4_tool.specs.declared.fault.ModeFault.{ModeFault}
use Rattle.m4_tool.specs.declared.fault.ModeFault.TheVariants as faults
use Rattle.m4_tool.specs.declared.followed.Failure.TheVariants as failures
use Rattle.m4_tool.specs.Failure.{failure_line}

-- a write that failed, or an allocation that failed
abbrev pub fault_of_write : WriteFault → ModeFault
fault_of_write writes.Write = faults.Write
fault_of_write writes.OutOfMemory = faults.OutOfMemory

-- the number and the name of a kind
abbrev pub kind_text : FrozenKind → List ℕ
kind_text kinds.NoVersion = codes "F1 NoVersion"
kind_text kinds.Newer = codes "F2 Newer"
kind_text kinds.VersionZero = codes "F3 VersionZero"
kind_text kinds.SecondVersion = codes "F4 SecondVersion"
kind_text kinds.UnknownDirective = codes "F5 UnknownDirective"
kind_text kinds.DigitExpected = codes "F6 DigitExpected"
kind_text kinds.NumberTooLarge = codes "F7 NumberTooLarge"
kind_text kinds.SeparatorExpected = codes "F8 SeparatorExpected"
kind_text kinds.PrematureEnd = codes "F9 PrematureEnd"
kind_text kinds.Read = codes "F10 Read"
kind_text kinds.OutOfMemory = codes "F11 OutOfMemory"

-- the place of the fault; a failed reader, or running out of memory, has no place in the file
abbrev pub place_of : FrozenKind → ℕ → List ℕ
place_of kinds.Read offset = []
place_of kinds.OutOfMemory offset = []
place_of kind offset = codes " at byte " ++ decimal offset

-- the line that reports the fault of a frozen file
abbrev pub frozen_line : List ℕ → FrozenFault → List ℕ
frozen_line file f =
    codes "m4: " ++ (file ++ (codes ": " ++ (kind_text f.kind ++ (place_of f.kind f.offset ++ codes "\n"))))

-- the line that reports the fault of a file
abbrev pub fault_line : List ℕ → ModeFault → List ℕ
fault_line file (faults.Frozen f) = frozen_line file f
fault_line file faults.Issues =
    codes "m4: " ++ (file ++ (codes ": " ++ (codes "K1 text would be issued at reload" ++ codes "\n")))
fault_line file faults.Write = failure_line failures.Write
fault_line file faults.OutOfMemory = failure_line failures.OutOfMemory

-- for a frozen file the status of a run that starts from it
abbrev pub status_of_fault : ModeFault → ℕ
status_of_fault (faults.Frozen f) = frozen_status f.kind
status_of_fault fault = 1

-- 0 if the mode did its work
abbrev pub status_of : Result (Unit {0}) ModeFault → ℕ
status_of (Ok done) = 0
status_of (Err fault) = status_of_fault fault
