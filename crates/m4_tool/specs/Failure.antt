-- Failure: the line that reports a failure of a device or of an allocation, and the status after it.
-- Believed: public contracts cite it. Words: failure_line, failure_lines, status_after.
-- own: the texts.
use Rattle.std.specs.Prelude.{ℕ, List, [], ◌∷◌, Option, Some, None, codes}
use Rattle.m4_tool.specs.declared.followed.Failure.{Failure}
use Rattle.m4_tool.specs.declared.followed.Failure.TheVariants as failures

-- the line that is added for what failed; none if the line for a frozen file reports it, or failed itself
abbrev pub failure_lines : Option Failure → List (List ℕ)
failure_lines (Some failures.Read) = codes "m4: read fault\n" ∷ []
failure_lines (Some failures.Write) = codes "m4: write fault\n" ∷ []
failure_lines (Some failures.OutOfMemory) = codes "m4: out of memory\n" ∷ []
failure_lines failure = []

-- that line; it is empty if there is none
abbrev pub failure_line : Failure → List ℕ
failure_line failure = elim (failure_lines (Some failure)) [ [] ↦ [] | line ∷ lines ↦ line ]

-- the status: 1 if something failed, otherwise that of the run
abbrev pub status_after : Option Failure → ℕ → ℕ
status_after None status = status
status_after (Some failure) status = 1
