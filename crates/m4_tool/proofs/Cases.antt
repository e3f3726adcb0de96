-- Cases: names for the cases within the definitions of a line.
use Rattle.std.proofs.Common.{ℕ, List, ◌∷◌, Option, Some, None}
use Rattle.std.specs.Prelude.{option_map}
use Rattle.m4_state.specs.Device.{Script}
use Rattle.m4_engine.specs.File.{Source}
use Rattle.m4_tool.specs.Line.{Thawed, Starts, Missing}

-- within `all_of`
abbrev pub and_then : Option Source → Option (List Source) → Option (List Source)
and_then o sources = elim o [ None ↦ None | Some s ↦ option_map (λ ss. s ∷ ss) sources ]

-- within `thaw_in`
abbrev pub thawed_by : List ℕ → Option Script → Thawed
thawed_by name o = elim o [ None ↦ Missing name | Some script ↦ Starts (Some script) ]
