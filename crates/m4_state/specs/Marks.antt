-- Marks: which names may be in a table, by marks at places that their bytes decide.
-- Not believed: it only connects the code's table with specs/Table.antt. Words: place_of, is_marked, IsMarkedBy,
-- AreMarked, IsKept.
use Rattle.std.specs.Prelude.{◌≡◌, ◌+◌, ◌-◌, ◌*◌, ◌/◌, ◌%◌, ℕ, List, Bool, true, nat_lt, length, get_or}
use Rattle.std.specs.List.{AllByRecursion}
use Rattle.m4_state.specs.Table.{Pair, Pairs, IsTable, IsSizedTable}

-- the place of a name, by its length and three of its bytes
abbrev pub place_of : List ℕ → ℕ
place_of name =
    (get_or name 0 0 + 8 * (get_or name (length name / 2) 0
    + 8 * (get_or name (length name - 1) 0 + 8 * (length name % 8)))) % 4096

abbrev pub is_marked : List ℕ → List ℕ → Bool
is_marked marks name = nat_lt 0 (get_or marks (place_of name) 0)

abbrev pub IsMarkedBy : List ℕ → Pair → Type 0
IsMarkedBy marks pair = is_marked marks pair.0 ≡ true

abbrev pub AreMarked : List ℕ → Pairs → Type 0
AreMarked marks table = AllByRecursion (IsMarkedBy marks) table

-- what the code's table keeps of the pairs that it means
pub record IsKept (marks : List ℕ) (pairs : Pairs) : Type 0 where
  pub table : IsTable pairs
  pub sized : IsSizedTable pairs
  pub marked : AreMarked marks pairs
