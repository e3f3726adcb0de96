-- Unfinished: the bytes of a frozen file that was not written to its end.
-- Believed. Its law: `UnfinishedRefused`. Manual: "Frozen file format". Words: is_marked.
-- own: the mark.
use Rattle.std.specs.Prelude.{◌==◌, ℕ, Bool, true, List, [], ◌∷◌}

-- the bytes begin with the mark, 0, or there are none
abbrev pub is_marked : List ℕ → Bool
is_marked [] = true
is_marked (b ∷ bs) = b == 0
