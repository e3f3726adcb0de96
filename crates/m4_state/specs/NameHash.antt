-- What a name feeds the hasher of the table.
-- Not believed: equal names are fed alike, and how well unequal ones are told apart is measured.
use Rattle.std.specs.Prelude.{ℕ, ◌-◌, nat_lt, if◌then◌else◌, List, [], ◌∷◌, length, take, drop}

-- the first eight bytes and the last eight
abbrev pub two_pieces : List ℕ → List (List ℕ)
two_pieces name = take 8 name ∷ drop (length name - 8) name ∷ []

-- pieces of eight bytes, each four bytes after the one before it, and the last eight: a byte in the middle is in two
abbrev pub pieces : List ℕ → List (List ℕ)
pieces [] = [] ∷ []
pieces (a ∷ []) = (a ∷ []) ∷ []
pieces (a ∷ b ∷ []) = (a ∷ b ∷ []) ∷ []
pieces (a ∷ b ∷ c ∷ []) = (a ∷ b ∷ c ∷ []) ∷ []
pieces (a ∷ b ∷ c ∷ d ∷ rest) =
    if nat_lt 12 (length (a ∷ b ∷ c ∷ d ∷ rest)) then take 8 (a ∷ b ∷ c ∷ d ∷ rest) ∷ pieces rest
    else if nat_lt 8 (length (a ∷ b ∷ c ∷ d ∷ rest)) then two_pieces (a ∷ b ∷ c ∷ d ∷ rest)
    else (a ∷ b ∷ c ∷ d ∷ rest) ∷ []
