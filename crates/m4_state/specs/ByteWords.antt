-- Bytes as one number.
-- Not believed: the byte order of names is `byte_order`, whatever the numbers are.
use Rattle.std.specs.Prelude.{◌≡◌, ℕ, zero, suc, ◌+◌, ◌*◌, ◌<◌, ◌≤◌, List, [], ◌∷◌, length, take, slice_index}

-- the number that the bytes spell after n, the first one the greatest
abbrev pub word : ℕ → List ℕ → ℕ
word n [] = n
word n (b ∷ bs) = word (n * 256 + b) bs

-- each is a byte
abbrev pub AreBytes : List ℕ → Type 0
AreBytes xs = (k : ℕ) → slice_index xs k < 256

-- the first n bytes, and zeros where there are none
abbrev pub filled : ℕ → List ℕ → List ℕ
filled zero xs = []
filled (suc n) [] = 0 ∷ filled n []
filled (suc n) (x ∷ xs) = x ∷ filled n xs

-- the first eight bytes of a name spell this number
pub record IsRank (name : List ℕ) (rank : ℕ) : Type 0 where
  pub bytes : AreBytes (filled 8 name)
  pub number : rank ≡ word 0 (take 8 (filled 8 name))

-- the first n bytes of both are the same
pub record BeginsAlike (n : ℕ) (first name : List ℕ) : Type 0 where
  pub within : n ≤ length name
  pub alike : take n name ≡ take n first
