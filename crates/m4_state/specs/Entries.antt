-- The entries of the code's table, seen as pairs in byte order.
-- Not believed: it only views entries in any order as one list of pairs.
use Rattle.std.specs.Prelude.{◌≡◌, ◌<◌, ℕ, List, [], ◌∷◌, Option, IfSome, length, position, nat_eq, slice_index_or}
use Rattle.std.specs.Cmp.Lexicographic.{pointwise}
use Rattle.std.specs.FinMap.{put}
use Rattle.std.specs.Map.{keys_of}
use Rattle.indexmap.specs.IndexMap.{IndexMap, IsUnique}
use Rattle.m4_state.specs.declared.definition.Def.{Def}
use Rattle.m4_state.specs.Table.{Pair, Pairs, byte_order}

-- a name and its definitions, as the hash table stores them
abbrev pub Entry : Type 0
Entry = List ℕ × List Def

-- the pair that an entry means
abbrev pub pair_of : Entry → Pair
pair_of e = (e.0, e.1)

-- that of the entry at a place
abbrev pub pair_at : List Entry → ℕ → Pair
pair_at es i = pair_of (slice_index_or es i ([], []))

-- and its name
abbrev pub name_at : List Entry → ℕ → List ℕ
name_at es i = (pair_at es i).0

-- each entry inserted in its place
abbrev pub in_order : List Entry → Pairs
in_order [] = []
in_order (e ∷ es) = put byte_order e.0 e.1 (in_order es)

-- the place of a name's entry, if it has one
pub record IsPlace {S : Type 0} (place : Option ℕ) (name : List ℕ) (m : IndexMap (List ℕ) (List Def) S) : Type 0 where
  pub index : place ≡ position (pointwise nat_eq name) (keys_of m.entries)
  pub within : IfSome place (λ i. i < length m.entries)
  pub unique : IsUnique (pointwise nat_eq) m
