-- Plain: tokens at the start of a text that expand to themselves.
-- Not believed: it only says which turns a run may make at once, by the tokens of `scan`. If more bytes may follow
-- (`m`), only tokens that they can't change are meant.
-- Words: IsPut, IsPlain, total, ArePlain, IsPlainRun, IsUndecided.
use Rattle.std.specs.Prelude.{◌≡◌, ℕ, ◌+◌, Bool, List, [], ◌∷◌, Some, take, drop, ◌⊎◌}
use Rattle.m4_state.specs.declared.definition.Def.{Def}
use Rattle.m4_state.specs.State.{State, top_of}
use Rattle.m4_input.specs.declared.token.Token.TheVariants.{Name, Byte}
use Rattle.m4_input.specs.declared.front.Answer.TheVariants.{Unknown}
use Rattle.m4_input.specs.declared.front.Scan.TheVariants.{Found, NeedsMore}
use Rattle.m4_input.specs.Token.{scan}
use Rattle.m4_input.specs.Paren.{paren_in}
use Rattle.m4_engine.specs.Collected.{IsText}

-- the first token, of n bytes, puts the text t: it is text, or a byte that is no other token
abbrev pub IsPut : State → Bool → ℕ → List ℕ → List ℕ → Type 0
IsPut s m n t x =
    IsText s m n t x ⊎ ((b : ℕ) × (scan s.quotes s.comments m x ≡ Found (Byte b) n) × (t ≡ b ∷ []))

-- the first token, of n bytes, puts all of itself
abbrev pub IsPlain : State → Bool → ℕ → List ℕ → Type 0
IsPlain s m n x = IsPut s m n (take n x) x

-- the number of bytes of tokens with these lengths
abbrev pub total : List ℕ → ℕ
total [] = 0
total (n ∷ ns) = n + total ns

-- the first tokens, of these lengths, are plain
abbrev pub ArePlain : State → Bool → List ℕ → List ℕ → Type 0
ArePlain s m [] x = Unit {0}
ArePlain s m (n ∷ ns) x = IsPlain s m n x × ArePlain s m ns (drop n x)

-- the first n bytes are plain tokens
abbrev pub IsPlainRun : State → Bool → ℕ → List ℕ → Type 0
IsPlainRun s m n x = (lens : List ℕ) × ArePlain s m lens x × (total lens ≡ n)

-- further bytes can change the first token, or decide whether a list follows a name that has a definition
abbrev pub IsUndecided : State → Bool → List ℕ → Type 0
IsUndecided s m x =
    (scan s.quotes s.comments m x ≡ NeedsMore)
    ⊎ ((n : ℕ) × (d : Def) × (scan s.quotes s.comments m x ≡ Found (Name (take n x)) n)
    × (top_of s (take n x) ≡ Some d) × (paren_in s.quotes s.comments m (drop n x) ≡ Unknown))
