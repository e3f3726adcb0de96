-- Collected: tokens of a list that change the innermost open call alone.
-- Not believed: it only says which turns a run may make at once, by the tokens of `scan`.
-- Words: TakesByte, IsListEnd, IsLone, HaveRole, IsText, IsListToken, AreListTokens, bytes_in, IsListRun.
use Rattle.std.specs.Prelude.{◌≡◌, ℕ, ◌+◌, Bool, true, List, [], ◌∷◌, ◌++◌, drop, None, ◌⊎◌}
use Rattle.m4_state.specs.declared.delimiters.Delimiters.{Delimiters}
use Rattle.m4_state.specs.State.{State, top_of}
use Rattle.m4_input.specs.declared.token.Token.TheVariants.{Name, Str, Comment, Byte}
use Rattle.m4_input.specs.declared.front.Scan.TheVariants.{Found}
use Rattle.m4_input.specs.Token.{scan}
use Rattle.m4_engine.specs.Nesting.{GoOn}
use Rattle.m4_engine.specs.Expansion.{Call, Collecting, Expansion}
use Rattle.m4_engine.specs.declared.role.Role.{Role}
use Rattle.m4_engine.specs.declared.role.Role.TheVariants.{Closing, Separator}
use Rattle.m4_engine.specs.declared.role.ListEnd.{ListEnd}
use Rattle.m4_engine.specs.declared.role.ListEnd.TheVariants as ends
use Rattle.m4_engine.specs.Args.{role_of, take_byte}

-- a byte that belongs to no other token makes d of the open call c, and has no other effect
abbrev pub TakesByte : ℕ → Call → Call → Type 0
TakesByte b c d =
    (s : Expansion) → s.mode ≡ Collecting c
    → take_byte (role_of b c) b c s ≡ GoOn (record s { mode = Collecting d })

-- a byte of the open call c ends its argument or its list
abbrev pub IsListEnd : ListEnd → ℕ → Call → Type 0
IsListEnd ends.Argument b c = (role_of b c ≡ Separator) × (c.parentheses ≡ 0)
IsListEnd ends.List b c = (role_of b c ≡ Closing) × (c.parentheses ≡ 0)

-- a byte is a token of its own, whatever follows it
abbrev pub IsLone : Delimiters → Delimiters → ℕ → Type 0
IsLone q k b = (m : Bool) (y : List ℕ) → scan q k m (b ∷ y) ≡ Found (Byte b) 1

-- bytes that are tokens of their own, each with this role in the open call c
abbrev pub HaveRole : Role → Call → Delimiters → Delimiters → List ℕ → Type 0
HaveRole r c q k [] = Unit {0}
HaveRole r c q k (b ∷ x) = (IsLone q k b × (role_of b c ≡ r)) × HaveRole r c q k x

-- the first token, of n bytes, is a string, a comment, or a name without a definition: the text t
abbrev pub IsText : State → Bool → ℕ → List ℕ → List ℕ → Type 0
IsText s m n t x =
    (scan s.quotes s.comments m x ≡ Found (Str t) n)
    ⊎ (((scan s.quotes s.comments m x ≡ Found (Name t) n) × (top_of s t ≡ None))
    ⊎ (scan s.quotes s.comments m x ≡ Found (Comment t) n))

-- the first token, of n bytes, makes d of the open call c, and has no other effect
abbrev pub IsListToken : State → Bool → ℕ → Call → Call → List ℕ → Type 0
IsListToken s m n c d x =
    ((t : List ℕ) × IsText s m n t x × (d ≡ record c { begun = true; bytes = c.bytes ++ t }))
    ⊎ ((b : ℕ) × (scan s.quotes s.comments m x ≡ Found (Byte b) n) × TakesByte b c d)

-- the first tokens make d of the open call c; of each its length and the call after it
abbrev pub AreListTokens : State → Bool → List (ℕ × Call) → Call → Call → List ℕ → Type 0
AreListTokens s m [] c d x = d ≡ c
AreListTokens s m (t ∷ ts) c d x = IsListToken s m t.0 c t.1 x × AreListTokens s m ts t.1 d (drop t.0 x)

-- the number of bytes of these tokens
abbrev pub bytes_in : List (ℕ × Call) → ℕ
bytes_in [] = 0
bytes_in (t ∷ ts) = t.0 + bytes_in ts

-- the first n bytes are such tokens
abbrev pub IsListRun : State → Bool → ℕ → Call → Call → List ℕ → Type 0
IsListRun s m n c d x =
    (ts : List (ℕ × Call)) × AreListTokens s m ts c d x × (bytes_in ts ≡ n)
