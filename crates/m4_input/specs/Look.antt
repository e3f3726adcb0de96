-- Look: what one look at a text finds, as a token of `scan`.
-- Not believed: it only connects the code with specs/Token.antt. Words: scan_of, LookLies.
use Rattle.std.specs.Prelude.{◌≡◌, ◌<◌, ◌≤◌, ℕ, ◌+◌, List, [], ◌∷◌, length, take, drop}
use Rattle.m4_input.specs.declared.front.Look.{Look}
use Rattle.m4_input.specs.declared.front.Look.TheVariants as looks
use Rattle.m4_input.specs.declared.front.Scan.{Scan}
use Rattle.m4_input.specs.declared.front.Scan.TheVariants.{Found, Broken, NeedsMore}
use Rattle.m4_input.specs.declared.token.Token.TheVariants.{Name, Str, Comment, Byte, End}

-- the token at the start of a text, by its kind and its lengths
abbrev pub scan_of : Look → List ℕ → Scan
scan_of (looks.Name n) x = Found (Name (take n x)) n
scan_of (looks.Byte b) x = Found (Byte b) 1
scan_of (looks.Quoted begin len all) x = Found (Str (take len (drop begin x))) all
scan_of (looks.Comment n) x = Found (Comment (take n x)) n
scan_of looks.End x = Found End 0
scan_of (looks.Unended what) x = Broken what
scan_of looks.NeedsMore x = NeedsMore

-- the token is inside the text
abbrev pub LookLies : List ℕ → Look → Type 0
LookLies x (looks.Name n) = (0 < n) × (n ≤ length x)
LookLies x (looks.Byte b) = (0 < length x) × (take 1 x ≡ b ∷ [])
LookLies x (looks.Quoted begin len all) = (begin + len ≤ length x) × (all ≤ length x)
LookLies x (looks.Comment n) = n ≤ length x
LookLies x looks.End = Unit {0}
LookLies x (looks.Unended what) = Unit {0}
LookLies x looks.NeedsMore = Unit {0}
