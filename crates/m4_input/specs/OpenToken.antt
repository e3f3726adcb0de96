-- OpenToken: a token that a text begins and does not end, as far as it was looked at.
-- Not believed: it connects `more_of_token` with `scan`, so that a token over many blocks is looked at once.
-- Words: further, kind_in, MayCome, HasPassed, ArePlain, IsStringSoFar, NameIsOpen, CommentIsOpen, StringIsOpen,
-- IsOpenAt, StaysOpen, CommentGoesOn.
use Rattle.std.specs.Prelude.{◌≡◌, ◌<◌, ◌≤◌, ◌+◌, ℕ, Bool, true, false, List, [], ◌∷◌, ◌++◌, Option, Some, None, length}
use Rattle.std.specs.Prelude.{drop}
use Rattle.m4_state.specs.declared.delimiters.Delimiters.{Delimiters}
use Rattle.m4_input.specs.declared.front.Kind.{Kind}
use Rattle.m4_input.specs.declared.front.Kind.TheVariants.{CommentHere, NameHere, StringHere, Undecided}
use Rattle.m4_input.specs.declared.front.Mark.TheVariants.{PlainByte}
use Rattle.m4_input.specs.declared.front.Scan.TheVariants.{NeedsMore}
use Rattle.m4_input.specs.declared.strings.StringSoFar.{StringSoFar}
use Rattle.m4_input.specs.declared.strings.StringSoFar.TheVariants as string_so_far
use Rattle.m4_input.specs.declared.open_token.OpenToken.{OpenToken}
use Rattle.m4_input.specs.declared.open_token.OpenToken.TheVariants as opens
use Rattle.m4_input.specs.Ascii.{is_name_byte}
use Rattle.m4_input.specs.Token.{run_length, before, mark_at, level, kind_of, scan}

-- so many bytes further
abbrev pub further : ℕ → Option ℕ → Option ℕ
further n None = None
further n (Some m) = Some (n + m)

-- the kind of token that a text begins, if more bytes may follow it
abbrev pub kind_in : Delimiters → Delimiters → List ℕ → Kind
kind_in q c [] = Undecided
kind_in q c (b ∷ y) = kind_of q c true b y

-- what may come after a text: any bytes if its end is open, and otherwise none, with none after them
abbrev pub MayCome : Bool → Bool → List ℕ → Type 0
MayCome true p z = Unit {0}
MayCome false p z = (p ≡ false) × (z ≡ [])

-- x is inside a string, with n nested strings open before it; after its first k bytes m are open, and whatever
-- may come after x, the string goes on from there
pub record HasPassed (q : Delimiters) (may_follow : Bool) (n : ℕ) (x : List ℕ) (m k : ℕ) : Type 0 where
  pub within : k ≤ length x
  pub low : m ≤ n + k
  pub same : (p : Bool) (z : List ℕ) → MayCome may_follow p z
      → level q p n 0 (x ++ z) ≡ further k (level q p m 0 (drop k x ++ z))

-- no quote begins with one of the first n bytes
abbrev pub ArePlain : Delimiters → Bool → ℕ → List ℕ → Type 0
ArePlain q may_follow n x = (n ≤ length x) × ((i : ℕ) → i < n → mark_at q may_follow (drop i x) ≡ PlainByte)

-- where a string with n nested strings open is after x, whose end may cut a quote
abbrev pub IsStringSoFar : Delimiters → Bool → ℕ → List ℕ → StringSoFar → Type 0
IsStringSoFar q may_follow n x (string_so_far.Ends k) =
    (level q may_follow n 0 x ≡ Some k) × (k + length q.end ≤ length x)
IsStringSoFar q may_follow n x (string_so_far.Open k m) =
    HasPassed q may_follow n x m k × (level q may_follow n 0 x ≡ None)

-- a name: its first k bytes were looked at
pub record NameIsOpen (q c : Delimiters) (k : ℕ) (x : List ℕ) : Type 0 where
  pub kind : kind_in q c x ≡ NameHere
  pub within : k ≤ length x
  pub same : (z : List ℕ) → run_length is_name_byte (x ++ z) ≡ k + run_length is_name_byte (drop k x ++ z)

-- a comment: its end begins at none of the first k bytes after its begin
pub record CommentIsOpen (q c : Delimiters) (k : ℕ) (x : List ℕ) : Type 0 where
  pub kind : kind_in q c x ≡ CommentHere
  pub long : length c.begin ≤ length x
  pub within : k ≤ length (drop (length c.begin) x)
  pub same : (z : List ℕ) → before c.end (drop (length c.begin) x ++ z)
      ≡ further k (before c.end (drop k (drop (length c.begin) x) ++ z))

-- a string: after the first k bytes that come after its begin-quote n nested strings are open
pub record StringIsOpen (q c : Delimiters) (k n : ℕ) (x : List ℕ) : Type 0 where
  pub kind : kind_in q c x ≡ StringHere
  pub long : length q.begin ≤ length x
  pub passed : HasPassed q true 0 (drop (length q.begin) x) n k

abbrev pub IsOpenAt : Delimiters → Delimiters → OpenToken → List ℕ → Type 0
IsOpenAt q c (opens.Name k) x = NameIsOpen q c k x
IsOpenAt q c (opens.Comment k) x = CommentIsOpen q c k x
IsOpenAt q c (opens.Quoted k n) x = StringIsOpen q c k n x

-- the text does not end its token, which was looked at as far as the text goes
abbrev pub StaysOpen : Delimiters → Delimiters → OpenToken → List ℕ → Type 0
StaysOpen q c token x = IsOpenAt q c token x × (scan q c true x ≡ NeedsMore)

-- the rest of a comment: its end begins nowhere in x, and at none of the first n bytes, whatever follows
pub record CommentGoesOn (end : List ℕ) (n : ℕ) (x : List ℕ) : Type 0 where
  pub within : n ≤ length x
  pub none : before end x ≡ None
  pub same : (z : List ℕ) → before end (x ++ z) ≡ further n (before end (drop n x ++ z))
