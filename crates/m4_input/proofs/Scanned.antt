-- Scanned: what the first token of a text says about the text.
use Rattle.std.proofs.Common.{◌≡◌, ℕ, Bool, true, false, List, [], ◌∷◌, Option, None, Some, drop, length, refl, subst}
use Rattle.std.specs.Prelude.{⊤}
use Rattle.m4_state.specs.declared.delimiters.Delimiters.{Delimiters}
use Rattle.m4_input.specs.declared.front.Kind.{Kind}
use Rattle.m4_input.specs.declared.front.Kind.TheVariants.{CommentHere, NameHere, StringHere, ByteHere, Undecided}
use Rattle.m4_input.specs.declared.front.Unended.{Unended}
use Rattle.m4_input.specs.declared.front.Unended.TheVariants.{InString, InComment}
use Rattle.m4_input.specs.declared.front.Scan.{Scan}
use Rattle.m4_input.specs.declared.front.Scan.TheVariants.{Found, Broken, NeedsMore}
use Rattle.m4_input.specs.declared.token.Token.{Token}
use Rattle.m4_input.specs.declared.token.Token.TheVariants.{Name, Str, Comment, Byte, Definition, End}
use Rattle.m4_input.specs.Ascii.{is_name_byte}
use Rattle.m4_input.specs.Token.{run_length, before, level, unended}
use Rattle.m4_input.specs.Token.{kind_of, scan_kind, scan}
use Rattle.m4_input.proofs.Cases.{name_unless, comment_found, string_found}

-- a name is the longest run of its bytes, and a byte is the first of the text
abbrev IsAhead : Token → ℕ → List ℕ → Type 0
IsAhead (Name t) n x = n ≡ run_length is_name_byte x
IsAhead (Byte b) n x = x ≡ b ∷ drop 1 x
IsAhead (Str t) n x = ⊤
IsAhead (Comment t) n x = ⊤
IsAhead (Definition d) n x = ⊤
IsAhead End n x = ⊤

abbrev Says : List ℕ → Scan → Type 0
Says x (Found t n) = IsAhead t n x
Says x (Broken w) = ⊤
Says x NeedsMore = ⊤

no_end : (m : Bool) (w : Unended) (x : List ℕ) → Says x (unended m w)
no_end true w x = tt
no_end false w x = tt

comment : (c : Delimiters) (m : Bool) (x : List ℕ) (o : Option ℕ) → Says x (comment_found c m x o)
comment c m x None = no_end m InComment x
comment c m x (Some k) = tt

string : (q : Delimiters) (m : Bool) (x z : List ℕ) (o : Option ℕ) → Says x (string_found q m z o)
string q m x z None = no_end m InString x
string q m x z (Some k) = tt

name : (v : Bool) (x : List ℕ) → Says x (name_unless v (run_length is_name_byte x) x)
name true x = tt
name false x = refl

of_kind : (k : Kind) (q c : Delimiters) (m : Bool) (b : ℕ) (y : List ℕ) → Says (b ∷ y) (scan_kind k q c m b y)
of_kind CommentHere q c m b y = comment c m (b ∷ y) (before c.end (drop (length c.begin) (b ∷ y)))
of_kind NameHere q c m b y = name _ (b ∷ y)
of_kind StringHere q c m b y = let z = drop (length q.begin) (b ∷ y) in string q m (b ∷ y) z (level q m 0 0 z)
of_kind ByteHere q c m b y = refl
of_kind Undecided q c m b y = tt

of_scan : (q c : Delimiters) (m : Bool) (x : List ℕ) → Says x (scan q c m x)
of_scan q c true [] = tt
of_scan q c false [] = tt
of_scan q c m (b ∷ y) = of_kind (kind_of q c m b y) q c m b y

pub name_run : (q c : Delimiters) (m : Bool) (x t : List ℕ) (n : ℕ) → scan q c m x ≡ Found (Name t) n → n ≡ run_length is_name_byte x
name_run q c m x t n h = subst (Says x) h (of_scan q c m x)

pub byte_first : (q c : Delimiters) (m : Bool) (x : List ℕ) (b n : ℕ) → scan q c m x ≡ Found (Byte b) n → x ≡ b ∷ drop 1 x
byte_first q c m x b n h = subst (Says x) h (of_scan q c m x)
