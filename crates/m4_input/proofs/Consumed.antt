-- Consumed: a token takes at least a byte, and leaves less of the text.
use Rattle.std.proofs.Common.{◌≡◌, ◌≢◌, Option, ℕ, ◌+◌, ◌-◌, ◌<◌, Bool, true, false, cond, ◌&&◌, List, [], ◌∷◌, ◌++◌}
use Rattle.std.proofs.Common.{◌≤◌, length, take, drop, Some, None, refl, sym, ap, ◌∙◌, arith, length-append}
use Rattle.std.proofs.Common.{length-drop, append_assoc}
use Rattle.std.proofs.lemmas.List.{take-append-le, drop-append-le, drop-drop}
use Rattle.std.proofs.lemmas.Bool.Decides.{nat_tests}
use Rattle.m4_state.specs.declared.definition.Def.{Def}
use Rattle.m4_state.specs.declared.delimiters.Delimiters.{Delimiters}
use Rattle.m4_input.specs.declared.token.Token.{Token}
use Rattle.m4_input.specs.declared.token.Token.TheVariants.{Name, Str, Comment, Byte, Definition, End}
use Rattle.m4_input.specs.declared.front.Scan.{Scan}
use Rattle.m4_input.specs.declared.front.Scan.TheVariants.{Found, Broken, NeedsMore}
use Rattle.m4_input.specs.declared.front.Unended.{Unended}
use Rattle.m4_input.specs.declared.front.Kind.{Kind}
use Rattle.m4_input.specs.declared.front.Kind.TheVariants.{CommentHere, NameHere, StringHere, ByteHere, Undecided}
use Rattle.m4_input.specs.Ascii.{is_letter, is_name_byte}
use Rattle.m4_input.specs.Pending.{Pending, text_of, counted, newlines_in, consumed}
use Rattle.m4_input.specs.Input.{longer}
use Rattle.m4_input.proofs.Parts.{counted_twice, newlines_further}
use Rattle.m4_input.specs.Token.{begins, is_enabled, run_length, before, level, unended}
use Rattle.m4_input.specs.Token.{kind_of, scan_kind, scan}
use Rattle.m4_input.proofs.Cases.{name_unless, kind_by, comment_found, string_found}

pub text-consumed : (n : ℕ) (p : Pending) → length (text_of (consumed n p)) ≡ length (text_of p) - n
text-consumed n p =
    let a : length (text_of (consumed n p)) ≡ length (drop n p.pushed) + length (drop (n - length p.pushed) p.unread) =
    length-append (drop n p.pushed) (drop (n - length p.pushed) p.unread) in
    let b : length (text_of p) ≡ length p.pushed + length p.unread = length-append p.pushed p.unread in
    let c : length (drop n p.pushed) ≡ length p.pushed - n = length-drop n p.pushed in
    let d : length (drop (n - length p.pushed) p.unread) ≡ length p.unread - (n - length p.pushed) = length-drop (n - length p.pushed) p.unread in
    omega arith

-- with more bytes of the file
pub text_longer : (z : List ℕ) (b : Bool) (p : Pending) → text_of (longer z b p) ≡ text_of p ++ z
text_longer z b p = sym (append_assoc p.pushed p.unread z)

pub consumed_longer : (z : List ℕ) (b : Bool) (n : ℕ) (p : Pending) → n ≤ length (text_of p) → consumed n (longer z b p) ≡ longer z b (consumed n p)
consumed_longer z b n p h =
    let a : length (text_of p) ≡ length p.pushed + length p.unread = length-append p.pushed p.unread in
    let d : drop (n - length p.pushed) (p.unread ++ z) ≡ drop (n - length p.pushed) p.unread ++ z =
    drop-append-le (n - length p.pushed) p.unread z (omega arith) in
    let t : take (n - length p.pushed) (p.unread ++ z) ≡ take (n - length p.pushed) p.unread = take-append-le (n - length p.pushed) p.unread z (omega arith) in
    ap (λ (x : List ℕ). record p {
      definition = None;
      pushed = drop n p.pushed;
      unread = x;
      may_follow = b;
      newlines = counted p.newlines (newlines_in (take (n - length p.pushed) (p.unread ++ z)));
    }) d
    ∙ ap (λ (x : List ℕ). record p {
      definition = None;
      pushed = drop n p.pushed;
      unread = drop (n - length p.pushed) p.unread ++ z;
      may_follow = b;
      newlines = counted p.newlines (newlines_in x);
    }) t

-- in two steps
pub consumed_twice : (n k : ℕ) (p : Pending) → consumed k (consumed n p) ≡ consumed (n + k) p
consumed_twice n k p =
    let a = n - length p.pushed in
    let b = k - length (drop n p.pushed) in
    let long : length (drop n p.pushed) ≡ length p.pushed - n = length-drop n p.pushed in
    let both : a + b ≡ (n + k) - length p.pushed = omega arith in
    let further : newlines_in (take (a + b) p.unread)
    ≡ newlines_in (take a p.unread) + newlines_in (take b (drop a p.unread)) = newlines_further p.unread a b in
    let count : counted (counted p.newlines (newlines_in (take a p.unread))) (newlines_in (take b (drop a p.unread)))
    ≡ counted p.newlines (newlines_in (take (a + b) p.unread)) =
    counted_twice p.newlines (newlines_in (take a p.unread)) (newlines_in (take b (drop a p.unread))) ∙ ap (counted p.newlines) (sym further) in
    ap (λ (x : List ℕ). let q : Pending =
    record p {
      definition = None;
      pushed = x;
      unread = drop b (drop a p.unread);
      newlines = counted (counted p.newlines (newlines_in (take a p.unread))) (newlines_in (take b (drop a p.unread)));
    } in q) (drop-drop k n p.pushed)
    ∙ ap (λ (x : List ℕ). let q : Pending =
    record p {
      definition = None;
      pushed = drop (n + k) p.pushed;
      unread = x;
      newlines = counted (counted p.newlines (newlines_in (take a p.unread))) (newlines_in (take b (drop a p.unread)));
    } in q) (drop-drop b a p.unread)
    ∙ ap (λ m. let q : Pending = record p { definition = None; pushed = drop (n + k) p.pushed; unread = drop (a + b) p.unread; newlines = m } in q) count
    ∙ ap (λ m. let q : Pending = record p {
      definition = None;
      pushed = drop (n + k) p.pushed;
      unread = drop m p.unread;
      newlines = counted p.newlines (newlines_in (take m p.unread));
    } in q) both

-- a text that isn't empty gives a token of reading least a byte, but for the end
unfoldable pub HasBytes : Scan → Type 0
HasBytes (Found End n) = Unit {0}
HasBytes (Found (Name x) n) = 0 < n
HasBytes (Found (Str x) n) = 0 < n
HasBytes (Found (Comment x) n) = 0 < n
HasBytes (Found (Byte b) n) = 0 < n
HasBytes (Found (Definition d) n) = 0 < n
HasBytes (Broken f) = Unit {0}
HasBytes NeedsMore = Unit {0}

needs_bytes : HasBytes NeedsMore
unfolding HasBytes
needs_bytes = tt

broken_bytes : (f : Unended) → HasBytes (Broken f)
unfolding HasBytes
broken_bytes f = tt

end_bytes : (n : ℕ) → HasBytes (Found End n)
unfolding HasBytes
end_bytes n = tt

found_bytes : (t : Token) (n : ℕ) → 0 < n → HasBytes (Found t n)
unfolding HasBytes
found_bytes (Name x) n h = h
found_bytes (Str x) n h = h
found_bytes (Comment x) n h = h
found_bytes (Byte x) n h = h
found_bytes (Definition x) n h = h
found_bytes End n h = tt

enabled_long : (p : Delimiters) (b : Bool) → (is_enabled p && b) ≡ true → 0 < length p.begin
enabled_long p b e = grind (arith, nat_tests)

unended_bytes : (may_follow : Bool) (f : Unended) → HasBytes (unended may_follow f)
unended_bytes true f = needs_bytes
unended_bytes false f = broken_bytes f

comment_bytes : (c : Delimiters) (may_follow : Bool) (x : List ℕ) → 0 < length c.begin → (o : Option ℕ) → HasBytes (comment_found c may_follow x o)
comment_bytes c may_follow x h None = unended_bytes may_follow _
comment_bytes c may_follow x h (Some n) = found_bytes _ _ (omega arith)

string_bytes : (q : Delimiters) (may_follow : Bool) (y : List ℕ) → 0 < length q.begin → (o : Option ℕ) → HasBytes (string_found q may_follow y o)
string_bytes q may_follow y h None = unended_bytes may_follow _
string_bytes q may_follow y h (Some n) = found_bytes _ _ (omega arith)

letter_named : (b : ℕ) → is_letter b ≡ true → is_name_byte b ≡ true
letter_named b e = rw e refl

pub run_starts : (b : ℕ) (x : List ℕ) → is_letter b ≡ true → 0 < run_length is_name_byte (b ∷ x)
run_starts b x e = rw (letter_named b e, run_length) (omega arith)

name_bytes : (b : Bool) (n : ℕ) (x : List ℕ) → 0 < n → HasBytes (name_unless b n x)
name_bytes true n x h = needs_bytes
name_bytes false n x h = found_bytes _ _ h

-- what each front says of the text
FrontSays : Delimiters → Delimiters → ℕ → Kind → Type 0
FrontSays q c b CommentHere = 0 < length c.begin
FrontSays q c b NameHere = is_letter b ≡ true
FrontSays q c b StringHere = 0 < length q.begin
FrontSays q c b ByteHere = Unit {0}
FrontSays q c b Undecided = Unit {0}

front_says : (q c : Delimiters) (b : ℕ) (t u v w x : Bool) → (t ≡ true → 0 < length c.begin)
    → (v ≡ true → is_letter b ≡ true) → (w ≡ true → 0 < length q.begin) → FrontSays q c b (kind_by t u v w x)
unfolding FrontSays
front_says q c b true u v w x f g h = f refl
front_says q c b false true v w x f g h = tt
front_says q c b false false true w x f g h = g refl
front_says q c b false false false true x f g h = h refl
front_says q c b false false false false true f g h = tt
front_says q c b false false false false false f g h = tt

scan_front_bytes : (f : Kind) (q c : Delimiters) (may_follow : Bool) (b : ℕ) (y : List ℕ) → FrontSays q c b f → HasBytes (scan_kind f q c may_follow b y)
unfolding FrontSays
scan_front_bytes CommentHere q c may_follow b y h = comment_bytes c may_follow (b ∷ y) h (before c.end (drop (length c.begin) (b ∷ y)))
scan_front_bytes NameHere q c may_follow b y h = name_bytes _ (run_length is_name_byte (b ∷ y)) (b ∷ y) (run_starts b y h)
scan_front_bytes StringHere q c may_follow b y h =
    string_bytes q may_follow (drop (length q.begin) (b ∷ y)) h (level q may_follow 0 0 (drop (length q.begin) (b ∷ y)))
scan_front_bytes ByteHere q c may_follow b y h = found_bytes (Byte b) 1 (omega arith)
scan_front_bytes Undecided q c may_follow b y h = needs_bytes

at_nothing : (may_follow : Bool) → HasBytes (cond may_follow NeedsMore (Found End 0))
at_nothing true = needs_bytes
at_nothing false = end_bytes 0

pub scan_bytes : (q c : Delimiters) (may_follow : Bool) (x : List ℕ) → HasBytes (scan q c may_follow x)
scan_bytes q c may_follow [] = at_nothing may_follow
scan_bytes q c may_follow (b ∷ y) =
    scan_front_bytes (kind_of q c may_follow b y) q c may_follow b y
    (front_says q c b _ _ _ _ _ (enabled_long c (begins c.begin (b ∷ y))) (λ e. e) (enabled_long q (begins q.begin (b ∷ y))))

-- a scan finds no definition: only what was put in front is one
unfoldable pub NoDefinition : Scan → Type 0
NoDefinition (Found t n) = (d : Def) → t ≢ Definition d
NoDefinition (Broken what) = Unit {0}
NoDefinition NeedsMore = Unit {0}

unended_plain : (b : Bool) (u : Unended) → NoDefinition (unended b u)
unfolding NoDefinition
unended_plain true u = tt
unended_plain false u = tt

comment_plain : (c : Delimiters) (b : Bool) (x : List ℕ) (o : Option ℕ) → NoDefinition (comment_found c b x o)
unfolding NoDefinition
comment_plain c b x None = unended_plain b _
comment_plain c b x (Some n) = λ d e. cc

name_plain : (v : Bool) (n : ℕ) (x : List ℕ) → NoDefinition (name_unless v n x)
unfolding NoDefinition
name_plain true n x = tt
name_plain false n x = λ d e. cc

string_plain : (q : Delimiters) (b : Bool) (y : List ℕ) (o : Option ℕ) → NoDefinition (string_found q b y o)
unfolding NoDefinition
string_plain q b y None = unended_plain b _
string_plain q b y (Some n) = λ d e. cc

kind_plain : (k : Kind) (q c : Delimiters) (m : Bool) (b : ℕ) (y : List ℕ) → NoDefinition (scan_kind k q c m b y)
unfolding NoDefinition
kind_plain CommentHere q c m b y = comment_plain c m (b ∷ y) (before c.end (drop (length c.begin) (b ∷ y)))
kind_plain NameHere q c m b y = name_plain _ (run_length is_name_byte (b ∷ y)) (b ∷ y)
kind_plain StringHere q c m b y = string_plain q m (drop (length q.begin) (b ∷ y)) (level q m 0 0 (drop (length q.begin) (b ∷ y)))
kind_plain ByteHere q c m b y = λ d e. cc
kind_plain Undecided q c m b y = tt

pub scan_plain : (q c : Delimiters) (m : Bool) (x : List ℕ) → NoDefinition (scan q c m x)
unfolding NoDefinition
scan_plain q c true [] = tt
scan_plain q c false [] = λ d e. cc
scan_plain q c m (b ∷ y) = kind_plain (kind_of q c m b y) q c m b y
