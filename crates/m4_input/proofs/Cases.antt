-- Cases: the cases of the definitions in `Pending`, `Token` and `Paren` as words of their own, so that a proof can go by them.
use Rattle.std.specs.Prelude.{ℕ, Bool, true, not, ◌&&◌, List, [], Option, Some, None, ◌+◌, length, take, if◌then◌else◌}
use Rattle.m4_state.specs.declared.definition.Def.{Def}
use Rattle.m4_state.specs.declared.delimiters.Delimiters.{Delimiters}
use Rattle.m4_input.specs.declared.token.Token.TheVariants.{Name, Str, Comment}
use Rattle.m4_input.specs.declared.front.Scan.{Scan}
use Rattle.m4_input.specs.declared.front.Scan.TheVariants.{Found, NeedsMore}
use Rattle.m4_input.specs.declared.front.Unended.TheVariants.{InString, InComment}
use Rattle.m4_input.specs.declared.front.Mark.{Mark}
use Rattle.m4_input.specs.declared.front.Mark.TheVariants.{EndQuote, BeginQuote, PlainByte, CutQuote}
use Rattle.m4_input.specs.declared.front.Kind.{Kind}
use Rattle.m4_input.specs.declared.front.Kind.TheVariants.{CommentHere, NameHere, StringHere, ByteHere, Undecided}
use Rattle.m4_input.specs.declared.front.Answer.{Answer}
use Rattle.m4_input.specs.declared.front.Answer.TheVariants.{Yes, No, Unknown}
use Rattle.m4_input.specs.Pending.{Pending, text_of, line_of}
use Rattle.m4_input.specs.Token.{unended}
use Rattle.m4_input.specs.Paren.{paren_in}

-- `line_of` after this many newlines
abbrev pub line_after : Option (List ℕ) → ℕ → ℕ
line_after file newlines =
    line_of (record { definition = None; pushed = []; unread = []; may_follow = true; file = file; newlines = newlines })

-- `mark_at`, by its tests
abbrev pub mark_by : Bool → Bool → Bool → Mark
mark_by u v w = if u then EndQuote else (if v then CutQuote else (if w then BeginQuote else PlainByte))

-- `name_at`, by its test and the number of bytes
abbrev pub name_unless : Bool → ℕ → List ℕ → Scan
name_unless v n x = if v then NeedsMore else Found (Name (take n x)) n

-- `comment_at`, by the number of bytes before its end
abbrev pub comment_found : Delimiters → Bool → List ℕ → Option ℕ → Scan
comment_found c may_follow x o =
    elim o [
      | None ↦ unended may_follow InComment
      | Some n ↦ let all = length c.begin + (n + length c.end) in Found (Comment (take all x)) all
    ]

-- `string_at`, by the number of bytes before its end-quote
abbrev pub string_found : Delimiters → Bool → List ℕ → Option ℕ → Scan
string_found q may_follow y o =
    elim o [
      | None ↦ unended may_follow InString
      | Some n ↦ Found (Str (take n y)) (length q.begin + (n + length q.end))
    ]

-- `kind_of`, by its tests
abbrev pub kind_by : Bool → Bool → Bool → Bool → Bool → Kind
kind_by t u v w x =
    if t then CommentHere
    else (if u then Undecided
    else (if v then NameHere
    else (if w then StringHere
    else (if x then Undecided else ByteHere))))

-- `paren_in`, by its tests
abbrev pub answer_by : Bool → Bool → Bool → Answer
answer_by v u w = if v && not u then (if w then Unknown else Yes) else No

-- `paren_at`, by the definition that comes first
abbrev pub paren_from : Option Def → Delimiters → Delimiters → Pending → Answer
paren_from o q c p = elim o [ Some d ↦ No | None ↦ paren_in q c p.may_follow (text_of p) ]
