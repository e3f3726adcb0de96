-- Underway: the part of a file that was read so far, if its bytes arrive block by block.
-- Not believed: private contracts cite it; `read_frozen` states the same for whole files.
-- Words: IsTextAt, Skips, HasRead, ReadsOne, PausesAt, Advances.
use Rattle.std.specs.Prelude.{◌≡◌, IsTrue, ℕ, ℤ, ◌+◌, ◌-◌, ◌^◌, ◌<◌, ◌≤◌, Bool, true, false}
use Rattle.std.specs.Prelude.{List, [], ◌∷◌, ◌++◌, length, take, drop}
use Rattle.std.specs.Prelude.{Option, Some, None, IfSome, Result, Ok, Err, ◌⊎◌}
use Rattle.std.specs.Borrow.{Bor}
use Rattle.m4_state.specs.State.{diverted, appended}
use Rattle.m4_state.specs.declared.fault.StateFault.{StateFault}
use Rattle.m4_frozen.specs.Ascii.{newline, comma, letter_T}
use Rattle.m4_frozen.specs.declared.fault.FrozenKind.TheVariants as kinds
use Rattle.m4_frozen.specs.declared.fault.ReadStop.{ReadStop}
use Rattle.m4_frozen.specs.declared.fault.ReadStop.TheVariants as stops
use Rattle.m4_frozen.specs.declared.fault.Refusal.{Refusal}
use Rattle.m4_frozen.specs.declared.begun.Begun.{Begun}
use Rattle.m4_frozen.specs.declared.begun.Begun.TheVariants as begun
use Rattle.m4_frozen.specs.declared.begun.NamedText.{NamedText}
use Rattle.m4_frozen.specs.declared.loading.Loading.{Loading}
use Rattle.m4_frozen.specs.declared.loading.Pause.{Pause}
use Rattle.m4_frozen.specs.Denote.{denote, issued_by}
use Rattle.m4_frozen.specs.Directive.{Directive, Text, Diversion}
use Rattle.m4_frozen.specs.Layout.{no_digit_first}
use Rattle.m4_frozen.specs.Outcome.{Loads}
use Rattle.m4_frozen.specs.Spells.{AreDigits, value_of}
use Rattle.m4_frozen.specs.ReaderSteps.{◌>>=◌, skip_lines, string_at, expect_byte, directives_at, after_version}
use Rattle.m4_frozen.specs.ReaderSteps.{next_at, file_at, is_settled}

-- no line to skip is at the start; `inside`: the bytes begin inside a comment
abbrev pub IsAtDirective : Bool → List ℕ → Type 0
IsAtDirective inside bytes = (bytes ≡ []) ⊎ ((inside ≡ false) × (skip_lines false bytes ≡ bytes))

-- the last ones of these bytes
abbrev pub IsEndOf : List ℕ → List ℕ → Type 0
IsEndOf rest all = (front : List ℕ) × (all ≡ front ++ rest)

-- digits of a small value are at the start, and all the digits there are
pub record BeginsWithNumber (n : ℕ) (bytes rest : List ℕ) : Type 0 where
  pub digits : List ℕ
  pub spelled : bytes ≡ digits ++ rest
  pub are_digits : AreDigits digits
  pub value : value_of digits ≡ n
  pub few : n < 10 ^ 5
  pub apart : IsTrue (no_digit_first rest)

-- the first line of the directive of a text, with the two lengths, and so many bytes after it
pub record IsTextLine (middle len after : ℕ) (line : List ℕ) : Type 0 where
  pub numbers : List ℕ
  pub second : List ℕ
  pub rest : List ℕ
  pub spelled : line ≡ letter_T ∷ numbers
  pub name_length : BeginsWithNumber middle numbers (comma ∷ second)
  pub text_length : BeginsWithNumber len second (newline ∷ rest)
  pub left : length rest ≡ after

-- the bytes begin with the directive of a text, whose strings begin these ones
pub record IsTextAt (middle len : ℕ) (strings bytes : List ℕ) : Type 0 where
  pub line : List ℕ
  pub spelled : bytes ≡ line ++ strings
  pub within : middle + len < length strings
  pub at : IsAtDirective false bytes
  pub gives : next_at bytes
      ≡ Ok (Some (Text (take middle strings) (take len (drop middle strings)), drop (middle + len + 1) strings))

-- lines at the start are skipped: the rest is read as if it came after them
pub record Skips (inside : Bool) (bytes : List ℕ) (later : Bool) (rest : List ℕ) : Type 0 where
  pub skipped : List ℕ
  pub spelled : bytes ≡ skipped ++ rest
  pub same : (more : List ℕ) → skip_lines inside (skipped ++ more) ≡ skip_lines later more
  pub begins : IsAtDirective later rest

-- the directives that were read, and the reading of the rest
abbrev pub with_front : List Directive → Result (List Directive) Refusal
    → Result (List Directive) Refusal
with_front front read = read >>= λ ds. Ok (front ++ ds)

-- the reading of bytes after the version (`true`) or before it (`false`), outside a comment
abbrev pub left_at : Bool → ℕ → List ℕ → Result (List Directive) Refusal
left_at true count bytes = directives_at count bytes
left_at false count bytes = after_version bytes >>= λ r. directives_at (length r + 1) r

-- the reading of a file that continues with these bytes
pub record GoesOn (read : List ℕ) (ds : List Directive) (versioned inside : Bool) (more : List ℕ)
    : Type 0 where
  pub count : ℕ
  pub enough : length more < count
  pub answer : file_at (read ++ more) ≡ with_front ds (left_at versioned count (skip_lines inside more))

-- these bytes were read, whatever follows them
pub record HasRead (read : List ℕ) (loading : Loading) : Type 0 where
  pub directives : List Directive
  pub state : loading.state ≡ (denote directives).state
  pub issued : loading.issued.items ≡ (denote directives).issued
  pub goes_on : (more : List ℕ) → GoesOn read directives loading.versioned loading.inside more

-- all of the bytes but the rest were read, whatever was read before them
pub record HasAdvanced (bytes : List ℕ) (old new : Loading) (rest : List ℕ) : Type 0 where
  pub front : List ℕ
  pub spelled : bytes ≡ front ++ rest
  pub no_text : new.begun ≡ old.begun
  pub has_read : (read : List ℕ) → HasRead read old → HasRead (read ++ front) new

-- the reading of bytes that continue a directive's text, of which `missing` bytes are missing
unfoldable pub text_left : ℕ → (List ℕ → Directive) → List ℕ → ℕ → List ℕ → Result (List Directive) Refusal
text_left count make came missing bytes = do
  t ← string_at missing bytes
  r ← expect_byte newline t.1
  ds ← directives_at count r
  Ok (make (came ++ t.0) ∷ ds)

-- the reading of a file that continues with these bytes inside a text
pub record GoesOnIn (read : List ℕ) (ds : List Directive) (make : List ℕ → Directive)
    (came : List ℕ) (missing : ℕ) (more : List ℕ) : Type 0 where
  pub count : ℕ
  pub enough : length more ≤ count
  pub answer : file_at (read ++ more) ≡ with_front ds (text_left count make came missing more)

-- these bytes were read, whatever follows them: the directives, then a prefix of a text
pub record IsWithinText (read : List ℕ) (loading : Loading) (ds : List Directive)
    (make : List ℕ → Directive) (came : List ℕ) (missing : ℕ) : Type 0 where
  pub place : (loading.versioned ≡ true) × (loading.inside ≡ false)
  pub goes_on : (more : List ℕ) → GoesOnIn read ds make came missing more

-- a prefix of a diversion's text, which goes to the state as it arrives
pub record HasReadIn (read : List ℕ) (loading : Loading) (missing : ℕ) : Type 0 where
  pub directives : List Directive
  pub number : ℤ
  pub came : List ℕ
  pub state : loading.state ≡ appended (diverted (denote directives).state number) came
  pub issued : loading.issued.items ≡ (denote directives).issued ++ issued_by (Diversion number came)
  pub within : IsWithinText read loading directives (Diversion number) came missing

-- a prefix of a name's text, which is kept until it is complete
pub record HasReadNamed (read : List ℕ) (loading : Loading) (text : NamedText) : Type 0 where
  pub directives : List Directive
  pub state : loading.state ≡ (denote directives).state
  pub issued : loading.issued.items ≡ (denote directives).issued
  pub within : IsWithinText read loading directives (Text text.name) text.text.items text.missing

-- these bytes were read; they end inside such a text if one is open
abbrev pub ReadAs : Option Begun → List ℕ → Loading → Type 0
ReadAs None read loading = HasRead read loading
ReadAs (Some (begun.Diversion missing)) read loading = HasReadIn read loading missing
ReadAs (Some (begun.Name text)) read loading = HasReadNamed read loading text

abbrev pub IsRead : List ℕ → Loading → Type 0
IsRead read loading = ReadAs loading.begun read loading

-- the refusal of a file that ends too early
abbrev pub short : Refusal
short = record { kind = kinds.PrematureEnd; bytes_left = 0 }

-- whether the fault of these bytes stays, whatever follows them
abbrev pub stays : List ℕ → Refusal → Bool
stays given e = is_settled e.kind (drop (length given - e.bytes_left) given)

-- the place of a refusal is among these bytes, which begin with no line to skip
abbrev pub IsWithin : ReadStop → Bool → List ℕ → Type 0
IsWithin stops.OutOfMemory inside here = Unit {0}
IsWithin (stops.Refused e) inside here = (e.bytes_left ≤ length here) × IsAtDirective inside here

-- a text is opened that is not complete, or nothing is read
abbrev pub Opens : List ℕ → Loading → Loading → Result Bool StateFault → Type 0
Opens here old new (Ok true) = (read : List ℕ) → HasRead read old → IsRead (read ++ here) new
Opens here old new (Ok false) = new ≡ old
Opens here old new (Err fault) = Unit {0}

-- the last bytes are kept, or they open a text
abbrev pub Keeps : List ℕ → Loading → Loading → ℕ → Type 0
Keeps here old new left = ((left ≡ length here) × (new ≡ old))
    ⊎ ((left ≡ 0) × ((read : List ℕ) → HasRead read old → IsRead (read ++ here) new))

-- a pause if more bytes could remove the refusal, otherwise the stop itself
abbrev pub PausesAt : ReadStop → List ℕ → Loading → Loading → Result Pause ReadStop → Type 0
PausesAt stop here old new (Err stops.OutOfMemory) = Unit {0}
PausesAt stop here old new (Err (stops.Refused e)) = (stop ≡ stops.Refused e) × (stays here e ≡ true)
PausesAt stops.OutOfMemory here old new (Ok pause) = ⊥
PausesAt (stops.Refused e) here old new (Ok pause) =
    (pause.refusal ≡ Some e) × (stays here e ≡ false) × Keeps here old new pause.left

-- the version or a directive was read at the start
pub record HasReadOne (bytes : List ℕ) (old new : Loading) (after : List ℕ) : Type 0 where
  pub one : List ℕ
  pub spelled : bytes ≡ one ++ after
  pub some : 0 < length one
  pub no_text : new.begun ≡ old.begun
  pub has_read : (read : List ℕ) → HasRead read old → HasRead (read ++ one) new

-- the result at the start of the bytes: the version or a directive; the end; or a refusal
abbrev pub ReadsOne : List ℕ → Loading → Loading → Result (Option (Bor (List ℕ))) ReadStop → Type 0
ReadsOne bytes old new (Ok (Some after)) = HasReadOne bytes old new after.now
ReadsOne bytes old new (Ok None) = (bytes ≡ []) × (old.versioned ≡ true) × (new ≡ old)
ReadsOne bytes old new (Err stops.OutOfMemory) = Unit {0}
ReadsOne bytes old new (Err (stops.Refused e)) = (new ≡ old) × (e.bytes_left ≤ length bytes)
    × ((read : List ℕ) → HasRead read old → file_at (read ++ bytes) ≡ Err e)

-- the result if the file ends after these bytes: it is loaded, or has a refusal that more could remove
abbrev pub EndsSo : List ℕ → Loading → Option Refusal → Type 0
EndsSo given loading None = Loads given (record { state = loading.state; issued = loading.issued.items })
EndsSo given loading (Some e) = (file_at given ≡ Err e) × (stays given e ≡ false)

-- the bytes were read but for the last ones, which are not a complete directive yet
pub record HasPaused (read bytes : List ℕ) (new : Loading) (pause : Pause) : Type 0 where
  pub front : List ℕ
  pub rest : List ℕ
  pub spelled : bytes ≡ front ++ rest
  pub left : length rest ≡ pause.left
  pub has_read : IsRead (read ++ front) new
  pub ends : EndsSo (read ++ bytes) new pause.refusal
  pub within : IfSome pause.refusal (λ e. e.bytes_left ≤ length bytes)

-- the result of reading more bytes, after those before: all that is complete, or a fault that stays
abbrev pub ReadsOn : (List ℕ → Type 0) → List ℕ → Loading → Result Pause ReadStop → Type 0
ReadsOn Before bytes new (Ok pause) = (read : List ℕ) → Before read → HasPaused read bytes new pause
ReadsOn Before bytes new (Err stops.OutOfMemory) = Unit {0}
ReadsOn Before bytes new (Err (stops.Refused e)) = (read : List ℕ) → Before read
    → (file_at (read ++ bytes) ≡ Err e) × (stays (read ++ bytes) e ≡ true) × (e.bytes_left ≤ length bytes)

-- the same, if no text is open
abbrev pub Advances : List ℕ → Loading → Loading → Result Pause ReadStop → Type 0
Advances bytes old new r = ReadsOn (λ read. HasRead read old) bytes new r

-- a text was read to its end; a part of it was read before
pub record HasReadText (Before : List ℕ → Type 0) (bytes : List ℕ) (new : Loading)
    (after : List ℕ) : Type 0 where
  pub one : List ℕ
  pub spelled : bytes ≡ one ++ after
  pub no_text : new.begun ≡ None
  pub has_read : (read : List ℕ) → Before read → HasRead (read ++ one) new

-- the result of reading a text: its end, all the bytes, or a refusal
abbrev pub ReadsText : (List ℕ → Type 0) → List ℕ → Loading
    → Result (Option (Bor (List ℕ))) ReadStop → Type 0
ReadsText Before bytes new (Ok (Some after)) = HasReadText Before bytes new after.now
ReadsText Before bytes new (Ok None) = (read : List ℕ) → Before read
    → IsRead (read ++ bytes) new × (file_at (read ++ bytes) ≡ Err short)
ReadsText Before bytes new (Err stops.OutOfMemory) = Unit {0}
ReadsText Before bytes new (Err (stops.Refused e)) = (read : List ℕ) → Before read
    → (file_at (read ++ bytes) ≡ Err e) × (stays (read ++ bytes) e ≡ true) × (e.bytes_left ≤ length bytes)

-- the result of reading on after a text, if it has ended
abbrev pub ReadsRest : Option (Bor (List ℕ)) → Loading → Loading → Result Pause ReadStop → Type 0
ReadsRest None old new r = (new ≡ old) × (r ≡ Ok (record { left = 0; refusal = Some short }))
ReadsRest (Some after) old new r = Advances after.now old new r
