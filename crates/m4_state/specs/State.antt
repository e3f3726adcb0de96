-- State: the state between two steps of a run, as one record of lists.
-- Believed. Manual: "Defining a macro", "Temporarily redefining macros", "Changing the quote
-- characters", "Changing the comment delimiters", "Diverting and undiverting output".
-- Words: State, stack_of, pushed, popped, defined, undefined, with_quotes, with_comments, diverted,
-- appended, undiverted, issued_from, IsState, IsSized.
-- A list with rising keys is the only such list of its finite map: equal states are equal records.
use Rattle.std.specs.Prelude.{◌≢◌, ◌<◌, ◌^◌, ◌-◌, ℕ, ℤ, pos, Bool, not, List, [], ◌∷◌, ◌++◌, length, map, Option, Some}
use Rattle.std.specs.Prelude.{None, IsTrue, unwrap_or, slice_get, if◌then◌else◌, FitsSigned, int_lt}
use Rattle.std.specs.Int.{w32}
use Rattle.std.specs.List.{AllByRecursion, filter}
use Rattle.std.specs.Ordering.{int_cmp, int_eq}
use Rattle.std.specs.FinMap.{find, put, is_sorted}
use Rattle.m4_state.specs.declared.definition.Def.{Def}
use Rattle.m4_state.specs.declared.delimiters.Delimiters.{Delimiters}
use Rattle.m4_state.specs.Delimiters.{default_quotes, default_comments, chosen, IsPaired, IsSizedPair}
use Rattle.m4_state.specs.Table.{Pairs, stack_at, with_push, with_top, without, without_top, IsTable, IsSizedTable}

-- a diversion's number and its text
abbrev pub NumberedText : Type 0
NumberedText = ℤ × List ℕ

-- the names in byte order and the diversions by rising number
pub record State : Type 0 where
  pub table : Pairs
  pub quotes : Delimiters
  pub comments : Delimiters
  pub diversions : List NumberedText
  pub current : ℤ

-- no names, no diversions, the default delimiters
abbrev pub empty : State
empty =
    record { table = []; quotes = default_quotes; comments = default_comments; diversions = []; current = pos 0 }

-- the names, in byte order
abbrev pub names_of : State → List (List ℕ)
names_of s = map (λ e. e.0) s.table

-- the definitions of a name, the oldest first
abbrev pub stack_of : State → List ℕ → List Def
stack_of s name = stack_at s.table name

-- the last of a list
abbrev pub last_of : {A : Type 0} → List A → Option A
last_of xs = slice_get xs (length xs - 1)

-- the top definition of a name
abbrev pub top_of : State → List ℕ → Option Def
top_of s name = last_of (stack_at s.table name)

-- with one more definition on those of a name
abbrev pub pushed : State → List ℕ → Def → State
pushed s name d = record s { table = with_push s.table name d }

-- with another definition instead of the top one of a name, or with the first one
abbrev pub defined : State → List ℕ → Def → State
defined s name d = record s { table = with_top s.table name d }

-- without the top definition of a name; nothing changes if it has none
abbrev pub popped : State → List ℕ → State
popped s name = record s { table = without_top s.table name }

-- without a name's definitions
abbrev pub undefined : State → List ℕ → State
undefined s name = record s { table = without s.table name }

-- with the quotes of two strings
abbrev pub with_quotes : State → List ℕ → List ℕ → State
with_quotes s begin end = record s { quotes = chosen default_quotes begin end }

-- with the comment delimiters of two strings
abbrev pub with_comments : State → List ℕ → List ℕ → State
with_comments s begin end = record s { comments = chosen default_comments begin end }

-- the text of a diversion
abbrev pub diverted_text : List NumberedText → ℤ → List ℕ
diverted_text diversions number = unwrap_or (find int_cmp number diversions) []

abbrev pub diversion_of : State → ℤ → List ℕ
diversion_of s number = diverted_text s.diversions number

-- with another current diversion
abbrev pub diverted : State → ℤ → State
diverted s number = record s { current = number }

-- with more text in a diversion of that number; no empty text is stored
abbrev pub with_text : List NumberedText → ℤ → List ℕ → List NumberedText
with_text diversions number [] = diversions
with_text diversions number (b ∷ text) =
    put int_cmp number (diverted_text diversions number ++ b ∷ text) diversions

-- whether text goes to a diversion: only if its number is positive
abbrev pub holds_text : ℤ → Bool
holds_text number = int_lt (pos 0) number

-- with more text in the current diversion, if text goes to it
abbrev pub appended : State → List ℕ → State
appended s text = record s {
  diversions = if holds_text s.current then with_text s.diversions s.current text else s.diversions;
}

-- without the diversion of that number
abbrev pub without_text : List NumberedText → ℤ → List NumberedText
without_text diversions number = filter (λ d. not (int_eq number d.0)) diversions

-- after a diversion is undiverted: its text is removed from it and added to the current diversion, or
-- not added if that number isn't positive; the current diversion itself is not undiverted
abbrev pub undiverted : State → ℤ → State
undiverted s number =
    if int_eq number s.current then s
    else appended (record s { diversions = without_text s.diversions number }) (diverted_text s.diversions number)

-- the text that goes to the output when a diversion is undiverted: all of it if the current
-- number is 0
abbrev pub issued_from : State → ℤ → List ℕ
issued_from s number = if int_eq s.current (pos 0) then diverted_text s.diversions number else []

-- a text, or none if it is empty
abbrev pub unless_empty : List ℕ → Option (List ℕ)
unless_empty [] = None
unless_empty (b ∷ text) = Some (b ∷ text)

-- the first diversion after a number
abbrev pub next_after : List NumberedText → ℤ → Option ℤ
next_after [] number = None
next_after (d ∷ diversions) number =
    if int_lt number d.0 then Some d.0 else next_after diversions number

-- a diversion has a positive number of 32 bits and a text
pub record IsDiversion (d : NumberedText) : Type 0 where
  pub positive : IsTrue (holds_text d.0)
  pub fits : FitsSigned w32 d.0
  pub some : d.1 ≢ []

-- the numbers rise, and each diversion is valid
pub record AreDiversions (diversions : List NumberedText) : Type 0 where
  pub sorted : IsTrue (is_sorted int_cmp diversions)
  pub each : AllByRecursion IsDiversion diversions

abbrev pub AreSizedDiversions : List NumberedText → Type 0
AreSizedDiversions diversions = AllByRecursion (λ d. length d.1 < 2 ^ 64) diversions

-- the invariant: of each pair of delimiters both are empty or neither is, and the name of a
-- placeholder is not that of a builtin
pub record IsState (s : State) : Type 0 where
  pub table : IsTable s.table
  pub quotes : IsPaired s.quotes
  pub comments : IsPaired s.comments
  pub diversions : AreDiversions s.diversions
  pub current : FitsSigned w32 s.current

-- no byte string in it is longer than 2^64 - 1
pub record IsSized (s : State) : Type 0 where
  pub table : IsSizedTable s.table
  pub quotes : IsSizedPair s.quotes
  pub comments : IsSizedPair s.comments
  pub diversions : AreSizedDiversions s.diversions
