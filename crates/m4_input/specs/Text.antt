-- Text: the bytes of an input, as its code represents them.
-- Not believed: it only connects the code with specs/Pending.antt and specs/Blocks.antt. Words: HeldText,
-- text_in, with_text, text_after, joined, TakesBlock, failures_by, LiesIn.
use Rattle.std.specs.Prelude.{◌≡◌, ℕ, ◌-◌, ◌≤◌, nat_lt, Bool, List, [], ◌∷◌, ◌++◌, length, take, drop, Option, Result}
use Rattle.std.specs.Prelude.{Ok, Err}
use Rattle.m4_state.specs.Device.{Script, after_bytes, one_more, IsAtEnd, IsAtFault}
use Rattle.m4_input.specs.declared.fault.InputFault.{InputFault}
use Rattle.m4_input.specs.declared.fault.InputFault.TheVariants as faults
use Rattle.m4_input.specs.declared.front.Scan.{Scan}
use Rattle.m4_input.specs.declared.front.Scan.TheVariants.{Found, Broken, NeedsMore}
use Rattle.m4_input.specs.Input.{block}
use Rattle.m4_input.specs.Pending.{counted, newlines_in}

-- pushed text, then the unread bytes of a file; and the number of newlines of the file that were read
pub record HeldText : Type 0 where
  pub pushed : List ℕ
  pub unread : List ℕ
  pub newlines : ℕ

-- the bytes in order
abbrev pub text_in : HeldText → List ℕ
text_in t = t.pushed ++ t.unread

-- a text that was pushed comes first
abbrev pub with_text : List ℕ → HeldText → HeldText
with_text x t = record t { pushed = x ++ t.pushed }

-- the rest after the first n bytes
abbrev pub text_after : ℕ → HeldText → HeldText
text_after n t = record {
  pushed = drop n t.pushed;
  unread = drop (n - length t.pushed) t.unread;
  newlines = counted t.newlines (newlines_in (take (n - length t.pushed) t.unread));
}

-- the rests of segments in reading order; they are kept with the one that is read last at the start
abbrev pub joined : List (List ℕ) → List ℕ
joined [] = []
joined (s ∷ above) = joined above ++ s

-- one question to a reader: a block of its bytes is appended, or it is at its end; otherwise nothing changes
abbrev pub TakesBlock : Option Script → Option Script → HeldText → HeldText → Result Bool InputFault → Type 0
TakesBlock before after old new (Ok came) =
    (x : List ℕ) × (before ≡ after_bytes x after) × (length x ≤ block) × (came ≡ nat_lt 0 (length x))
    × (x ≡ [] → IsAtEnd after) × (new ≡ record old { unread = old.unread ++ x })
TakesBlock before after old new (Err faults.Read) = (after ≡ before) × IsAtFault after × (new ≡ old)
TakesBlock before after old new (Err faults.OutOfMemory) = (after ≡ before) × (new ≡ old)
TakesBlock before after old new (Err fault) = ⊥

-- the reader's failures after it: one more if the reader failed
abbrev pub failures_by : Result Bool InputFault → ℕ → ℕ
failures_by (Err faults.Read) n = one_more n
failures_by result n = n

-- a token is inside a text of `len` bytes
abbrev pub LiesIn : ℕ → Scan → Type 0
LiesIn len (Found t n) = n ≤ len
LiesIn len (Broken what) = Unit {0}
LiesIn len NeedsMore = Unit {0}
