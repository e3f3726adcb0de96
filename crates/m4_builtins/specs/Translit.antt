-- Translit: bytes replaced by others. Its point is `translit`.
-- Believed. Manual: "Translating characters". Words: bytes_between, ranges, translated, translit.
-- own: a `-` between two bytes is a range, rising or falling, whose end may begin the next one; one
-- that is first or last is a plain byte.
use Rattle.std.specs.Prelude.{ℕ, zero, suc, ◌+◌, ◌-◌, ◌==◌, nat_lt, List, [], ◌∷◌, ◌++◌, Option}
use Rattle.std.specs.Prelude.{Some, None, flat_map, position, slice_get, option_to_list, if◌then◌else◌}
use Rattle.m4_builtins.specs.declared.args.Arg.{Arg}
use Rattle.m4_builtins.specs.declared.effect.Effect.{Effect}
use Rattle.m4_builtins.specs.Args.{text_at}
use Rattle.m4_builtins.specs.Acted.{expands}
use Rattle.m4_builtins.specs.Numeric.{minus}

-- n bytes from b on, each 1 above the one before it, or each 1 below
abbrev pub rising : ℕ → ℕ → List ℕ
rising zero b = []
rising (suc n) b = b ∷ rising n (b + 1)

abbrev pub falling : ℕ → ℕ → List ℕ
falling zero b = []
falling (suc n) b = b ∷ falling n (b - 1)

-- the bytes from one to another, without the first
abbrev pub bytes_between : ℕ → ℕ → List ℕ
bytes_between from to = if nat_lt from to then rising (to - from) (from + 1) else falling (from - to) (from - 1)

-- the expansion of a byte after another or none and before these, and how many of these it uses
abbrev pub range_at : Option ℕ → ℕ → List ℕ → List ℕ × ℕ
range_at (Some from) b (to ∷ x) = if b == minus then (bytes_between from to, 1) else (b ∷ [], 0)
range_at before b x = (b ∷ [], 0)

-- a text with its ranges expanded, after its first `skip` bytes
abbrev pub ranges_after : Option ℕ → ℕ → List ℕ → List ℕ
ranges_after before skip [] = []
ranges_after before (suc skip) (b ∷ x) = ranges_after (Some b) skip x
ranges_after before zero (b ∷ x) = let r = range_at before b x in r.0 ++ ranges_after (Some b) r.1 x

-- a text with its ranges expanded
abbrev pub ranges : List ℕ → List ℕ
ranges x = ranges_after None 0 x

-- a text with the bytes of one text replaced by those of another: each by the byte at its first place, or by nothing
abbrev pub translated : List ℕ → List ℕ → List ℕ → List ℕ
translated x from to =
    flat_map (λ b. elim (position (λ c. c == b) from) [ None ↦ b ∷ [] | Some n ↦ option_to_list (slice_get to n) ]) x

-- `translit`
abbrev pub translit : List Arg → Effect
translit list = expands (translated (text_at list 0) (ranges (text_at list 1)) (ranges (text_at list 2)))
