-- Texts: the builtins that measure texts, search them and cut them.
-- Believed. Manual: "Calculating length of strings", "Searching for substrings",
-- "Extracting substrings". Words: len, place_in, index, from_place, at_most, substr.
use Rattle.std.specs.Prelude.{ℕ, ℤ, pos, negsuc, List, [], ◌∷◌, Option, Some, None, length, take, drop, codes}
use Rattle.std.specs.Fmt.{decimal}
use Rattle.m4_state.specs.declared.builtin.Builtin.TheVariants.{Substr}
use Rattle.m4_input.specs.Token.{before}
use Rattle.m4_builtins.specs.declared.args.Arg.{Arg}
use Rattle.m4_builtins.specs.declared.effect.Effect.{Effect}
use Rattle.m4_builtins.specs.declared.place.Place.{Place}
use Rattle.m4_builtins.specs.Args.{text_of_arg, text_at}
use Rattle.m4_builtins.specs.Acted.{nothing, expands}
use Rattle.m4_builtins.specs.Numeric.{reading_of, with_number}

-- `len`: the number of bytes
abbrev pub len : List Arg → Effect
len list = expands (decimal (length (text_at list 0)))

-- the first place at which a text contains a part, from 0
abbrev pub place_in : List ℕ → List ℕ → Option ℕ
place_in text [] = Some 0
place_in text (b ∷ part) = before (b ∷ part) text

-- `index`: that place, or -1 if there is none
abbrev pub index : List Arg → Effect
index list = expands (elim (place_in (text_at list 0) (text_at list 1)) [ None ↦ codes "-1" | Some n ↦ decimal n ])

-- the bytes from a place on; none if the place is negative, or after the end of the text
abbrev pub from_place : ℤ → List ℕ → List ℕ
from_place place x = elim place [ pos n ↦ drop n x | negsuc n ↦ [] ]

-- at most n bytes; none if the count isn't positive
abbrev pub at_most : ℤ → List ℕ → List ℕ
at_most count x = elim count [ pos n ↦ take n x | negsuc n ↦ [] ]

-- `substr`, whose numbers are read from left to right before anything is cut; without a count, all of the rest
abbrev pub substr : List Arg → Place → Effect
substr (a ∷ b ∷ []) p =
    with_number p Substr (reading_of (text_of_arg b)) (λ from. expands (from_place from (text_of_arg a)))
substr (a ∷ b ∷ c ∷ rest) p =
    with_number p Substr (reading_of (text_of_arg b))
    (λ from. with_number p Substr (reading_of (text_of_arg c))
    (λ count. expands (at_most count (from_place from (text_of_arg a)))))
substr few p = nothing
