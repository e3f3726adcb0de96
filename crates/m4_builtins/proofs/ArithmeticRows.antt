-- ArithmeticRows: worked calls of `incr` and `decr`. What a row says is in `CallRows`.
use Rattle.std.proofs.Common.{[], ◌∷◌, refl}
use Rattle.std.specs.Prelude.{codes}
use Rattle.std.specs.Fmt.{digits}
use Rattle.m4_state.specs.declared.builtin.Builtin.TheVariants.{Len, Incr, Decr}
use Rattle.m4_builtins.proofs.CallRows.{answer, Answers, Calls, row, texts, token, still, here, wrapped, bare}

-- `incr`
incr_rows : Answers Incr bare (
    ("incr wraps", "2147483647" ∷ [], "-2147483648", [])
    ∷ ("incr of minus 1", "-1" ∷ [], "0", [])
    ∷ ("incr of nothing", "" ∷ [], "1", "empty string treated as 0 in builtin `incr'" ∷ [])
    ∷ ("incr of white space", " " ∷ [], "", "non-numeric argument to builtin `incr'" ∷ [])
    ∷ ("incr of a number after white space", "\t\n 41" ∷ [], "42", [])
    ∷ ("incr of a number before white space", "41 " ∷ [], "", "non-numeric argument to builtin `incr'" ∷ [])
    ∷ ("incr of a sign alone", "-" ∷ [], "", "non-numeric argument to builtin `incr'" ∷ [])
    ∷ ("incr of two signs", "-+1" ∷ [], "", "non-numeric argument to builtin `incr'" ∷ [])
    ∷ ("incr of a sign and a blank", "- 1" ∷ [], "", "non-numeric argument to builtin `incr'" ∷ [])
    ∷ ("incr without arguments", [], "", "too few arguments to builtin `incr'" ∷ [])
    ∷ ("incr with two", "1" ∷ "2" ∷ [], "2", "excess arguments to builtin `incr' ignored" ∷ [])
    ∷ [])
unfolding digits
incr_rows = refl

-- `decr`
decr_rows : Answers Decr bare (
    ("decr", "-7" ∷ [], "-8", [])
    ∷ ("decr wraps", "-2147483648" ∷ [], "2147483647", [])
    ∷ ("decr of 0", "0" ∷ [], "-1", [])
    ∷ [])
unfolding digits
decr_rows = refl

-- A definition as the argument, and a warning in wrapped text.
other_incr_rows : Calls (
    row "incr of a definition" Incr (token Len ∷ []) here bare
    (answer bare "1" ("empty string treated as 0 in builtin `incr'" ∷ []))
    ∷ row "a warning in wrapped text" Incr (texts ("x" ∷ [])) wrapped bare
    (record (still bare) { messages = codes "m4: Warning: non-numeric argument to builtin `incr'\n" })
    ∷ [])
unfolding digits
other_incr_rows = refl
