-- Subst: a text definition with the arguments of a call substituted. Its point is `subst`.
-- Believed. Manual: "Arguments to macros", "Special arguments to macros". Words: after_dollar, all_quoted, subst.
-- own: `$` and the longest run of digits is one number.
use Rattle.std.specs.Prelude.{ℕ, zero, suc, ◌+◌, ◌-◌, ◌*◌, ◌==◌, List, [], ◌∷◌, ◌++◌, length, take, fold, map}
use Rattle.std.specs.Prelude.{if◌then◌else◌, slice_get, unwrap_or}
use Rattle.std.specs.Fmt.{decimal}
use Rattle.m4_state.specs.declared.delimiters.Delimiters.{Delimiters}
use Rattle.m4_input.specs.Ascii.{dollar, hash, star, at_sign, comma, digit_zero, is_digit}
use Rattle.m4_input.specs.Token.{run_length}
use Rattle.m4_builtins.specs.declared.args.Arg.{Arg}
use Rattle.m4_builtins.specs.Args.{text_of_arg, joined_by, quoted}

-- the number that decimal digits spell
abbrev pub number_of : List ℕ → ℕ
number_of digits = fold (λ n d. n * 10 + (d - digit_zero)) 0 digits

-- number 0 is the name, the others are the arguments; nothing above their count
abbrev pub nth_text : List ℕ → List (List ℕ) → ℕ → List ℕ
nth_text name texts zero = name
nth_text name texts (suc n) = unwrap_or (slice_get texts n) []

-- the arguments joined by commas, each between quotes: `$@`, and `shift` for those after the first
abbrev pub all_quoted : Delimiters → List (List ℕ) → List ℕ
all_quoted q texts = joined_by (comma ∷ []) (map (quoted q) texts)

-- the replacement of a `$` before these bytes, and how many of them it uses
abbrev pub after_dollar : List ℕ → List (List ℕ) → Delimiters → List ℕ → List ℕ × ℕ
after_dollar name texts q [] = (dollar ∷ [], 0)
after_dollar name texts q (b ∷ x) =
    if is_digit b then (let n = run_length is_digit (b ∷ x) in (nth_text name texts (number_of (take n (b ∷ x))), n))
    else (if b == hash then (decimal (length texts), 1)
    else (if b == star then (joined_by (comma ∷ []) texts, 1)
    else (if b == at_sign then (all_quoted q texts, 1)
    else (dollar ∷ [], 0))))

-- the text after its first `skip` bytes, with the arguments substituted
abbrev pub subst_from : List ℕ → List (List ℕ) → Delimiters → ℕ → List ℕ → List ℕ
subst_from name texts q skip [] = []
subst_from name texts q (suc skip) (b ∷ x) = subst_from name texts q skip x
subst_from name texts q zero (b ∷ x) =
    let p : List ℕ × ℕ = if b == dollar then after_dollar name texts q x else (b ∷ [], 0) in
    p.0 ++ subst_from name texts q p.1 x

-- a text with a call's name and arguments substituted, by the current quotes
abbrev pub subst : List ℕ → List ℕ → List Arg → Delimiters → List ℕ
subst text name list q = subst_from name (map text_of_arg list) q 0 text
