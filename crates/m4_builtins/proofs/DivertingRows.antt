-- DivertingRows: worked calls of `divert`, `undivert` and `divnum`.
-- What a row says is in `CallRows`.
use Rattle.std.proofs.Common.{[], ◌∷◌, refl}
use Rattle.std.specs.Prelude.{codes, pos, negsuc}
use Rattle.std.specs.Fmt.{digits}
use Rattle.m4_state.specs.declared.builtin.Builtin.TheVariants.{Divert, Undivert, Divnum}
use Rattle.m4_builtins.proofs.CallRows.{answer, Calls, row, texts, warnings, still}
use Rattle.m4_builtins.proofs.CallRows.{diverted, here, bare, split, diverting, discarding}

-- `divert`
divert_rows : Calls (
    row "divert to a number" Divert (texts ("3" ∷ [])) here split
    (still (diverted ((pos 1, codes "one\n") ∷ (pos 2, codes "two\n") ∷ (pos 5, codes "five") ∷ []) (pos 3)))
    ∷ row "divert to a number below 0" Divert (texts (" -1" ∷ [])) here split
    (still (diverted ((pos 1, codes "one\n") ∷ (pos 2, codes "two\n") ∷ (pos 5, codes "five") ∷ []) (negsuc 0)))
    ∷ row "divert without a number" Divert [] here diverting
    (still (diverted ((pos 1, codes "one\n") ∷ (pos 2, codes "two\n") ∷ []) (pos 0)))
    ∷ row "divert to an empty number" Divert (texts ("" ∷ [])) here diverting
    (answer (diverted ((pos 1, codes "one\n") ∷ (pos 2, codes "two\n") ∷ []) (pos 0)) ""
    ("empty string treated as 0 in builtin `divert'" ∷ []))
    ∷ row "divert to no number" Divert (texts ("x" ∷ [])) here diverting
    (answer diverting "" ("non-numeric argument to builtin `divert'" ∷ []))
    ∷ row "divert with two arguments, the first no number" Divert (texts ("1x" ∷ "2" ∷ [])) here diverting
    (answer diverting ""
    ("excess arguments to builtin `divert' ignored" ∷ "non-numeric argument to builtin `divert'" ∷ []))
    ∷ row "divert to the least number" Divert (texts ("-2147483648" ∷ [])) here bare
    (still (diverted [] (negsuc 2147483647)))
    ∷ row "divert to a number below the least" Divert (texts ("-2147483649" ∷ [])) here bare
    (answer bare "" ("non-numeric argument to builtin `divert'" ∷ []))
    ∷ row "divert to the greatest number" Divert (texts ("+0002147483647" ∷ [])) here bare
    (still (diverted [] (pos 2147483647)))
    ∷ row "divert to a number above the greatest" Divert (texts ("2147483648" ∷ [])) here bare
    (answer bare "" ("non-numeric argument to builtin `divert'" ∷ []))
    ∷ [])
unfolding digits
divert_rows = refl

-- `undivert`
undivert_rows : Calls (
    row "undivert of all to the output" Undivert [] here split (record (still bare) { output = codes "one\ntwo\nfive" })
    ∷ row "undivert of all to a diversion" Undivert [] here diverting
    (still (diverted ((pos 2, codes "two\none\n") ∷ []) (pos 2)))
    ∷ row "undivert of all where text is discarded" Undivert [] here discarding (still (diverted [] (negsuc 0)))
    ∷ row "undivert of some, in their order" Undivert (texts ("5" ∷ "x" ∷ "1" ∷ "" ∷ "5" ∷ "7" ∷ "-1" ∷ [])) here split
    (record (still (diverted ((pos 2, codes "two\n") ∷ []) (pos 0))) {
      messages = warnings ("non-numeric argument to builtin `undivert'"
          ∷ "empty string treated as 0 in builtin `undivert'" ∷ []);
      output = codes "fiveone\n";
    })
    ∷ row "undivert of the current one and another, to a diversion" Undivert (texts ("2" ∷ "1" ∷ [])) here diverting
    (still (diverted ((pos 2, codes "two\none\n") ∷ []) (pos 2)))
    ∷ row "undivert of one where text is discarded" Undivert (texts ("2" ∷ [])) here discarding
    (still (diverted ((pos 1, codes "one\n") ∷ []) (negsuc 0)))
    ∷ row "undivert of number 0" Undivert (texts ("0" ∷ [])) here diverting (still diverting)
    ∷ [])
unfolding digits
undivert_rows = refl

-- `divnum`
divnum_rows : Calls (
    row "divnum" Divnum [] here diverting (answer diverting "2" [])
    ∷ row "divnum below 0" Divnum [] here discarding (answer discarding "-1" [])
    ∷ row "divnum with an argument" Divnum (texts ("x" ∷ [])) here split
    (answer split "0" ("excess arguments to builtin `divnum' ignored" ∷ []))
    ∷ [])
unfolding digits
divnum_rows = refl
