-- EndingRows: worked calls of `errprint`, `__file__`, `__line__`, `m4wrap` and `m4exit`.
-- What a row says is in `CallRows`.
use Rattle.std.proofs.Common.{Some, [], ◌∷◌, refl}
use Rattle.std.specs.Prelude.{codes}
use Rattle.std.specs.Fmt.{digits}
use Rattle.m4_state.specs.declared.builtin.Builtin.TheVariants.{Errprint, M4wrap, M4exit, File, Line}
use Rattle.m4_builtins.proofs.CallRows.{answer, Calls, row, texts, warnings}
use Rattle.m4_builtins.proofs.CallRows.{still, here, below, wrapped, bare, bracketed}

-- `errprint` and `m4wrap`
joining_rows : Calls (
    row "errprint joins by spaces" Errprint (texts ("a" ∷ "" ∷ "b" ∷ [])) here bare
    (record (still bare) { messages = codes "a  b" })
    ∷ row "errprint without arguments" Errprint [] here bare (still bare)
    ∷ row "m4wrap joins by spaces" M4wrap (texts ("a" ∷ "b" ∷ [])) here bare
    (record (still bare) { wrap = Some (codes "a b") })
    ∷ row "m4wrap of nothing saves an empty text" M4wrap [] here bare (record (still bare) { wrap = Some [] })
    ∷ [])
unfolding digits
joining_rows = refl

-- `m4exit`
m4exit_rows : Calls (
    row "m4exit without a code" M4exit [] here bare (record (still bare) { exit = Some 0 })
    ∷ row "m4exit with a code" M4exit (texts ("255" ∷ [])) here bare (record (still bare) { exit = Some 255 })
    ∷ row "m4exit with a code that is too large" M4exit (texts ("256" ∷ [])) here bare
    (record (still bare) { messages = warnings ("exit status out of range" ∷ []); exit = Some 1 })
    ∷ row "m4exit with a code below 0" M4exit (texts ("-1" ∷ [])) here bare
    (record (still bare) { messages = warnings ("exit status out of range" ∷ []); exit = Some 1 })
    ∷ row "m4exit with an empty code" M4exit (texts ("" ∷ [])) here bare
    (record (still bare) {
      messages = warnings ("empty string treated as 0 in builtin `m4exit'" ∷ []);
      exit = Some 0;
    })
    ∷ row "m4exit with no number" M4exit (texts ("x" ∷ [])) here bare
    (record (still bare) { messages = warnings ("non-numeric argument to builtin `m4exit'" ∷ []); exit = Some 1 })
    ∷ row "m4exit with two arguments" M4exit (texts ("300" ∷ "x" ∷ [])) here bare
    (record (still bare) {
      messages = warnings ("excess arguments to builtin `m4exit' ignored"
          ∷ "exit status out of range" ∷ []);
      exit = Some 1;
    })
    ∷ [])
unfolding digits
m4exit_rows = refl

-- `__file__` and `__line__`
place_rows : Calls (
    row "the file's name in quotes" File [] below bracketed (answer bracketed "[b.m4]" [])
    ∷ row "the file's name in wrapped text" File [] wrapped bare (answer bare "`'" [])
    ∷ row "the line" Line [] below bare (answer bare "12" [])
    ∷ row "the line in wrapped text" Line [] wrapped bare (answer bare "0" [])
    ∷ [])
unfolding digits
place_rows = refl
