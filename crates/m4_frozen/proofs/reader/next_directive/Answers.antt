-- Two strings are read by one layout, whatever directive they make.
use Rattle.std.proofs.Common.{◌≡◌, ℕ, List, ◌∷◌, Ok, Err, Some, rules, arith, ap, ◌∙◌, refl}
use Rattle.std.proofs.lemmas.Grind.{common_steps}
use Rattle.m4_frozen.specs.Directive.{Directive, Quotes, Comments, Text, Builtin}
use Rattle.m4_frozen.specs.Layout.{Layout, layout_of, pair_layout}
use Rattle.m4_frozen.specs.ReaderSteps.{◌>>=◌, Step, layout_at, directive_by, directive_at, next_at}
use Rattle.m4_frozen.proofs.reader.next_directive.Goals as goal

-- a directive is read by the layout of its letter
by_layout : (letter : ℕ) (l : Layout Directive) (bytes rest : List ℕ) (r : Step Directive) → bytes ≡ letter ∷ rest
    → layout_of letter ≡ Some l → layout_at l rest ≡ r → next_at bytes ≡ (r >>= λ d. Ok (Some d))
unfolding directive_at
by_layout letter l bytes rest r e k h =
    ap next_at e ∙ ap (λ o. directive_by o letter rest >>= λ d. Ok (Some d)) k ∙ ap (λ s. s >>= λ d. Ok (Some d)) h

pub returns-in_err-begin-in-81-clause-gives : goal.returns-in_err-begin-in-81-clause-gives
returns-in_err-begin-in-81-clause-gives c =
    let is : c.from_residual.result ≡ Err c.in_err-begin-in-81.field-0.0 = search rules in
    rw is (by_layout 81 (pair_layout Quotes) c.args.bytes.now _ _ (grind (arith, common_steps)) refl (c.in_err-begin-in-81.ensures Quotes))

pub returns-in_err-begin-in-67-clause-gives : goal.returns-in_err-begin-in-67-clause-gives
returns-in_err-begin-in-67-clause-gives c =
    let is : c.from_residual-in_err-begin-in-67.result ≡ Err c.in_err-begin-in-67.field-0.0 = search rules in
    rw is (by_layout 67 (pair_layout Comments) c.args.bytes.now _ _ (grind (arith, common_steps)) refl (c.in_err-begin-in-67.ensures Comments))

pub returns-in_err-both-in-84-clause-gives : goal.returns-in_err-both-in-84-clause-gives
returns-in_err-both-in-84-clause-gives c =
    let is : c.from_residual-in_err-both-in-84.result ≡ Err c.in_err-both-in-84.field-0.0 = search rules in
    rw is (by_layout 84 (pair_layout Text) c.args.bytes.now _ _ (grind (arith, common_steps)) refl (c.in_err-both-in-84.ensures.gives Text))

pub returns-in_err-name-in-70-clause-gives : goal.returns-in_err-name-in-70-clause-gives
returns-in_err-name-in-70-clause-gives c =
    let is : c.from_residual-in_err-name-in-70.result ≡ Err c.in_err-name-in-70.field-0.0 = search rules in
    rw is (by_layout 70 (pair_layout Builtin) c.args.bytes.now _ _ (grind (arith, common_steps)) refl (c.in_err-name-in-70.ensures Builtin))

pub returns-in_ok-begin-in-81-clause-gives : goal.returns-in_ok-begin-in-81-clause-gives
returns-in_ok-begin-in-81-clause-gives c =
    by_layout 81 (pair_layout Quotes) c.args.bytes.now _ _ (grind (arith, common_steps)) refl (c.in_ok-begin-in-81.ensures Quotes)

pub returns-in_ok-begin-in-67-clause-gives : goal.returns-in_ok-begin-in-67-clause-gives
returns-in_ok-begin-in-67-clause-gives c =
    by_layout 67 (pair_layout Comments) c.args.bytes.now _ _ (grind (arith, common_steps)) refl (c.in_ok-begin-in-67.ensures Comments)

pub returns-in_ok-both-in-84-clause-gives : goal.returns-in_ok-both-in-84-clause-gives
returns-in_ok-both-in-84-clause-gives c =
    by_layout 84 (pair_layout Text) c.args.bytes.now _ _ (grind (arith, common_steps)) refl (c.in_ok-both-in-84.ensures.gives Text)

pub returns-in_ok-name-in-70-clause-gives : goal.returns-in_ok-name-in-70-clause-gives
returns-in_ok-name-in-70-clause-gives c =
    by_layout 70 (pair_layout Builtin) c.args.bytes.now _ _ (grind (arith, common_steps)) refl (c.in_ok-name-in-70.ensures Builtin)
