use Rattle.std.proofs.Common.{◌≡◌, ℤ, pos, Some, refl, sym, ap, ◌∙◌, rules, w32}
use Rattle.std.specs.Fmt.{signed_decimal}
use Rattle.std.specs.Int.{int_wrapping_add}
use Rattle.std.proofs.lemmas.Result.{IfOk-weaker}
use Rattle.m4_state.specs.declared.builtin.Builtin.TheVariants.{Incr}
use Rattle.m4_input.specs.declared.pushed.Pushed.TheVariants as pushes
use Rattle.m4_builtins.specs.declared.effect.Effect.{Effect}
use Rattle.m4_builtins.specs.Acted.{only_warning}
use Rattle.m4_builtins.specs.Args.{text_at}
use Rattle.m4_builtins.specs.Numeric.{reading_of, number_of_reading, reading_warning}
use Rattle.m4_builtins.proofs.WithNumber.{with_number-expands}
use Rattle.m4_builtins.proofs.arithmetic.incr.Goals as goal

-- the text is that of the number
pub returns-in-Some : goal.returns-in-Some
returns-in-Some c =
    let p = c.args.place.now in
    let r = reading_of (text_at c.args.list.now 0) in
    let text = λ (n : ℤ). signed_decimal (int_wrapping_add w32 n (pos 1)) in
    let read : Some c.in-Some.number ≡ number_of_reading r = search rules in
    let warned : c.number_in.new.effect ≡ only_warning (reading_warning p Incr r) = search rules in
    IfOk-weaker c.give_number.result _ _
    (λ done made. made ∙ ap (λ (e : Effect). record e { push = Some (pushes.Text (text c.in-Some.number)) }) warned
    ∙ sym (with_number-expands p Incr text r c.in-Some.number (reading_warning p Incr r) read refl))
    c.give_number.ensures
