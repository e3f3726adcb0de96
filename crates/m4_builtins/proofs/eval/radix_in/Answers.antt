-- A text that is not empty is read as a number, and that as a radix.
use Rattle.std.proofs.Common.{◌≡◌, ◌≢◌, [], Some, rules, sym, subst}
use Rattle.std.specs.Prelude.{FitsSigned}
use Rattle.std.specs.Int.{w32}
use Rattle.std.proofs.lemmas.Int.{to_z-of_z}
use Rattle.m4_state.specs.declared.builtin.Builtin.TheVariants.{Eval}
use Rattle.m4_eval.specs.InRadix.{radix_at}
use Rattle.m4_builtins.specs.Eval.{with_radix}
use Rattle.m4_builtins.specs.Numeric.{reading_of, number_of_reading, reading_warning}
use Rattle.m4_builtins.specs.ReadsAs.{ReadsAs}
use Rattle.m4_builtins.specs.Warned.{with_messages}
use Rattle.m4_builtins.proofs.EvalReads.{radix_of_number, radix_kept, radix_lost, radix_read}
use Rattle.m4_builtins.proofs.eval.radix_in.Goals as goal
use Rattle.m4_builtins.proofs.eval.radix_in.Goals.{then-is_none+in_ok-add_warning}
use Rattle.m4_builtins.proofs.eval.radix_in.Goals.{else-is_none}

pub returns : goal.returns
returns c =
    let p = c.args.place.now in
    let text = c.args.text.now in
    let n = c.in-Some.number in
    let fits : FitsSigned w32 n = search rules in
    let radix : c.new-radix.result ≡ radix_at n = rw (to_z-of_z w32 n fits) at c.new-radix.ensures.radix in
    let some : text ≢ [] = search rules in
    let read : Some n ≡ number_of_reading (reading_of text) = search rules in
    let warned : c.number_in.new.effect ≡ with_messages c.args.effect.now (reading_warning p Eval (reading_of text)) = c.in_ok-number.ensures.warns in
    let after_it : ReadsAs (radix_of_number p n) (radix_at n) c.number_in.new.effect c.if-is_none.effect =
    elim c.if-is_none.branch [
      | then-is_none+in_ok-add_warning w ↦ radix_lost p _ _ (radix_at n) (search rules) (search rules)
      | else-is_none w ↦ radix_kept p _ _ (radix_at n) (search rules) (search rules)
    ] in
    subst (λ o. ReadsAs (with_radix p text) o c.args.effect.now c.if-is_none.effect) (sym radix)
    (radix_read p text n c.args.effect.now c.number_in.new.effect c.if-is_none.effect some read warned after_it)
