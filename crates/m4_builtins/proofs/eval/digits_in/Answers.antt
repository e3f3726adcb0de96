-- The radix, the width and the value are read one after the other.
use Rattle.std.proofs.Common.{◌≡◌, ℕ, List, Some, None, rules, sym, subst}
use Rattle.std.specs.Prelude.{FitsSigned, option_copied, option_map, slice_get}
use Rattle.std.specs.Int.{w32}
use Rattle.std.proofs.lemmas.Int.{to_z-of_z}
use Rattle.m4_builtins.specs.Args.{text_of_arg, texts_of, text_at}
use Rattle.m4_builtins.specs.Eval.{with_radix, with_width, with_expression, with_digits}
use Rattle.m4_builtins.specs.ReadsAs.{ReadsAs}
use Rattle.m4_builtins.proofs.EvalReads.{third as third_text, reads_same, width_missing, digits_read}
use Rattle.m4_builtins.proofs.eval.digits_in.Goals as goal

pub returns-in_default-2 : goal.returns-in_default-2
returns-in_default-2 c =
    let p = c.args.place.now in
    let list = c.args.list.now in
    let third : option_map text_of_arg (option_copied c.get.result) ≡ slice_get (texts_of list) 2 =
    third_text list c.get.result _ c.get.ensures.lookup.3 c.get.ensures.lookup.1 in
    let r = reads_same (with_radix p) _ (text_at list 1) _ (Some c.in-Some.radix) c.args.effect.now
    c.radix_in.new.effect c.text_at.ensures (search rules) c.in_ok-radix.ensures in
    let w = reads_same (with_width p) _ (slice_get (texts_of list) 2) _ None c.radix_in.new.effect
    c.width_in.new.effect third (search rules) c.in_ok-width.ensures in
    width_missing p list c.in-Some.radix c.args.effect.now c.radix_in.new.effect c.width_in.new.effect r w

pub returns-in_default-3 : goal.returns-in_default-3
returns-in_default-3 c =
    let p = c.args.place.now in
    let list = c.args.list.now in
    let third : option_map text_of_arg (option_copied c.get.result) ≡ slice_get (texts_of list) 2 =
    third_text list c.get.result _ c.get.ensures.lookup.3 c.get.ensures.lookup.1 in
    let r = reads_same (with_radix p) _ (text_at list 1) _ (Some c.in-Some.radix) c.args.effect.now
    c.radix_in.new.effect c.text_at.ensures (search rules) c.in_ok-radix.ensures in
    let w = reads_same (with_width p) _ (slice_get (texts_of list) 2) _ (Some c.in-Some-2.width)
    c.radix_in.new.effect c.width_in.new.effect third (search rules) c.in_ok-width.ensures in
    let v = reads_same (with_expression p) _ (text_at list 0) _ None c.width_in.new.effect
    c.value_in.new.effect c.text_at-2.ensures (search rules) c.in_ok-value.ensures in
    digits_read p list c.in-Some.radix c.in-Some-2.width None c.args.effect.now c.radix_in.new.effect
    c.width_in.new.effect c.value_in.new.effect r w v

pub returns : goal.returns
returns c =
    let p = c.args.place.now in
    let list = c.args.list.now in
    let n = c.in-Some-3.value in
    let fits : FitsSigned w32 n = search rules in
    let written = rw (to_z-of_z w32 n fits) at c.in_ok-in_radix.ensures.text in
    let third : option_map text_of_arg (option_copied c.get.result) ≡ slice_get (texts_of list) 2 =
    third_text list c.get.result _ c.get.ensures.lookup.3 c.get.ensures.lookup.1 in
    let r = reads_same (with_radix p) _ (text_at list 1) _ (Some c.in-Some.radix) c.args.effect.now
    c.radix_in.new.effect c.text_at.ensures (search rules) c.in_ok-radix.ensures in
    let w = reads_same (with_width p) _ (slice_get (texts_of list) 2) _ (Some c.in-Some-2.width)
    c.radix_in.new.effect c.width_in.new.effect third (search rules) c.in_ok-width.ensures in
    let v = reads_same (with_expression p) _ (text_at list 0) _ (Some n) c.width_in.new.effect
    c.value_in.new.effect c.text_at-2.ensures (search rules) c.in_ok-value.ensures in
    subst (λ (x : List ℕ). ReadsAs (with_digits list p) (Some x) c.args.effect.now c.value_in.new.effect) (sym written)
    (digits_read p list c.in-Some.radix c.in-Some-2.width (Some n) c.args.effect.now
    c.radix_in.new.effect c.width_in.new.effect c.value_in.new.effect r w v)
