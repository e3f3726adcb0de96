use Rattle.std.proofs.Common.{◌≡◌, refl, sym, ap, ◌∙◌, Some, None, [], ◌++◌, rules, length, take, drop, ◌-◌}
use Rattle.std.specs.Prelude.{FitsSigned}
use Rattle.std.specs.Int.{w32}
use Rattle.std.proofs.lemmas.Int.{to_z-of_z}
use Rattle.std.proofs.lemmas.Result.{on_ok_weaker}
use Rattle.m4_builtins.specs.Acted.{only_warning}
use Rattle.m4_builtins.specs.Args.{text_of_arg}
use Rattle.m4_builtins.specs.Texts.{from_place, at_most}
use Rattle.m4_builtins.proofs.Cut.{pushed_with, number_of, warning_on, read_of, warned_of, substr-no_count}
use Rattle.m4_builtins.proofs.Cut.{substr-rest, substr-counted}
use Rattle.m4_builtins.proofs.texts.substr.Goals as goal
use Rattle.m4_builtins.proofs.texts.substr.Goals.{in_default-counts, in-len1-up+in_ok-count+in-Some-2}

-- the count is no number
pub returns-in_default-3 : goal.returns-in_default-3
returns-in_default-3 c =
    let p = c.args.place.now in
    let list = c.args.list.now in
    let a = c.text-item.result in
    let b = c.from-item.result in
    let d = c.count-item.result in
    let number : Some c.in-Some.from ≡ number_of b = read_of _ _ _ b c.in-Some.is c.in_ok-from.ensures.number c.text_of.ensures in
    let number_2 : None ≡ number_of d = read_of _ _ _ d c.in_default-3.is c.in_ok-count.ensures.number c.text_of-in-len1-up.ensures in
    let warned : c.number_in.new.effect ≡ only_warning (warning_on p b) =
    warned_of p _ _ [] _ b c.requires c.in_ok-from.ensures.warns c.text_of.ensures in
    warned_of p _ _ (warning_on p b) _ d warned c.in_ok-count.ensures.warns c.text_of-in-len1-up.ensures
    ∙ sym (substr-no_count p list (take (length list - 2) (drop 2 list)) a b c.in-len2-up.len_at_least c.text-item.is
    c.from-item.is refl c.in-Some.from number d c.in-len1-up.len_at_least c.count-item.is number_2)

-- there is no count, or it is a number
pub returns : goal.returns
returns c =
    let p = c.args.place.now in
    let list = c.args.list.now in
    let a = c.text-item.result in
    let b = c.from-item.result in
    let from = c.in-Some.from in
    let counts = take (length list - 2) (drop 2 list) in
    let fits : FitsSigned w32 from = search rules in
    let cut : c.from_place-part.result.now ≡ from_place from c.text_of-2.result.now = rw (to_z-of_z w32 from fits) at c.from_place-part.ensures in
    let number : Some from ≡ number_of b = read_of _ _ _ b c.in-Some.is c.in_ok-from.ensures.number c.text_of.ensures in
    let warned : c.number_in.new.effect ≡ only_warning (warning_on p b) =
    warned_of p _ _ [] _ b c.requires c.in_ok-from.ensures.warns c.text_of.ensures in
    elim c.if-counts-lt1.branch [
      | in_default-counts w ↦
          on_ok_weaker c.give_copy.result (λ made. sym (
          substr-rest p list counts a b c.in-len2-up.len_at_least c.text-item.is c.from-item.is refl from number w.in_default-counts.len_below
          ∙ pushed_with _ _ (warning_on p b) _ (from_place from (text_of_arg a)) (w.effect-is ∙ warned) made
          (ap (λ v. v.now) w.part-is ∙ cut ∙ ap (from_place from) c.text_of-2.ensures)))
          c.give_copy.ensures
      | in-len1-up+in_ok-count+in-Some-2 w ↦
          let d = w.count-item.result in
          let count = w.in-Some-2.count in
          let fits_2 : FitsSigned w32 count = search rules in
          let cut_2 : w.at_most-part.result.now ≡ at_most count c.from_place-part.result.now = rw (to_z-of_z w32 count fits_2) at w.at_most-part.ensures in
          let number_2 : Some count ≡ number_of d = read_of _ _ _ d w.in-Some-2.is w.in_ok-count.ensures.number w.text_of-in-len1-up.ensures in
          let warned_2 = warned_of p _ _ (warning_on p b) _ d warned w.in_ok-count.ensures.warns w.text_of-in-len1-up.ensures in
          on_ok_weaker c.give_copy.result (λ made. sym (
          substr-counted p list counts a b c.in-len2-up.len_at_least c.text-item.is c.from-item.is refl from number d
          count w.in-len1-up.len_at_least w.count-item.is number_2
          ∙ pushed_with _ _ (warning_on p b ++ warning_on p d) _ (at_most count (from_place from (text_of_arg a))) (w.effect-is ∙ warned_2) made
          (ap (λ v. v.now) w.part-is ∙ cut_2 ∙ ap (at_most count) (cut ∙ ap (from_place from) c.text_of-2.ensures))))
          c.give_copy.ensures
    ]
