use Rattle.std.proofs.Common.{◌≡◌, false, sym, ◌∙◌}
use Rattle.std.specs.Str.{bytes_eq}
use Rattle.m4_builtins.specs.Args.{text_of_arg}
use Rattle.m4_builtins.proofs.Chosen.{chosen_short, chosen_later}
use Rattle.m4_builtins.proofs.branching.chosen.Goals as goal

-- the arguments after the first three choose
pub loop-rest-preserved : goal.loop-rest-preserved
loop-rest-preserved c =
    let differ : bytes_eq (text_of_arg c.x-item.result) (text_of_arg c.y-item.result) ≡ false =
    (λ i. bytes_eq (sym c.text_of.ensures i) (sym c.text_of-in-len3-up.ensures i)) ∙ sym c.are_equal.ensures
    ∙ c.if-are_equal.false in
    chosen_later c.loop-rest.rest.now c.x-item.result c.y-item.result c.in_default-others.len_at_least c.x-item.is c.y-item.is differ ∙ c.loop-rest.invariant

-- fewer than three are left
pub returns : goal.returns
returns c = sym (chosen_short c.loop-rest.rest.now c.in_default.len_below) ∙ c.loop-rest.invariant
