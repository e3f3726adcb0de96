use Rattle.std.proofs.Common.{cond, eqb, sym, ap, ◌∙◌, arith}
use Rattle.std.proofs.lemmas.Simd.{first_set_mask_l}
use Rattle.std.proofs.lemmas.Bool.{eq-eqb, ne_eqb}
use lib.Count.{count_trailing_zeros}
use Rattle.m4_state.proofs.lanes.first_lane.Goals as goal

pub returns-then-marks-eq0 : goal.returns-then-marks-eq0
returns-then-marks-eq0 c p x long is =
    ap (λ v. cond v 16 (count_trailing_zeros 64 c.args.marks)) (sym (eq-eqb c.args.marks 0 c.if-marks-eq0.true))
    ∙ ap (λ k. cond (eqb k 0) 16 (count_trailing_zeros 64 k)) is
    ∙ first_set_mask_l p x 16 long (omega arith)

pub returns-else-marks-eq0 : goal.returns-else-marks-eq0
returns-else-marks-eq0 c p x long is =
    ap (λ v. cond v 16 (count_trailing_zeros 64 c.args.marks)) (sym (ne_eqb c.args.marks 0 c.if-marks-eq0.false))
    ∙ ap (λ k. cond (eqb k 0) 16 (count_trailing_zeros 64 k)) is
    ∙ first_set_mask_l p x 16 long (omega arith)
