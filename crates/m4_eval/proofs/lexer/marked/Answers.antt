-- The run after a mark.
use Rattle.std.proofs.Common.{rules, ◌≡◌, ◌+◌, suc, length, Some, None, sym, ap, ◌∙◌, arith, w32, SFits, to_z-of_z}
use Rattle.m4_eval.proofs.Numbers.{marked_is, run_is}
use Rattle.m4_eval.proofs.lexer.marked.Goals as goal

pub returns-in_err-whole-clause-value : goal.returns-in_err-whole-clause-value
returns-in_err-whole-clause-value c =
    c.from_residual.ensures
    ∙ marked_is c.args.radix c.args.after.now c.split_at.result.0.now None
    (run_is c.args.after.now c.split_at.result.0.now c.run_len.result c.run_len.ensures.len c.split_at.ensures.front)
    (sym c.in_err-whole.was ∙ c.whole.ensures)

pub returns-clause-value : goal.returns-clause-value
returns-clause-value c =
    let fits : SFits w32 c.in_ok-whole.field-0 = search rules in
    let one : length c.split_at.result.0.now + 1 ≡ suc (length c.split_at.result.0.now) = omega arith in
    ap (λ z. Some (z, length c.split_at.result.0.now + 1)) (to_z-of_z fits)
    ∙ ap (λ k. Some (c.in_ok-whole.field-0, k)) one
    ∙ marked_is c.args.radix c.args.after.now c.split_at.result.0.now (Some c.in_ok-whole.field-0)
    (run_is c.args.after.now c.split_at.result.0.now c.run_len.result c.run_len.ensures.len c.split_at.ensures.front)
    (sym c.in_ok-whole.was ∙ c.whole.ensures)
