use Rattle.std.proofs.Common.{◌≤◌, ◌+◌, ◌∙◌, ℕ, drop, length, not, ap, sym, arith, rules}
use Rattle.std.specs.Prelude.{◌==◌}
use Rattle.m4_input.specs.Ascii.{dollar}
use Rattle.m4_input.proofs.Prefixes.{run_is_prefix}
use Rattle.m4_builtins.proofs.RunsOn.{run_from}
use Rattle.m4_builtins.proofs.substitute.plain_len.Goals as goal

-- the run seen from the place of the sixteen bytes, which is not after the place up to which it is known
pub returns-then-plain-lt-LANES-clause-value : goal.returns-then-plain-lt-LANES-clause-value
returns-then-plain-lt-LANES-clause-value c =
    let at = c.min-at.result in
    let near : at ≤ c.loop-k.k = search rules in
    let known = c.loop-k.invariant.1 in
    let from = run_from (λ b. not (b == dollar)) at c.args.bytes.now (omega (arith, near, known)) in
    ap (λ (n : ℕ). at + n) (sym (run_is_prefix (λ b. not (b == dollar)) (drop at c.args.bytes.now) ∙ c.len_before-plain.ensures.ends (search rules))) ∙ from

pub loop-k-preserved : goal.loop-k-preserved
loop-k-preserved c =
    let at = c.min-at.result in
    let near : at ≤ c.loop-k.k = search rules in
    let room : at + 16 ≤ length c.args.bytes.now = search rules in
    let known = c.loop-k.invariant.1 in
    let from = run_from (λ b. not (b == dollar)) at c.args.bytes.now (omega (arith, near, known)) in
    let here = run_is_prefix (λ b. not (b == dollar)) (drop at c.args.bytes.now) in
    let next = run_is_prefix (λ b. not (b == dollar)) (drop (at + 16) c.args.bytes.now) in
    let on = c.len_before-plain.ensures.passes (search rules) in
    (room, omega (arith, from, here, next, on))
