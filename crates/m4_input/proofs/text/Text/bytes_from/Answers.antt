use Rattle.std.proofs.Common.{◌≡◌, ◌+◌, ◌-◌, ◌≤◌, ◌++◌, List, ℕ, length, drop, ap, ◌∙◌, sym, arith, length-append}
use Rattle.m4_input.specs.Text.{joined, text_in}
use Rattle.m4_input.proofs.Joins.{text_first, late_bytes}
use Rattle.m4_input.proofs.text.Text.bytes_from.Goals as goal

pub returns-then-at-pushed : goal.returns-then-at-pushed
returns-then-at-pushed c =
    let s = c.self.inside in
    let above : List ℕ = s.top ++ joined s.below.items in
    let long : length above ≡ length s.top + length (joined s.below.items) = length-append s.top (joined s.below.items) in
    let count : c.len.result + s.held ≡ length above = omega (arith, long, c.len.ensures.len, c.self.invariant) in
    let late : length above ≤ c.args.at = omega (arith, count, c.if-at-pushed.true) in
    c.split_at.ensures.back ∙ ap (λ m. drop (c.args.at - m) c.rest.result.now) count ∙ ap (drop (c.args.at - length above)) c.rest.ensures
    ∙ sym (late_bytes above (text_in s.file) c.args.at late) ∙ ap (drop c.args.at) (sym (text_first above s.file) ∙ ap text_in c.self.view_is)
